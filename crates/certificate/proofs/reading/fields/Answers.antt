use Rattle.std.proofs.Common.{sym, ◌∙◌, arith}
use Rattle.certificate.proofs.Tails.{fields_are, left_start, left_none, left_1, left_2, left_3, left_4, left_5, no_flag, more_behind, six_fields}
use Rattle.certificate.proofs.reading.fields.Goals as goal

pub returns-in_err-subject : goal.returns-in_err-subject
returns-in_err-subject c = rw c.from_residual.ensures (left_none 0 (omega arith) (left_start c.args.start) c.in_err-subject.ensures)

pub returns-in_err-issuer : goal.returns-in_err-issuer
returns-in_err-issuer c = rw c.from_residual-in_err-issuer.ensures (left_none 1 (omega arith) (left_1 c.in_ok-subject.ensures) c.in_err-issuer.ensures)

pub returns-in_err-not_before : goal.returns-in_err-not_before
returns-in_err-not_before c = rw c.from_residual-in_err-not_before.ensures (left_none 2 (omega arith) (left_2 c.in_ok-subject.ensures c.in_ok-issuer.ensures) c.in_err-not_before.ensures)

pub returns-in_err-not_after : goal.returns-in_err-not_after
returns-in_err-not_after c = rw c.from_residual-in_err-not_after.ensures (left_none 3 (omega arith) (left_3 c.in_ok-subject.ensures c.in_ok-issuer.ensures c.in_ok-not_before.ensures) c.in_err-not_after.ensures)

pub returns-in_err-number : goal.returns-in_err-number
returns-in_err-number c = rw c.from_residual-in_err-number.ensures (left_none 4 (omega arith) (left_4 c.in_ok-subject.ensures c.in_ok-issuer.ensures c.in_ok-not_before.ensures c.in_ok-not_after.ensures) c.in_err-number.ensures)

pub returns-in_err-may_issue : goal.returns-in_err-may_issue
returns-in_err-may_issue c = rw c.from_residual-in_err-may_issue.ensures (no_flag c.in_ok-subject.ensures c.in_ok-issuer.ensures c.in_ok-not_before.ensures c.in_ok-not_after.ensures c.in_ok-number.ensures c.in_err-may_issue.ensures)

pub returns-in_err-path_len : goal.returns-in_err-path_len
returns-in_err-path_len c = rw c.from_residual-in_err-path_len.ensures (left_none 5 (omega arith) (left_5 c.in_ok-subject.ensures c.in_ok-issuer.ensures c.in_ok-not_before.ensures c.in_ok-not_after.ensures c.in_ok-number.ensures) c.in_err-path_len.ensures)

pub returns-then-not-is_empty : goal.returns-then-not-is_empty
returns-then-not-is_empty c = more_behind c.in_ok-subject.ensures c.in_ok-issuer.ensures c.in_ok-not_before.ensures c.in_ok-not_after.ensures c.in_ok-number.ensures c.in_ok-path_len.ensures (sym c.is_empty.ensures ∙ c.if-not-is_empty.true)

pub returns : goal.returns
returns c = (
  record { subject = c.in_ok-subject.ensures.range; issuer = c.in_ok-issuer.ensures.range; not_before = c.in_ok-not_before.ensures.range; not_after = c.in_ok-not_after.ensures.range; path_len = c.in_ok-path_len.ensures.range },
  fields_are _ ∙ six_fields c.in_ok-subject.ensures c.in_ok-issuer.ensures c.in_ok-not_before.ensures c.in_ok-not_after.ensures c.in_ok-number.ensures c.in_ok-path_len.ensures (sym c.is_empty.ensures ∙ c.if-not-is_empty.false) c.in_ok-may_issue.may_issue c.in_ok-may_issue.ensures,
)
