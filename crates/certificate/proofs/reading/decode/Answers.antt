use Rattle.std.proofs.Common.{sym, ◌∙◌}
use Rattle.certificate.proofs.Wholes.{no_element, other_tag, one_behind, whole}
use Rattle.certificate.proofs.reading.decode.Goals as goal
use Rattle.certificate.proofs.reading.decode.Goals.{then-permit-via-then-permit, then-permit-via-else-permit+then-not-is_empty}

pub returns-in_err-permit : goal.returns-in_err-permit
returns-in_err-permit c =
    rw c.from_residual.ensures (no_element c.args.bytes.now (λ t x r h e. c.in_err-permit.ensures.steps.1 t x r h (c.new-row.ensures.rest ∙ e)))

pub returns-then-permit : goal.returns-then-permit
returns-then-permit c =
    let passes = c.in_ok-permit.ensures.steps in
    let start = c.new-row.ensures.rest in
    elim c.then-permit.branch [ then-permit-via-then-permit w ↦ other_tag _ _ _ _ start passes w.if-permit.true | then-permit-via-else-permit+then-not-is_empty w ↦ one_behind _ _ _ _ start passes (sym w.is_empty.ensures ∙ w.if-not-is_empty.true) ]

pub returns : goal.returns
returns c =
    whole _ _ _ _ c.new-row.ensures.rest c.in_ok-permit.ensures.steps c.if-permit.false (sym c.is_empty.ensures ∙ c.if-not-is_empty.false) c.in_ok-row.field-0 c.in_ok-row.ensures.1 c.fields.result c.fields.ensures
