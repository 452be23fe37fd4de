use Rattle.std.proofs.Common.{sym, ◌∙◌}
use Rattle.certificate.specs.Permits.{tag_of}
use Rattle.certificate.proofs.Tails.{field_other}
use Rattle.certificate.proofs.reading.number.Goals as goal

pub returns-then-first-from : goal.returns-then-first-from
returns-then-first-from c = λ n behind h e. field_other _ _ _ c.in_ok-first.ensures.steps (tag_of c.args.field) (λ k. c.if-first-from.true (k ∙ sym c.from.ensures)) n behind e
