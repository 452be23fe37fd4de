use Rattle.std.proofs.Common.{sym, ap, subst, arith}
use Rattle.element.specs.Progressed.{Skipped}
use Rattle.element.specs.Progressed.{left_at}
use Rattle.element.proofs.Gone.{skipped_none, skipped_some, clamped, no_contents}
use Rattle.element.proofs.progress.Progress.skip.Goals as goal

pub returns-in_default : goal.returns-in_default
returns-in_default c = skipped_none c.args.self.now c.args.limit (omega (arith, no_contents c.args.self.now.position c.in_default.not-Contents))

pub returns-then-over-eq0 : goal.returns-then-over-eq0
returns-then-over-eq0 c = skipped_none c.args.self.now c.args.limit (omega (arith, ap left_at c.in-Contents.is, clamped _ _ c.try_from.ensures))

pub returns : goal.returns
returns c =
    subst (λ k. Skipped c.args.self.now c.args.limit k c.settle.new.self) (sym c.from.ensures)
    (skipped_some c.args.self.now c.settle.new.self c.args.limit c.in-Contents.left _ c.in-Contents.is (omega arith) (omega (arith, clamped _ _ c.try_from.ensures)) c.settle.ensures)
