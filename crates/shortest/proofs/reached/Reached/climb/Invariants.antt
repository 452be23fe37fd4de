use Rattle.std.proofs.Common.{◌-◌}
use Rattle.chain.specs.Inputs.{most}
use Rattle.shortest.specs.inner.Kept.{Kept}
use Rattle.shortest.proofs.reached.Reached.climb.Given as goal

abbrev pub invariant-loop-self : goal.invariant-loop-self
invariant-loop-self l = Kept l.asked l.self 0

abbrev pub decreases-loop-self : goal.decreases-loop-self
decreases-loop-self l = most - l.self.over
