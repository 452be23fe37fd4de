use Rattle.std.proofs.Common.{◌≡◌, ◌+◌, ◌-◌, ◌≤◌, drop}
use Rattle.element.specs.Limits.{deepest}
use Rattle.element.specs.Machine.{full}
use Rattle.element.proofs.progress.Progress.innermost.Given as goal

abbrev pub invariant-loop-levels : goal.invariant-loop-levels
invariant-loop-levels l = (l.levels ≤ deepest) × (l.levels + full (drop l.levels l.self.rooms) ≡ l.self.levels + full (drop l.self.levels l.self.rooms))

abbrev pub decreases-loop-levels : goal.decreases-loop-levels
decreases-loop-levels l = deepest - l.levels
