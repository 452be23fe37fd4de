use Rattle.shortest.specs.inner.Kept.{Kept, NextTurn}
use Rattle.shortest.proofs.reached.Reached.turn.Given as goal

abbrev pub invariant-loop-y : goal.invariant-loop-y
invariant-loop-y l = Kept l.asked l.self l.y × NextTurn l.self l.initial.self.over l.k l.x
