use Rattle.session.specs.inner.Held.{KeepsIndexes, SameHeld}
use Rattle.session.proofs.Book.make_places.Given as goal

abbrev pub invariant-loop : goal.invariant-loop
invariant-loop l = SameHeld l.fn.self l.self × KeepsIndexes l.fn.self l.self
