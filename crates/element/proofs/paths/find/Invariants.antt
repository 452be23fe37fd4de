use Rattle.element.proofs.Walks.{Led}
use Rattle.element.proofs.paths.find.Given as goal

abbrev pub invariant-loop-number : goal.invariant-loop-number
invariant-loop-number l = Led l.bytes l.path l.number-index l.cursor
