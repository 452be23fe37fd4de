use Rattle.session.proofs.Known.{Begun}
use Rattle.session.proofs.writing.put.Given as goal

abbrev pub invariant-loop : goal.invariant-loop
invariant-loop g l = Begun l.bytes l.rest (g.W.Write.contents l.initial.out) (g.W.Write.contents l.out)
