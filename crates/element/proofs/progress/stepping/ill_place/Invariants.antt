use Rattle.std.proofs.Common.{length}
use Rattle.element.proofs.Gone.{Reading}
use Rattle.element.proofs.progress.stepping.ill_place.Given as goal

abbrev pub invariant-loop-rest : goal.invariant-loop-rest
invariant-loop-rest l = Reading l.bytes l.reader l.rest

abbrev pub decreases-loop-rest : goal.decreases-loop-rest
decreases-loop-rest l = length l.rest
