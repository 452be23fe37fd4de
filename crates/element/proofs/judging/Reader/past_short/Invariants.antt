use Rattle.std.proofs.Common.{length}
use Rattle.element.specs.inner.Rests.{Decides}
use Rattle.element.proofs.judging.Reader.past_short.Given as goal

abbrev pub invariant-loop-rest : goal.invariant-loop-rest
invariant-loop-rest l = Decides l.fn.depth l.fn.bytes l.rest

abbrev pub decreases-loop-rest : goal.decreases-loop-rest
decreases-loop-rest l = length l.rest.bytes.now
