use Rattle.std.proofs.Common.{◌+◌, ◌*◌, length}
use Rattle.element.specs.inner.Rests.{Decides}
use Rattle.element.proofs.judging.Reader.+row_element.Given as goal

abbrev pub decreases-element : goal.decreases-element
decreases-element l = 2 * length l.bytes.now

abbrev pub decreases-row : goal.decreases-row
decreases-row l = 2 * length l.bytes.now + 1

abbrev pub invariant-row-loop-rest : goal.invariant-row-loop-rest
invariant-row-loop-rest l = Decides l.fn.depth l.fn.bytes l.rest

abbrev pub decreases-row-loop-rest : goal.decreases-row-loop-rest
decreases-row-loop-rest l = length l.rest.bytes.now
