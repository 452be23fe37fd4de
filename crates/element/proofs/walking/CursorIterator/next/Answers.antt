use Rattle.std.proofs.Common.{arith}
use Rattle.element.proofs.Openings.{whole_of}
use Rattle.element.proofs.walking.CursorIterator.next.Goals as goal

pub overflow_sub-result : goal.overflow_sub-result
overflow_sub-result c = omega (arith, (whole_of _ _ c.in_ok-tag.ensures).header)

pub invariant_of-result : goal.invariant_of-result
invariant_of-result c =
    let w = whole_of _ _ c.in_ok-tag.ensures in
    record { is = w.whole; short = c.in_ok-tag.ensures.fits; within = omega (arith, w.header); fits = omega (arith, w.size) }

pub returns-clause-goes : goal.returns-clause-goes
returns-clause-goes c =
    let w = whole_of _ _ c.in_ok-tag.ensures in
    record { on = λ f. (omega (arith, w.size), f, omega (arith, w.size, w.header)); keeps = omega (arith, w.size); rests = λ f. f }
