use Rattle.std.proofs.Common.{None, arith}
use Rattle.element.specs.Found.{Found}
use Rattle.element.proofs.Walks.{led_nowhere, led_inside, led_last, found_part, ran_none, ran_some, outer_number, last_number, no_number, inside_none}
use Rattle.element.proofs.paths.find.Goals as goal

pub returns-in_err-last : goal.returns-in_err-last
returns-in_err-last c =
    let f : Found c.args.bytes.now c.args.path.now None = λ row h. no_number c.args.path.now c.in_err-last.ensures.cases row in
    rw c.from_residual.ensures (record { found = f; part = found_part c.args.bytes.now c.args.path.now None f })

pub returns-in_err-nth : goal.returns-in_err-nth
returns-in_err-nth c =
    let o = outer_number _ _ _ _ c.in_ok-last.ensures.cases.0 c.loop-number-test.true in
    let f = led_nowhere _ _ _ _ c.loop-number.invariant _ o.0 o.1 (λ d left h. inside_none (ran_none _ _ _ c.in_err-nth.ensures.ran d left h)) in
    rw c.from_residual-in_err-nth.ensures (record { found = f; part = found_part c.args.bytes.now c.args.path.now None f })

pub returns-in_err-cursor : goal.returns-in_err-cursor
returns-in_err-cursor c =
    let o = outer_number _ _ _ _ c.in_ok-last.ensures.cases.0 c.loop-number-test.true in
    let f = led_nowhere _ _ _ _ c.loop-number.invariant _ o.0 o.1 (λ d left h. (ran_some _ _ _ _ c.in_ok-nth.ensures.ran d left h).plain c.in_err-cursor.ensures) in
    rw c.from_residual-in_err-cursor.ensures (record { found = f; part = found_part c.args.bytes.now c.args.path.now None f })

pub loop-number-preserved : goal.loop-number-preserved
loop-number-preserved c =
    let o = outer_number _ _ _ _ c.in_ok-last.ensures.cases.0 c.loop-number-test.true in
    let ran = c.in_ok-nth.ensures.ran in
    let (high, rest, place) = c.in_ok-cursor.ensures in
    led_inside _ _ _ _ c.loop-number.invariant _ o.0 o.1 c.in_ok-nth.field-0 c.in_ok-cursor.cursor rest place high (ran_some _ _ _ _ ran)

pub returns : goal.returns
returns c =
    let o = last_number _ _ _ c.loop-number.number-index c.in_ok-last.ensures.cases.0 (omega arith) in
    let f = led_last _ _ _ _ c.loop-number.invariant _ o.0 o.1 c.in-Well.ensures _ _ c.nth-2.ensures.ran in
    record { found = f; part = found_part _ _ _ f }
