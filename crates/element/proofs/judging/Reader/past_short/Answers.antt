use Rattle.std.proofs.Common.{◌≡◌, ◌≤◌, refl, sym, ap, ◌∙◌, length, take, drop, get_or, take_all, length-drop, arith}
use Rattle.std.proofs.lemmas.Grind.{common_steps}
use Rattle.std.proofs.lemmas.List.{take_rest}
use Rattle.format.proofs.Bytes.{all_bytes_from}
use Rattle.element.proofs.Steps.{decides_start, short_primitive, short_last}
use Rattle.element.proofs.judging.Reader.past_short.Goals as goal

pub loop-rest-init : goal.loop-rest-init
loop-rest-init c = decides_start _ _ _ refl refl (all_bytes_from c.args.bytes.now (λ i. (c.type_inv.bytes i).fits))

pub loop-rest-preserved-then-tag-lt-CONSTRUCTED : goal.loop-rest-preserved-then-tag-lt-CONSTRUCTED
loop-rest-preserved-then-tag-lt-CONSTRUCTED c =
    let r = c.loop-rest.rest.bytes.now in
    let cases = c.in-Some.ensures.cases in
    short_primitive _ _ c.loop-rest.rest c.loop-rest.invariant (record { tag = get_or r 0 0; contents = c.in-Some.field-0-0; behind = c.in-Some.after }) (omega arith) (omega arith) (omega (arith, cases.0, c.from.ensures, ap length (take_rest r 2))) refl (cases.1 ∙ (λ i. take (c.from.ensures i) (take_rest r 2 i))) (cases.2 ∙ (λ i. drop (c.from.ensures i) (take_rest r 2 i))) (omega arith)

pub loop-rest-preserved : goal.loop-rest-preserved
loop-rest-preserved c =
    let r = c.loop-rest.rest.bytes.now in
    let n = get_or r 1 0 in
    let cases = c.in-Some.ensures.cases in
    let fits : n ≤ length (drop 2 r) = omega (arith, cases.0, c.from.ensures, ap length (take_rest r 2)) in
    let after : c.in-Some.after.now ≡ drop n (drop 2 r) = cases.2 ∙ (λ i. drop (c.from.ensures i) (take_rest r 2 i)) in
    let last : length c.in-Some.after.now ≡ 0 = grind (arith, common_steps) in
    let all = take_all n (drop 2 r) (omega (arith, last, ap length after, length-drop n (drop 2 r))) in
    short_last _ _ c.loop-rest.rest c.loop-rest.invariant (record { tag = get_or r 0 0; contents = _; behind = c.in-Some.after }) (omega arith) (omega arith) fits refl (take_rest r 2 ∙ sym all) after _ (omega arith) (omega arith) last
