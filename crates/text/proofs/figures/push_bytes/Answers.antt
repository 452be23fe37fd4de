use Rattle.std.proofs.Common.{◌≡◌, None, vec_items, sym, ◌∙◌, arith}
use Rattle.text.specs.inner.Figures.{word_bytes}
use Rattle.text.specs.declared.error.LineError.TheVariants.{Unreadable}
use Rattle.std.specs.Slice.Iter.{chunks_rest}
use Rattle.text.proofs.Values.{onto, unreadable, pair_more, pair_fail, digit_alone, pairs_end}
use Rattle.text.proofs.figures.push_bytes.Goals as goal

pub returns-in_default : goal.returns-in_default
returns-in_default c =
    let steps = c.in-Some.ensures.steps in
    c.loop-pair.invariant.0 ∙ digit_alone (vec_items c.loop-pair.out) (chunks_rest c.loop-pair.pair-iterator) (omega (arith, steps, c.loop-pair.invariant.1, c.in_default.len_below))

pub returns-in_err-ok_or : goal.returns-in_err-ok_or
returns-in_err-ok_or c =
    let none : onto (vec_items c.args.out.now) (word_bytes c.args.word.now) ≡ None = c.loop-pair.invariant.0 ∙ pair_fail (vec_items c.loop-pair.out) (chunks_rest c.loop-pair.pair-iterator) c.in-Some.pair.now _ c.in-Some.ensures.steps.1.0 (omega arith) (sym c.in_err-ok_or.ensures.ok_part ∙ c.hex_byte.ensures) in
    let same : c.in_err-ok_or.field-0.0 ≡ Unreadable = grind arith in
    unreadable _ _ _ _ _ c.from_residual.ensures.1 same none

pub loop-pair-preserved : goal.loop-pair-preserved
loop-pair-preserved c =
    let steps = c.in-Some.ensures.steps in
    (c.loop-pair.invariant.0 ∙ pair_more (vec_items c.loop-pair.out) (chunks_rest c.loop-pair.pair-iterator) c.in-Some.pair.now _ _ _ steps.1.0 (omega arith) (sym c.in_ok-ok_or.ensures.ok_part ∙ c.hex_byte.ensures) c.in_ok-push.ensures.items, steps.0 ∙ c.loop-pair.invariant.1)

pub returns : goal.returns
returns c = c.loop-pair.invariant.0 ∙ pairs_end (vec_items c.loop-pair.out) (chunks_rest c.loop-pair.pair-iterator) c.in-None.ensures.steps.1.0
