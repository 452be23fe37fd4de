use Rattle.std.proofs.Common.{◌≡◌, None, refl, length, vec_items, sym, ap, ◌∙◌, arith}
use Rattle.std.proofs.lemmas.Fn.{says_at}
use Rattle.text.specs.inner.Figures.{all_of}
use Rattle.text.specs.Tokens.{words}
use Rattle.text.specs.declared.error.LineError.TheVariants.{Unreadable}
use Rattle.text.proofs.Values.{unreadable, all_more, all_fail, all_end}
use Rattle.text.proofs.figures.read_all.Goals as goal

pub returns-in_err-ok_or : goal.returns-in_err-ok_or
returns-in_err-ok_or g c p h =
    let none : all_of p (words c.args.words.rest.now) ≡ None = c.loop-word.invariant.read p h ∙ all_fail p (vec_items c.loop-word.out) _ _ _ c.in-Some.ensures.steps (sym (h _ _ (says_at g.F.Fn c.parse.ensures refl)) ∙ c.in_err-ok_or.ensures.ok_part) in
    let same : c.in_err-ok_or.field-0.0 ≡ Unreadable = grind arith in
    unreadable _ _ _ _ _ c.from_residual.ensures.1 same none

pub loop-word-preserved : goal.loop-word-preserved
loop-word-preserved g c = record {
  callable = c.loop-word.invariant.callable;
  read = λ p h. c.loop-word.invariant.read p h ∙ all_more p (vec_items c.loop-word.out) _ _ _ _ _ c.in-Some.ensures.steps (sym (h _ _ (says_at g.F.Fn c.parse.ensures refl)) ∙ c.in_ok-ok_or.ensures.ok_part) c.in_ok-push.ensures.items;
  fewer = omega (arith, c.loop-word.invariant.fewer, ap length c.in-Some.ensures.steps);
}

pub returns : goal.returns
returns g c p h = c.loop-word.invariant.read p h ∙ all_end p (vec_items c.loop-word.out) _ c.in-None.ensures.steps.0
