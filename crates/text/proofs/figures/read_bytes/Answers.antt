use Rattle.std.proofs.Common.{length, vec_items, ap, ◌∙◌, arith}
use Rattle.text.specs.Tokens.{words}
use Rattle.text.proofs.Values.{fails_within, bytes_more, bytes_fail, bytes_end}
use Rattle.text.proofs.figures.read_bytes.Goals as goal

pub returns-in_err-push_bytes : goal.returns-in_err-push_bytes
returns-in_err-push_bytes c =
    fails_within _ _ _ _ _ _ _ c.from_residual.ensures.1 c.in_err-push_bytes.ensures
    (λ none. c.loop-word.invariant.read ∙ bytes_fail (vec_items c.loop-word.out) (words c.loop-word.word-iterator.rest.now) _ _ c.in-Some.ensures.steps none)
    (λ some. omega (arith, c.loop-word.invariant.fewer, ap length c.in-Some.ensures.steps))

pub loop-word-preserved : goal.loop-word-preserved
loop-word-preserved c = record {
  read = c.loop-word.invariant.read ∙ bytes_more (vec_items c.loop-word.out) (words c.loop-word.word-iterator.rest.now) _ _ (vec_items c.push_bytes.new.out) c.in-Some.ensures.steps c.in_ok-push_bytes.ensures;
  fewer = omega (arith, c.loop-word.invariant.fewer, ap length c.in-Some.ensures.steps);
}

pub returns : goal.returns
returns c = c.loop-word.invariant.read ∙ bytes_end (vec_items c.loop-word.out) (words c.loop-word.word-iterator.rest.now) c.in-None.ensures.steps.0
