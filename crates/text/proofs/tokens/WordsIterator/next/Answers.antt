use Rattle.std.proofs.Common.{rules, ap, sym, ◌∙◌, arith}
use Rattle.std.proofs.lemmas.Bool.{eqb-true, eqb-false}
use Rattle.std.proofs.lemmas.Fn.{always_returns_same}
use Rattle.text.specs.Tokens.{blank, words}
use Rattle.text.proofs.Cuts.{words_nil, first_word, no_word}
use Rattle.text.proofs.tokens.WordsIterator.next.Goals as goal

pub returns-then-not-is_empty-clause-steps : goal.returns-then-not-is_empty-clause-steps
returns-then-not-is_empty-clause-steps c =
    let first = c.in-Some.ensures.first blank (always_returns_same _ _ _ (λ a r f' k. search rules)) in
    c.loop-word.invariant.0 ∙ first_word _ _ _ first (omega (arith, eqb-false _ 0 (sym c.if-not-is_empty.ensures)))

pub loop-word-preserved : goal.loop-word-preserved
loop-word-preserved c =
    let first = c.in-Some.ensures.first blank (always_returns_same _ _ _ (λ a r f' k. search rules)) in
    (c.loop-word.invariant.0 ∙ no_word _ _ _ first (eqb-true _ 0 (sym c.if-not-is_empty.ensures)), omega (arith, c.in-Some.ensures.shorter, c.loop-word.invariant.1))

pub returns-clause-steps : goal.returns-clause-steps
returns-clause-steps c =
    let none = ap words c.in_default.ensures.none ∙ words_nil in (c.loop-word.invariant.0 ∙ none, none)
