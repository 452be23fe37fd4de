use Rattle.std.proofs.Common.{rules, ap, ◌∙◌}
use Rattle.std.proofs.lemmas.Fn.{always_returns_same}
use Rattle.text.specs.Tokens.{lines, line_end}
use Rattle.text.proofs.Cuts.{lines_nil}
use Rattle.text.proofs.tokens.LinesIterator.next.Goals as goal

pub returns-in_err-line-clause-steps : goal.returns-in_err-line-clause-steps
returns-in_err-line-clause-steps c =
    let none = ap lines c.in_err-line.ensures.none ∙ lines_nil in search (rules, none)

pub returns-clause-steps : goal.returns-clause-steps
unfolding lines
returns-clause-steps c = c.in_ok-line.ensures.first line_end (always_returns_same _ _ _ (λ a r f' k. search rules))
