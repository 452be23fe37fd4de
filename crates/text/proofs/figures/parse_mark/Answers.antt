use Rattle.std.proofs.Common.{rules, sym, ap, ◌∙◌, lit≤}
use Rattle.text.specs.inner.Figures.{below}
use Rattle.text.specs.Meaning.{number_limit, mark_limit}
use Rattle.text.proofs.Values.{number_lower}
use Rattle.text.proofs.figures.parse_mark.Goals as goal

pub returns-in_err-parse_number : goal.returns-in_err-parse_number
returns-in_err-parse_number c =
    let small = number_lower mark_limit number_limit c.args.word.now (lit≤ tt) ∙ ap (below mark_limit) (sym c.in_err-parse_number.ensures) in search (rules, small)

pub returns : goal.returns
returns c =
    let small = number_lower mark_limit number_limit c.args.word.now (lit≤ tt) ∙ ap (below mark_limit) (sym c.in_ok-parse_number.ensures) in search (rules, small)
