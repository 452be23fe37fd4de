use Rattle.std.proofs.Common.{sym, ◌∙◌, arith}
use Rattle.std.proofs.lemmas.Bool.{eqb-true, eqb-false}
use Rattle.text.specs.Meaning.{number_limit}
use Rattle.text.proofs.Values.{number_nil, number_some, digit_read, digit_fails, digits_end}
use Rattle.text.proofs.figures.parse_number.Goals as goal

pub returns-then-is_empty : goal.returns-then-is_empty
returns-then-is_empty c = sym (number_nil number_limit c.args.word.now (eqb-true _ 0 (sym c.if-is_empty.ensures)))

pub loop-b-init : goal.loop-b-init
loop-b-init c = (number_some number_limit c.args.word.now (omega (arith, eqb-false _ 0 (sym c.if-is_empty.ensures))), omega arith)

pub returns-in_err-n : goal.returns-in_err-n
returns-in_err-n c =
    c.from_residual.ensures ∙ sym (c.loop-b.invariant.0 ∙ digit_fails number_limit c.args.word.now c.loop-b.b-index c.loop-b.n c.loop-b-test.true c.in_err-n.ensures)

pub loop-b-preserved : goal.loop-b-preserved
loop-b-preserved c =
    let step = digit_read number_limit c.args.word.now c.loop-b.b-index c.loop-b.n c.in_ok-n.n c.loop-b-test.true c.in_ok-n.ensures in
    (c.loop-b.invariant.0 ∙ step.0, step.1)

pub returns : goal.returns
returns c =
    sym (c.loop-b.invariant.0 ∙ digits_end number_limit c.args.word.now c.loop-b.b-index c.loop-b.n c.loop-b-test.false c.loop-b.invariant.1)
