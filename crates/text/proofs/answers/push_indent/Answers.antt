use Rattle.std.proofs.Common.{vec_items}
use Rattle.text.specs.Texts.{indent}
use Rattle.text.proofs.Written.{fails_behind, indent_parts, indent_more}
use Rattle.text.proofs.answers.push_indent.Goals as goal

pub returns-in_err-push_text : goal.returns-in_err-push_text
returns-in_err-push_text c =
    fails_behind _ _ (indent c.loop.counter) _ _ _ _ _ c.from_residual.ensures.0 (indent_parts c.loop.counter c.args.level c.loop-test.true) c.loop.invariant c.in_err-push_text.ensures

pub loop-preserved : goal.loop-preserved
loop-preserved c =
    indent_more (vec_items c.args.out.now) (vec_items c.loop.out) (vec_items c.push_text.new.out) c.loop.counter c.loop.invariant c.in_ok-push_text.ensures
