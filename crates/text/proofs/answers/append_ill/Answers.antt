use Rattle.std.proofs.Common.{codes, decimal, ◌++◌}
use Rattle.text.specs.Texts.{line_feed}
use Rattle.text.proofs.Written.{fails_first, behind}
use Rattle.text.proofs.answers.append_ill.Goals as goal

pub returns-in_err-push_number : goal.returns-in_err-push_number
returns-in_err-push_number c = fails_first _ _ (codes "ill at " ++ decimal c.args.at) line_feed _ c.from_residual.ensures.0 c.in_err-push_number.ensures

pub returns : goal.returns
returns c = behind _ _ (codes "ill at " ++ decimal c.args.at) _ line_feed _ c.in_ok-push_number.ensures c.end_line.ensures
