use Rattle.text.proofs.Written.{fails_first, behind}
use Rattle.text.proofs.answers.push_number.Goals as goal

pub returns-in_err-push_text : goal.returns-in_err-push_text
returns-in_err-push_text c = fails_first _ _ _ _ _ c.from_residual.ensures.0 c.in_err-push_text.ensures

pub returns : goal.returns
returns c = behind _ _ _ _ _ _ c.in_ok-push_text.ensures c.push_decimal.ensures
