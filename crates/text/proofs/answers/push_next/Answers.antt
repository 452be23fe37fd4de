use Rattle.std.proofs.Common.{[], ◌∷◌}
use Rattle.text.proofs.Written.{fails_first}
use Rattle.text.proofs.answers.push_next.Goals as goal

pub returns-in_err-push_text : goal.returns-in_err-push_text
returns-in_err-push_text g c = fails_first _ _ (32 ∷ []) (g.F.Figure.text c.args.figure) _ c.from_residual.ensures.0 c.in_err-push_text.ensures
