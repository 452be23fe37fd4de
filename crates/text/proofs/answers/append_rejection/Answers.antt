use Rattle.std.proofs.Common.{List, ℕ, codes, decimal, refl, ◌++◌}
use Rattle.text.specs.Texts.{line_feed}
use Rattle.text.proofs.Written.{fails_behind, fails_first, behind}
use Rattle.text.proofs.answers.append_rejection.Goals as goal

-- the line's parts before its end
number : ℕ → List ℕ
number n = codes "refused " ++ decimal n

place : ℕ → List ℕ
place n = codes " at " ++ decimal n

pub returns-in_err-push_number : goal.returns-in_err-push_number
unfolding number place
returns-in_err-push_number c = fails_first _ _ (number c.args.number) (place c.args.place ++ line_feed) _ c.from_residual.ensures.0 c.in_err-push_number.ensures

pub returns-in_err-push_number-2 : goal.returns-in_err-push_number-2
unfolding number place
returns-in_err-push_number-2 c = fails_behind _ _ (number c.args.number) _ (place c.args.place) line_feed _ _ c.from_residual-in_err-push_number-2.ensures.0 refl c.in_ok-push_number.ensures c.in_err-push_number-2.ensures

pub returns : goal.returns
unfolding number place
returns c = behind _ _ (number c.args.number) _ (place c.args.place ++ line_feed) _ c.in_ok-push_number.ensures (behind _ _ (place c.args.place) _ line_feed _ c.in_ok-push_number-2.ensures c.end_line.ensures)
