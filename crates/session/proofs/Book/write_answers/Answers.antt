use Rattle.std.specs.Iterator.Adapters.{enumerate_source, enumerate_count}
use Rattle.std.proofs.Common.{◌≡◌, ℕ, suc, refl, sym, ap, ◌∙◌, subst, add-one}
use Rattle.text.specs.Tokens.{lines}
use Rattle.text.specs.declared.tokens.Lines.{Lines}
use Rattle.session.proofs.Cutting.{Turn, first_turn, next_turn, turn_failed}
use Rattle.session.proofs.Known.{keeps_same, keeps_more}
use Rattle.session.proofs.Quiet.{Quiet, first_quiet, rest_quiet}
use Rattle.session.proofs.Book.write_answers.Goals as goal

pub loop-number-init : goal.loop-number-init
loop-number-init g c =
    let from : lines (enumerate_source c.into_iter-number-iterator.result).rest.now ≡ lines c.args.text.now = ap (λ (s : Lines). lines s.rest.now) (ap enumerate_source c.into_iter-number-iterator.ensures.into_iter_gives ∙ c.enumerate-number-items.ensures.source) ∙ ap lines c.new.ensures in
    let zero : enumerate_count c.into_iter-number-iterator.result ≡ 0 = ap enumerate_count c.into_iter-number-iterator.ensures.into_iter_gives ∙ c.enumerate-number-items.ensures.count in
    (λ q. (subst Quiet (sym from) q, keeps_same _), first_turn _ _ _ _ _ _ c.requires refl zero from)

pub loop-number-preserved : goal.loop-number-preserved
loop-number-preserved g c =
    let steps = c.in-Some.ensures.steps in
    let said = c.in_ok-passed.ensures in
    let (quiet, turn) = c.loop-number.invariant in
    let here = subst (λ k. Turn c.args.text.now c.loop-number.self c.loop-number.passed k (lines (enumerate_source c.loop-number.number-iterator).rest.now) (g.W.Write.contents c.args.out.now) (g.W.Write.contents c.loop-number.out)) (sym steps.1) turn in
    (λ q. let (still, kept) = quiet q in (rest_quiet _ _ _ steps.0 still, keeps_more _ _ _ kept (said.quiet (first_quiet _ _ _ steps.0 still)).1), next_turn _ _ _ _ _ _ _ here _ _ steps.0 {T = ℕ} c.in_ok-passed.passed _ _ _ _ (steps.2 ∙ add-one _ ∙ ap suc (sym steps.1)) said.same said.written said.passed)

pub returns-in_err-passed-clause-written : goal.returns-in_err-passed-clause-written
returns-in_err-passed-clause-written g c =
    let steps = c.in-Some.ensures.steps in
    let (quiet, turn) = c.loop-number.invariant in
    let here = subst (λ k. Turn c.args.text.now c.loop-number.self c.loop-number.passed k (lines (enumerate_source c.loop-number.number-iterator).rest.now) (g.W.Write.contents c.args.out.now) (g.W.Write.contents c.loop-number.out)) (sym steps.1) turn in
    turn_failed _ _ _ _ _ _ _ here _ _ steps.0 ℕ _ _ _ c.from_residual.ensures.1 c.in_err-passed.ensures.written
