use Rattle.std.proofs.Common.{◌≡◌, [], length, vec_len, sym, ap, ◌∙◌, arith}
use Rattle.std.proofs.lemmas.Bool.{eq-eqb, false≢true}
use Rattle.text.specs.Meaning.{meaning}
use Rattle.session.specs.Answers.{Answered}
use Rattle.session.specs.Writing.{StoresNothing}
use Rattle.session.specs.inner.Held.{held}
use Rattle.session.proofs.Putting.{cut_off}
use Rattle.session.proofs.Quiet.{quiet_answer}
use Rattle.session.proofs.Book.write_answer.Goals as goal
use Rattle.session.proofs.Book.write_answer.Goals.{Then-not-is_empty}

-- a line that stores nothing has an empty answer
nothing_said : (g : _) (c : Then-not-is_empty g) → StoresNothing (meaning c.args.line.now) → ⊥
nothing_said g c q =
    let b = c.args.self.now in
    let (text, is_answer, is) = c.in_ok-next.ensures.answer in
    let none : text ≡ [] = quiet_answer (held b) b.numbers.items c.args.number (meaning c.args.line.now) text q is_answer in
    let empty : c.answer_line.new.out.items ≡ [] = is ∙ none in
    let zero : vec_len c.answer_line.new.out ≡ 0 = omega (arith, c.answer_line.new.out.ok.0, ap length empty) in
    false≢true (sym c.if-not-is_empty.true ∙ c.is_empty.ensures ∙ eq-eqb (vec_len c.answer_line.new.out) 0 zero)

pub returns-in_err-put-clause-quiet : goal.returns-in_err-put-clause-quiet
returns-in_err-put-clause-quiet g c = λ q. absurd (nothing_said g (goal.at.returns-in_err-put-clause-quiet g c).Then-not-is_empty q)

pub returns-in_err-put-clause-written : goal.returns-in_err-put-clause-written
returns-in_err-put-clause-written g c =
    let b = c.args.self.now in
    let (text, is_answer, is) = c.in_ok-next.ensures.answer in
    cut_off (Answered (held b) b.numbers.items c.args.number (meaning c.args.line.now)) _ _ _ text _ _ c.from_residual-in_err-put.ensures.1 is_answer (c.deref.ensures.value ∙ is) c.in_err-put.ensures

pub returns-in_ok-put-clause-quiet : goal.returns-in_ok-put-clause-quiet
returns-in_ok-put-clause-quiet g c = λ q. absurd (nothing_said g (goal.at.returns-in_ok-put-clause-quiet g c).Then-not-is_empty q)
