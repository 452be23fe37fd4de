use Rattle.std.proofs.Common.{sym, subst}
use Rattle.session.specs.Answers.{Answered}
use Rattle.session.specs.inner.Held.{held}
use Rattle.session.specs.inner.Puts.{PutsIfOk}
use Rattle.session.proofs.Putting.{on_ok}
use Rattle.session.proofs.Quiet.{stores_quiet}
use Rattle.session.proofs.Book.answer.Goals as goal

pub returns-in-Ok-clause-answer : goal.returns-in-Ok-clause-answer
returns-in-Ok-clause-answer c =
    let b = c.args.self.now in
    subst (λ o. PutsIfOk (Answered (held b) b.numbers.items c.args.number o) c.answer_command.result c.args.out.now.items c.answer_command.new.out.items) (sym c.in-Ok.ensures) (on_ok _ _ _ _ (c.answer_command.ensures.answer c.args.number))

pub returns-in-Err-Memory-clause-quiet : goal.returns-in-Err-Memory-clause-quiet
returns-in-Err-Memory-clause-quiet c = λ q. absurd (stores_quiet _ (rw c.in-Err-Memory.field-0-is at c.in-Err-Memory.ensures) q)
