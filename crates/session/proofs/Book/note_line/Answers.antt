use Rattle.session.proofs.Quiet.{stores_quiet}
use Rattle.session.proofs.Book.note_line.Goals as goal

pub returns-in-Err-Memory-clause-quiet : goal.returns-in-Err-Memory-clause-quiet
returns-in-Err-Memory-clause-quiet c = λ q. absurd (stores_quiet _ (rw c.in-Err-Memory.field-0-is at c.in-Err-Memory.ensures) q)
