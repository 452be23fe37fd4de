use Rattle.session.proofs.Cutting.{unread_text}
use Rattle.session.proofs.writing.answer_text.Goals as goal

pub returns-in_err-book-clause-written : goal.returns-in_err-book-clause-written
returns-in_err-book-clause-written g c = unread_text _ _ c.in_err-book.field-0.0 _ c.from_residual.ensures.1
