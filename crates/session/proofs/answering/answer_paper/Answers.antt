use Rattle.std.proofs.Common.{sym, subst}
use Rattle.format.specs.Elements.{Reads}
use Rattle.element.specs.Limits.{deepest, longest}
use Rattle.session.specs.Rows.{row_text}
use Rattle.session.specs.Answers.{well, ill}
use Rattle.session.proofs.answering.answer_paper.Goals as goal

pub returns-in-Well : goal.returns-in-Well
returns-in-Well c =
    let (row, reads) = c.in-Well.ensures in
    (row_text 0 row, well row reads, c.append_row.ensures deepest row (subst (λ b. Reads deepest longest b row) (sym c.new.ensures.rest) reads))

pub returns-in-Ill : goal.returns-in-Ill
returns-in-Ill c = (_, ill _ c.in-Ill.ensures.0 c.in-Ill.ensures.1, c.append_ill.ensures)
