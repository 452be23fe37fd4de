use Rattle.session.proofs.Lines.{row_tells}
use Rattle.session.proofs.promise.row_text_stands.Goals as goal

pub returns : goal.returns
returns c = row_tells
