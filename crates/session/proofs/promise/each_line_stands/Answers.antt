use Rattle.session.proofs.Parts.{each_line}
use Rattle.session.proofs.promise.each_line_stands.Goals as goal

pub returns : goal.returns
returns c = each_line
