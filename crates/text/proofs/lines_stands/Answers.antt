use Rattle.text.proofs.Laws.{lines_stand}
use Rattle.text.proofs.lines_stands.Goals as goal

pub returns : goal.returns
returns c = lines_stand
