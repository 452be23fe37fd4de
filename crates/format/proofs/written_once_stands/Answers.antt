use Rattle.format.proofs.Spellings.{written_once}
use Rattle.format.proofs.written_once_stands.Goals as goal

pub returns : goal.returns
returns c = written_once
