use Rattle.text.proofs.Laws.{words_stand}
use Rattle.text.proofs.words_stands.Goals as goal

pub returns : goal.returns
returns c = words_stand
