use Rattle.text.proofs.Sentences.{meaning_stand}
use Rattle.text.proofs.meaning_stands.Goals as goal

pub returns : goal.returns
returns c = meaning_stand
