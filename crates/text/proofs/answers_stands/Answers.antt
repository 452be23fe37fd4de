use Rattle.text.proofs.Told.{answers_stand}
use Rattle.text.proofs.answers_stands.Goals as goal

pub returns : goal.returns
returns c = answers_stand
