use Rattle.text.proofs.Digits.{digits_stand}
use Rattle.text.proofs.digits_stands.Goals as goal

pub returns : goal.returns
returns c = digits_stand
