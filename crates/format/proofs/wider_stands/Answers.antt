use Rattle.format.proofs.Limits.{wider}
use Rattle.format.proofs.wider_stands.Goals as goal

pub returns : goal.returns
returns c = wider
