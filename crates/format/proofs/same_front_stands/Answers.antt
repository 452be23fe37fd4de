use Rattle.format.proofs.Readings.{same_element}
use Rattle.format.proofs.same_front_stands.Goals as goal

pub returns : goal.returns
returns c = same_element
