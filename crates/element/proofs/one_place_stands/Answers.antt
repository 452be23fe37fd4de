use Rattle.element.proofs.Runs.{one_place_stands}
use Rattle.element.proofs.one_place_stands.Goals as goal

pub returns : goal.returns
returns c = one_place_stands
