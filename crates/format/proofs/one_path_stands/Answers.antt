use Rattle.format.proofs.Places.{one_path}
use Rattle.format.proofs.one_path_stands.Goals as goal

pub returns : goal.returns
returns c = one_path
