use Rattle.shortest.proofs.Faults.{rejections}
use Rattle.shortest.proofs.promise.rejection_stands.Goals as goal

pub returns : goal.returns
returns c = rejections
