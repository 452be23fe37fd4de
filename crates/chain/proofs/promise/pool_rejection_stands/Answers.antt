use Rattle.chain.proofs.Faults.{rejections}
use Rattle.chain.proofs.promise.pool_rejection_stands.Goals as goal

pub returns : goal.returns
returns c = rejections
