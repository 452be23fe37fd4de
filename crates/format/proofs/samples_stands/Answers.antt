use Rattle.format.proofs.Limits.{samples}
use Rattle.format.proofs.samples_stands.Goals as goal

pub returns : goal.returns
returns c = samples
