use Rattle.trust.proofs.Means.{more_keeps}
use Rattle.trust.proofs.more_keeps_stands.Goals as goal

pub returns : goal.returns
returns c = more_keeps
