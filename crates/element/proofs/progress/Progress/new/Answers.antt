use Rattle.std.proofs.Common.{refl}
use Rattle.element.proofs.Gone.{gone_none}
use Rattle.element.proofs.progress.Progress.new.Goals as goal

pub returns : goal.returns
returns c = record { is = refl; gone = gone_none _ refl }
