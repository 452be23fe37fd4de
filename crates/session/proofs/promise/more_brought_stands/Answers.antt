use Rattle.session.proofs.Wider.{more_brought}
use Rattle.session.proofs.promise.more_brought_stands.Goals as goal

pub returns : goal.returns
returns c = more_brought
