use Rattle.session.proofs.NoPermits.{no_permit}
use Rattle.session.proofs.promise.no_permit_stands.Goals as goal

pub returns : goal.returns
returns c = no_permit
