use Rattle.certificate.proofs.Laws.{one_permit}
use Rattle.certificate.proofs.one_permit_stands.Goals as goal

pub returns : goal.returns
returns c = one_permit
