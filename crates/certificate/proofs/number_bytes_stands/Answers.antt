use Rattle.certificate.proofs.Digits.{number_bytes_fewest}
use Rattle.certificate.proofs.number_bytes_stands.Goals as goal

pub returns : goal.returns
returns c = number_bytes_fewest
