use Rattle.format.proofs.Places.{part_of_bytes}
use Rattle.format.proofs.part_of_bytes_stands.Goals as goal

pub returns : goal.returns
returns c = part_of_bytes
