use Rattle.format.proofs.Readings.{one_reading}
use Rattle.format.proofs.one_reading_stands.Goals as goal

pub returns : goal.returns
returns c = one_reading
