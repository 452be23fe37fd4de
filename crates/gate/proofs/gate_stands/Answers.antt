use Rattle.gate.proofs.Calls.{gate}
use Rattle.gate.proofs.gate_stands.Goals as goal

pub returns : goal.returns
returns c = gate
