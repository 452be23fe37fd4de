use Rattle.chain.specs.Inputs.{most}
use Rattle.shortest.proofs.Steps.{same_at}
use Rattle.shortest.proofs.reached.Steps.begin.Goals as goal

pub invariant_of-result : goal.invariant_of-result
invariant_of-result c = record { unreached = λ a less e. same_at most a 0 }
