use Rattle.std.proofs.Common.{◌<◌}
use Rattle.chain.specs.Inputs.{most}
use Rattle.shortest.proofs.Laying.{Laying}
use Rattle.shortest.specs.inner.Steps.{from}
use Rattle.shortest.proofs.layout.lay_out.Given as goal

abbrev pub invariant-loop-i : goal.invariant-loop-i
invariant-loop-i l = record { laying : Laying (from l.reached.steps) l.top l.count l.initial.out l.out l.at l.i; fits : l.at < most }
