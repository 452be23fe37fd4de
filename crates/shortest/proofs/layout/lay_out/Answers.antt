use Rattle.std.proofs.Common.{arith}
use Rattle.shortest.proofs.Laying.{begun, laid}
use Rattle.shortest.proofs.layout.lay_out.Goals as goal

pub loop-i-init : goal.loop-i-init
loop-i-init c = record { laying = begun _ _ _ _; fits = c.requires.top_fits }

pub loop-i-preserved : goal.loop-i-preserved
loop-i-preserved c = record {
  laying = laid _ _ _ _ _ _ _ _ c.loop-i.invariant.laying c.loop-i-test.true c.loop-i.auto.i c.requires.count_fits c.below-at.ensures;
  fits = omega (arith, c.below-at.ensures, c.requires.from_fits c.loop-i.at);
}
