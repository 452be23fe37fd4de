use Rattle.chain.specs.Views.{view_pool}
use Rattle.chain.proofs.Climbing.{Climbed}
use Rattle.chain.proofs.judging.judge_chain.Given as goal

abbrev pub invariant-loop-between : goal.invariant-loop-between
invariant-loop-between l = Climbed (view_pool l.view) l.day l.certificates l.between l.at
