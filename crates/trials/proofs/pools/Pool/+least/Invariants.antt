use Rattle.trials.proofs.pools.Pool.+least.Given as goal

abbrev pub decreases-least : goal.decreases-least
decreases-least l = l.fuel
