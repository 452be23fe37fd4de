-- The pool that a view shows.
use Rattle.trust.specs.Chains.{Pool}
use Rattle.chain.specs.Inputs.{input_of, pool}
use Rattle.chain.specs.declared.view.PoolView.{PoolView}

-- the pool of the input in a view
abbrev pub view_pool : PoolView → Pool
view_pool v = pool (input_of v.input)
