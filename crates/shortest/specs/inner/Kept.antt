-- What the search keeps from turn to turn, in the words of its layers.
use Rattle.std.specs.Prelude.{◌≡◌, ℕ, ◌+◌, ◌<◌, List, slice_index_or}
use Rattle.trust.specs.Chains.{Chain}
use Rattle.trust.specs.inner.Layers.{Layers, Top}
use Rattle.chain.specs.Views.{view_pool}
use Rattle.shortest.specs.declared.query.Query.{Query}
use Rattle.shortest.specs.declared.reached.Reached.{Reached}
use Rattle.shortest.specs.inner.Steps.{far, from}

-- the search has come to the turn of y above the next one
abbrev pub Kept : Query → Reached → (y : ℕ) → Type 0
Kept q r y = Layers (view_pool q.view) q.day q.first (far r.steps) (from r.steps) r.order r.size r.over y

-- the next one to have its turn is x, at place i of the queue and in layer k
pub record NextTurn (r : Reached) (i k x : ℕ) : Type 0 where
  pub turn : r.over ≡ i
  pub within : i < r.size
  pub here : slice_index_or r.order i 0 ≡ x
  pub layer : slice_index_or (far r.steps) x 0 ≡ k + 1

-- a is a trust anchor in layer k, and no earlier layer has one
abbrev pub Topped : Query → Reached → (k a : ℕ) → Type 0
Topped q r k a = Top (view_pool q.view) q.day q.first (far r.steps) (from r.steps) k a

-- no chain answers the query
abbrev pub NoneUp : Query → Type 0
NoneUp q = (xs : List ℕ) → Chain (view_pool q.view) q.day q.first xs → ⊥
