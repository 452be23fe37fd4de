-- A search by layers: which certificates have been reached, in which layer, from which one below, and in which order.
use Rattle.std.specs.Prelude.{◌≡◌, ℕ, zero, suc, ◌+◌, ◌<◌, ◌≤◌, true, false, ◌⊎◌, List, length, ◌≢◌, slice_index, slice_index_or}
use Rattle.trust.specs.Chains.{Pool, holds, follows}

-- b was reached in layer m + 1, from one in layer m that it can follow
pub record Parent (p : Pool) (day : ℕ) (far from : List ℕ) (m b : ℕ) : Type 0 where
  pub layer : slice_index_or far (slice_index from b) 0 ≡ m + 1
  pub follow : follows p day m (slice_index from b) b ≡ true

-- far a is k + 1 for a certificate reached in layer k, that is with k certificates below it, and 0 for one not reached; from a is the one below it
pub record Tree (p : Pool) (day first : ℕ) (far from : List ℕ) : Type 0 where
  pub known : first < p.count
  pub holding : holds (p.certificate first) day ≡ true
  pub long : p.count ≤ length far
  pub from_long : p.count ≤ length from
  pub below : (a : ℕ) → slice_index from a < p.count
  pub start : slice_index_or far first 0 ≡ 1
  pub only : (a : ℕ) → a < p.count → slice_index far a ≡ 1 → a ≡ first
  pub parent : (m b : ℕ) → b < p.count → slice_index far b ≡ m + 2 → Parent p day far from m b

-- a is among the first `size` of the queue, at this place
pub record Queued (order : List ℕ) (size a : ℕ) : Type 0 where
  pub place : ℕ
  pub within : place < size
  pub here : slice_index_or order place 0 ≡ a

-- the first `size` of order are the certificates reached, each once, layer by layer
pub record Order (p : Pool) (far order : List ℕ) (size : ℕ) : Type 0 where
  pub long : p.count ≤ length order
  pub few : size ≤ p.count
  pub listed : (j : ℕ) → j < size → slice_index order j < p.count
  pub reached : (j : ℕ) → j < size → 0 < slice_index far (slice_index order j)
  pub low : (j : ℕ) → j < size → slice_index far (slice_index order j) ≤ j + 1
  pub rising : (i j : ℕ) → i ≤ j → j < size → slice_index far (slice_index order i) ≤ slice_index far (slice_index order j)
  pub once : (i j : ℕ) → i < j → j < size → slice_index order i ≢ slice_index order j
  pub queued : (a : ℕ) → a < p.count → 0 < slice_index far a → Queued order size a

-- b is tried above the one at place j before y is tried above the one at place i
abbrev pub Before : (j b i y : ℕ) → Type 0
Before j b i y = (j < i) ⊎ ((j ≡ i) × (b < y))

-- all turns before that of y above the one at place `over` are done: what can follow has been reached, and no trust anchor stands before that place
pub record Turns (p : Pool) (day : ℕ) (far order : List ℕ) (size over y : ℕ) : Type 0 where
  pub near : (j : ℕ) → j < size → over < size → slice_index far (slice_index order j) ≤ slice_index far (slice_index order over) + 1
  pub past : (m j b : ℕ) → j < size → b < p.count → slice_index far (slice_index order j) ≡ m + 1 → Before j b over y → follows p day m (slice_index order j) b ≡ true → (0 < slice_index far b) × (slice_index far b ≤ m + 2)
  pub cleared : (j : ℕ) → j < over → p.anchor (slice_index order j) ≡ false

-- the search has come to the turn of y above the one at place `over`
pub record Layers (p : Pool) (day first : ℕ) (far from order : List ℕ) (size over y : ℕ) : Type 0 where
  pub tree : Tree p day first far from
  pub queue : Order p far order size
  pub turns : Turns p day far order size over y

-- the certificates whose far is below the limit are no trust anchors, and what can follow them has been reached
pub record Explored (p : Pool) (day : ℕ) (far : List ℕ) (limit : ℕ) : Type 0 where
  pub closed : (m a b : ℕ) → a < p.count → b < p.count → slice_index far a ≡ m + 1 → slice_index far a < limit → follows p day m a b ≡ true → (0 < slice_index far b) × (slice_index far b ≤ m + 2)
  pub clear : (a : ℕ) → a < p.count → 0 < slice_index far a → slice_index far a < limit → p.anchor a ≡ false

-- a is a trust anchor in layer k, and no earlier layer has one
pub record Top (p : Pool) (day first : ℕ) (far from : List ℕ) (k a : ℕ) : Type 0 where
  pub tree : Tree p day first far from
  pub explored : Explored p day far (k + 1)
  pub known : a < p.count
  pub layer : slice_index_or far a 0 ≡ k + 1
  pub few : k < p.count
  pub anchored : p.anchor a ≡ true

-- the certificate j layers below a
unfoldable pub down : (from : List ℕ) → (a j : ℕ) → ℕ
down from a zero = a
down from a (suc j) = slice_index from (down from a j)
