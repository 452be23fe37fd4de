-- What is promised of chains; each statement is the contract of a function of this crate.
use Rattle.std.specs.Prelude.{◌≡◌, ℕ, ◌+◌, ◌<◌, ◌≤◌, true, ◌⊎◌, List, length, slice_index, slice_index_or}
use Rattle.trust.specs.Chains.{Pool, holds, issues, Chain, Shortest, Extends}

-- there is a shortest chain, or no chain at all
abbrev pub ChainOrNone : Type 0
ChainOrNone = (p : Pool) (day first : ℕ) → ((xs : List ℕ) × Shortest p day first xs) ⊎ ((xs : List ℕ) → Chain p day first xs → ⊥)

-- in a shortest chain no certificate occurs twice
abbrev pub NoRepeats : Type 0
NoRepeats = (p : Pool) (day first : ℕ) (xs : List ℕ) (i j : ℕ) → Shortest p day first xs → i < length xs → j < length xs → slice_index xs i ≡ slice_index xs j → i ≡ j

-- a shortest chain is no longer than there are certificates
abbrev pub NoLonger : Type 0
NoLonger = (p : Pool) (day first : ℕ) (xs : List ℕ) → Shortest p day first xs → length xs ≤ p.count

-- more certificates, valid signatures or trust anchors take no chain away
abbrev pub MoreKeeps : Type 0
MoreKeeps = (p q : Pool) (day first : ℕ) (xs : List ℕ) → Extends p q → Chain p day first xs → Chain q day first xs

-- a chain in plain words, place by place
pub record Links (p : Pool) (day first : ℕ) (xs : List ℕ) : Type 0 where
  pub some : 0 < length xs
  pub begins : slice_index_or xs 0 0 ≡ first
  pub known : (i : ℕ) → i < length xs → slice_index xs i < p.count
  pub holding : (i : ℕ) → i < length xs → holds (p.certificate (slice_index xs i)) day ≡ true
  pub issued : (i : ℕ) → i + 1 < length xs → issues p (slice_index xs (i + 1)) (slice_index xs i) ≡ true
  pub allowed : (i : ℕ) → i + 1 < length xs → i ≤ (p.certificate (slice_index xs (i + 1))).path_len
  pub anchored : (i : ℕ) → i + 1 ≡ length xs → p.anchor (slice_index xs i) ≡ true

-- `Chain` and `Links` say the same
abbrev pub ChainMeans : Type 0
ChainMeans = (p : Pool) (day first : ℕ) (xs : List ℕ) → (Chain p day first xs → Links p day first xs) × (Links p day first xs → Chain p day first xs)
