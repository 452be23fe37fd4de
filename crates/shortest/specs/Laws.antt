-- What the promise means for answers; each statement is the contract of a function of this crate.
use Rattle.std.specs.Prelude.{◌≡◌, ℕ, ◌+◌, ◌*◌, ◌<◌, ◌≤◌, Bool, true, List, length, take, MatchBool, slice_index, Option, Some, None, Result, Ok}
use Rattle.trust.specs.Chains.{Chain}
use Rattle.chain.specs.Inputs.{Input, pool}
use Rattle.chain.specs.declared.input.Rejection.{Rejection}
use Rattle.shortest.specs.Answers.{Answers, question_rejection}

-- j has all that i has: the same numbers of the first certificates, and among them each mark of 1, at its new place
pub record Grows (i j : Input) : Type 0 where
  pub counts : i.count ≤ j.count
  pub same : (k : ℕ) → k < 6 * i.count → slice_index j.certificates k ≡ slice_index i.certificates k
  pub signatures : (a b : ℕ) → a < i.count → b < i.count → slice_index i.signatures (a * i.count + b) ≡ 1 → slice_index j.signatures (a * j.count + b) ≡ 1
  pub anchors : (a : ℕ) → a < i.count → slice_index i.anchors a ≡ 1 → slice_index j.anchors a ≡ 1

-- where a chain was answered, one that is no longer is answered among more certificates, signatures and anchors, unless that question is rejected
abbrev pub MoreAnswers : Type 0
MoreAnswers =
    (i j : Input) (day first : ℕ) (old new before after : List ℕ) (k : ℕ) (r : Result (Option ℕ) Rejection)
    → Grows i j
    → Answers i day first old new (Ok (Some k))
    → Answers j day first before after r
    → question_rejection j first (length before) ≡ None
    → (m : ℕ) × (r ≡ Ok (Some m)) × (m ≤ k)

-- an answered chain passes any exact test of chains
abbrev pub AnswerPasses : Type 0
AnswerPasses =
    (i : Input) (day first : ℕ) (old new : List ℕ) (k : ℕ) (judged : Bool)
    → Answers i day first old new (Ok (Some k))
    → MatchBool judged (Chain (pool i) day first (take k new)) (Chain (pool i) day first (take k new) → ⊥)
    → judged ≡ true
