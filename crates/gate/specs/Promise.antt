-- What is promised of the calls that a gate makes, in the numbers that its C program sees.
use Rattle.std.specs.Prelude.{◌≡◌, ℕ, ◌+◌, ◌<◌, ◌≤◌, true, ◌↔◌, List, length, take, drop, Some, None}
use Rattle.format.specs.Elements.{Readable}
use Rattle.format.specs.Viable.{IllAt}
use Rattle.element.specs.Limits.{deepest, longest}
use Rattle.element.specs.Located.{Leads, LeadsNowhere}
use Rattle.trust.specs.Chains.{Chain}
use Rattle.chain.specs.Inputs.{Input, pool}
use Rattle.chain.specs.Rejections.{rejection_number}
use Rattle.chain.specs.declared.input.Rejection.{Rejection}
use Rattle.shortest.specs.Answers.{InBuffer, question_rejection}
use Rattle.shortest.specs.Laws.{Grows}
use Rattle.gate.specs.declared.SpanNumbers.{SpanNumbers}
use Rattle.gate.specs.declared.ChainNumbers.{ChainNumbers}
use Rattle.gate.specs.Numbers.{JudgeCall, PieceCall, ChainCall}

-- the number that `judge` answers tells well-formed bytes from malformed ones, and the places of these: 0 exactly if they are a row of elements, k + 1 exactly if they are malformed at k; any other call answers the same number
pub record JudgeTells (bytes : List ℕ) (answer : ℕ) : Type 0 where
  pub well : (answer ≡ 0) ↔ Readable deepest longest bytes true
  pub ill : (k : ℕ) → (answer ≡ k + 1) ↔ IllAt deepest longest bytes k
  pub same : (other : ℕ) → JudgeCall bytes other → other ≡ answer

-- `len` 0, and `at` 0 with it, is answered exactly if the path leads to nothing or the bytes are malformed; any other part is the element that the path leads to, where it stands
pub record PieceTells (bytes path : List ℕ) (answer : SpanNumbers) : Type 0 where
  pub none : (answer.len ≡ 0) ↔ LeadsNowhere bytes path
  pub nowhere : answer.len ≡ 0 → answer.at ≡ 0
  pub some : 0 < answer.len → Leads bytes path answer.at (take answer.len (drop answer.at bytes))
  pub within : answer.at + answer.len ≤ length bytes

-- rejection 0 with `len` 0 is answered only if there is no chain; rejection 0 with another `len` only with a shortest chain of so many certificates in the output buffer; any other rejection is the first that applies, with `len` 0; without a chain the buffer is unchanged
pub record ChainTells (i : Input) (day first : ℕ) (old new : List ℕ) (answer : ChainNumbers) : Type 0 where
  pub none : answer.rejection ≡ 0 → answer.len ≡ 0 → (xs : List ℕ) → Chain (pool i) day first xs → ⊥
  pub some : answer.rejection ≡ 0 → 0 < answer.len → InBuffer (pool i) day first answer.len old new
  pub accepted : (answer.rejection ≡ 0) ↔ (question_rejection i first (length old) ≡ None)
  pub rejected : 0 < answer.rejection → (why : Rejection) × (question_rejection i first (length old) ≡ Some why) × (answer.rejection ≡ rejection_number why) × (answer.len ≡ 0)
  pub unchanged : answer.len ≡ 0 → new ≡ old

-- where one call answers a chain, another one with the same and more certificates, signatures and anchors answers one that is no longer, unless it is rejected
abbrev pub MoreCalls : Type 0
MoreCalls =
    (i j : Input) (day first : ℕ) (old new before after : List ℕ) (answer other : ChainNumbers)
    → Grows i j
    → ChainCall i day first old new answer
    → ChainCall j day first before after other
    → answer.rejection ≡ 0
    → 0 < answer.len
    → other.rejection ≡ 0
    → (0 < other.len) × (other.len ≤ answer.len)

-- the promise of the three calls
pub record Gate : Type 0 where
  pub judge : (bytes : List ℕ) (answer : ℕ) → JudgeCall bytes answer → JudgeTells bytes answer
  pub piece : (bytes path : List ℕ) (answer : SpanNumbers) → PieceCall bytes path answer → PieceTells bytes path answer
  pub chain : (i : Input) (day first : ℕ) (old new : List ℕ) (answer : ChainNumbers) → ChainCall i day first old new answer → ChainTells i day first old new answer
  pub more : MoreCalls
