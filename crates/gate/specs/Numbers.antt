-- What a call of each function answers, in numbers of C.
use Rattle.std.specs.Prelude.{◌≡◌, ℕ, ◌+◌, List, Some, None, Option, Ok, Err, Result}
use Rattle.chain.specs.Inputs.{Input}
use Rattle.chain.specs.Rejections.{rejection_number}
use Rattle.chain.specs.declared.input.Rejection.{Rejection}
use Rattle.shortest.specs.Answers.{Answers}
use Rattle.element.specs.declared.judging.Verdict.{Verdict}
use Rattle.element.specs.declared.judging.Verdict.TheVariants.{Well, Ill}
use Rattle.element.specs.declared.paths.Span.{Span}
use Rattle.element.specs.Judged.{Judged}
use Rattle.element.specs.Located.{Located}
use Rattle.gate.specs.declared.SpanNumbers.{SpanNumbers}
use Rattle.gate.specs.declared.ChainNumbers.{ChainNumbers}

-- 0 if the bytes are well-formed, k + 1 if they are ill at k
abbrev pub verdict_number : Verdict → ℕ
verdict_number Well = 0
verdict_number (Ill at) = at + 1

-- place of an element and how many bytes it has; 0 and 0 if there is none
abbrev pub span_numbers : Option Span → SpanNumbers
span_numbers (Some s) = record { at = s.at; len = s.len }
span_numbers None = record { at = 0; len = 0 }

-- the number of the rejection or 0, and how many certificates the chain has, 0 if there is none
abbrev pub answer_numbers : Result (Option ℕ) Rejection → ChainNumbers
answer_numbers (Ok (Some k)) = record { rejection = 0; len = k }
answer_numbers (Ok None) = record { rejection = 0; len = 0 }
answer_numbers (Err r) = record { rejection = rejection_number r; len = 0 }

-- a call of `judge` with these bytes
abbrev pub JudgeCall : (bytes : List ℕ) → (answer : ℕ) → Type 0
JudgeCall bytes answer = (v : Verdict) × Judged bytes v × (answer ≡ verdict_number v)

-- a call of `piece` with these bytes and this path
abbrev pub PieceCall : (bytes path : List ℕ) → (answer : SpanNumbers) → Type 0
PieceCall bytes path answer = (o : Option Span) × Located bytes path o × (answer ≡ span_numbers o)

-- a call of `chain` with this input; old is what it finds in the output buffer, new what it leaves there
abbrev pub ChainCall : Input → (day first : ℕ) → (old new : List ℕ) → (answer : ChainNumbers) → Type 0
ChainCall i day first old new answer = (a : Result (Option ℕ) Rejection) × Answers i day first old new a × (answer ≡ answer_numbers a)
