-- Answers put into vectors and writers.
use Rattle.std.specs.Prelude.{◌≡◌, ℕ, List, ◌++◌, Option, Ok, Err, Result, MatchResult, ⊤}
use Rattle.std.specs.Io.KnownBytes as io
use Rattle.text.specs.Texts.{AppendsText}
use Rattle.session.specs.declared.error.AnswerError.{AnswerError}
use Rattle.session.specs.declared.error.AnswerError.TheVariants.{Memory, Write}

-- a text that is an answer is appended; out of memory, a front of it
abbrev pub Puts : {T E : Type 0} → (is_answer : List ℕ → Type 0) → Result T E → (old new : List ℕ) → Type 0
Puts A r old new = (text : List ℕ) × A text × AppendsText r old text new

-- a text that is an answer is appended, if memory does not run out
abbrev pub PutsIfOk : {T E : Type 0} → (is_answer : List ℕ → Type 0) → Result T E → (old new : List ℕ) → Type 0
PutsIfOk A r old new = MatchResult r (λ _. (text : List ℕ) × A text × (new ≡ old ++ text)) (λ _. ⊤)

-- all of the bytes are written, or after an error a front of them
abbrev pub WritesFront : {T E : Type 0} → Result T E → (bytes : List ℕ) → (old new : Option (List ℕ)) → Type 0
WritesFront r bytes old new = MatchResult r (λ _. io.Appends old new bytes) (λ _. (front rest : List ℕ) × (bytes ≡ front ++ rest) × io.Appends old new front)

-- a text that is an answer is written; nothing is if memory fails, and a front of it if the writer does
abbrev pub WritesOne : {T : Type 0} → (is_answer : List ℕ → Type 0) → Result T AnswerError → (old new : Option (List ℕ)) → Type 0
WritesOne A (Ok _) old new = (text : List ℕ) × A text × io.Appends old new text
WritesOne A (Err (Memory _)) old new = io.Keeps old new
WritesOne A (Err (Write _)) old new = (front rest : List ℕ) × A (front ++ rest) × io.Appends old new front
