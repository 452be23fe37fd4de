-- What a writer has been given of a text's answer.
use Rattle.std.specs.Prelude.{ℕ, List, [], Some, Option, Ok, Err, Result, ◌⊎◌, ◌++◌}
use Rattle.std.specs.List.{All}
use Rattle.std.specs.Io.KnownBytes.{Keeps, Appends}
use Rattle.text.specs.Meaning.{Meaning, nothing, seals, trusted, meaning}
use Rattle.text.specs.Tokens.{lines}
use Rattle.session.specs.declared.error.AnswerError.{AnswerError}
use Rattle.session.specs.declared.error.AnswerError.TheVariants.{Memory, Write}
use Rattle.session.specs.Answers.{AnsweredText, AnsweredFront}

-- a line that brings nothing and asks nothing: a blank one, a comment, `seals` or `trusted` without marks
pub data StoresNothing : Option Meaning → Type 0 where
  says_nothing : StoresNothing (Some nothing)
  no_seals : StoresNothing (Some (seals []))
  no_trusted : StoresNothing (Some (trusted []))

-- no line of the text brings or asks anything
abbrev pub NothingStored : (text : List ℕ) → Type 0
NothingStored text = All (λ line. StoresNothing (meaning line)) (lines text)

-- old and new: the bytes that the writer holds before and after, if they are known
-- Ok: the answer of the text is written
-- out of memory: nothing is written, or the answers of the first lines, whole
-- the writer failed: a front of the answers of the first lines is written
abbrev pub WritesAnswer : (text : List ℕ) → (old new : Option (List ℕ)) → Result Unit AnswerError → Type 0
WritesAnswer text old new (Ok _) = (answer : List ℕ) × AnsweredText text answer × Appends old new answer
WritesAnswer text old new (Err (Memory _)) = Keeps old new ⊎ ((answer : List ℕ) × AnsweredFront text answer × Appends old new answer)
WritesAnswer text old new (Err (Write _)) = (said unsaid : List ℕ) × AnsweredFront text (said ++ unsaid) × Appends old new said
