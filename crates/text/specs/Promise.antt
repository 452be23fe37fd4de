-- Laws of lines, words, numbers and bytes. Those called `..Stand` are each the contract of a function in src/lib.rt.
use Rattle.std.specs.Prelude.{ℕ, ◌<◌, ◌≡◌, ◌↔◌, ◌⊎◌, Bool, false, true, List, [], ◌∷◌, ◌++◌, length, decimal, Option, Some}
use Rattle.std.specs.List.{All}
use Rattle.std.specs.Option.{unwrap_or}
use Rattle.text.specs.Texts.{hex_text, spaced, chain_text, none_text, rejection_text, ill_text, bytes_text, element_text}
use Rattle.text.specs.inner.Figures.{number, word_bytes}
use Rattle.text.specs.Grammar.{IsNumber, HexWord, HexWords, LineMeans}
use Rattle.text.specs.Meaning.{Meaning, meaning, number_limit}
use Rattle.text.specs.Tokens.{blank, line_end, words, lines}

-- bytes cut at an end: the segment before it and the rest behind it
pub record EndedSegment (ends : ℕ → Bool) (bytes segment rest : List ℕ) : Type 0 where
  pub end : ℕ
  pub at_end : ends end ≡ true
  pub cut : bytes ≡ segment ++ end ∷ rest

-- bytes, at least one, none of them an end, are the last segment
pub record LastSegment (bytes segment : List ℕ) (others : List (List ℕ)) : Type 0 where
  pub some : 0 < length segment
  pub whole : bytes ≡ segment
  pub last : others ≡ []

-- the segments of bytes: no end stands in one, and one end behind each but perhaps the last
abbrev pub SegmentsOf : (ℕ → Bool) → List ℕ → List (List ℕ) → Type 0
SegmentsOf ends bytes [] = bytes ≡ []
SegmentsOf ends bytes (p ∷ ps) = All (λ b. ends b ≡ false) p × (((rest : List ℕ) × EndedSegment ends bytes p rest × SegmentsOf ends rest ps) ⊎ LastSegment bytes p ps)

-- the lines of a text are what its line feeds cut it into
abbrev pub LinesStand : Type 0
LinesStand = (text : List ℕ) (ls : List (List ℕ)) → (lines text ≡ ls) ↔ SegmentsOf line_end text ls

-- a word ends here: at a blank, or at the end of the line
abbrev pub WordEnds : List ℕ → Type 0
WordEnds [] = Unit {0}
WordEnds (b ∷ bs) = blank b ≡ true

-- a line begins with this word, perhaps behind blanks, and this rest follows
pub record FirstWord (line word rest : List ℕ) : Type 0 where
  pub gap : List ℕ
  pub cut : line ≡ gap ++ (word ++ rest)
  pub blanks : All (λ b. blank b ≡ true) gap
  pub some : 0 < length word
  pub solid : All (λ b. blank b ≡ false) word
  pub ends : WordEnds rest

-- the words of a line, with only blanks before, between and behind them
abbrev pub WordsOf : List ℕ → List (List ℕ) → Type 0
WordsOf line [] = All (λ b. blank b ≡ true) line
WordsOf line (w ∷ ws) = (rest : List ℕ) × FirstWord line w rest × WordsOf rest ws

-- the words of a line are what stands between its blanks
abbrev pub WordsStand : Type 0
WordsStand = (line : List ℕ) (ws : List (List ℕ)) → (words line ≡ ws) ↔ WordsOf line ws

-- which words are numbers below a limit, and which are bytes
pub record DigitsStand : Type 0 where
  pub numbers : (limit : ℕ) (w : List ℕ) (n : ℕ) → (number limit w ≡ Some n) ↔ IsNumber limit w n
  pub bytes : (w bs : List ℕ) → (word_bytes w ≡ Some bs) ↔ HexWord w bs

-- what a line says, if anything, is what the grammar has
abbrev pub MeaningStand : Type 0
MeaningStand = (line : List ℕ) (m : Meaning) → (meaning line ≡ Some m) ↔ LineMeans (words line) m

-- printed numbers and bytes are read back
pub record FiguresStand : Type 0 where
  pub numbers : (n : ℕ) → n < number_limit → IsNumber number_limit (decimal n) n
  pub bytes : (bs : List ℕ) → All (λ b. b < 256) bs → HexWords (words (spaced hex_text bs)) bs

-- two elements' lines show the same level, tag and contents, and the same text follows; no contents print as empty ones do
pub record SameElement (k l t u : ℕ) (c d : Option (List ℕ)) (r s : List ℕ) : Type 0 where
  pub level : k ≡ l
  pub row : t ∷ unwrap_or c [] ≡ u ∷ unwrap_or d []
  pub rest : r ≡ s

-- an element's line determines its level, its tag and its contents, and where it ends
abbrev pub ElementLine : Type 0
ElementLine = (k l t u : ℕ) (c d : Option (List ℕ)) (r s : List ℕ) → element_text k t c ++ r ≡ element_text l u d ++ s → SameElement k l t u c d r s

-- a line of an answer: a row of numbers or of bytes, `none`, the place where bytes are malformed, or a rejection
pub data AnswerLine : Type 0 where
  figures : (numbers : List ℕ) → AnswerLine
  none : AnswerLine
  ill : (at : ℕ) → AnswerLine
  rejection : (number place : ℕ) → AnswerLine

-- its text, given how a row prints
abbrev pub line_text : (figures_text : List ℕ → List ℕ) → AnswerLine → List ℕ
line_text figures_text (figures numbers) = figures_text numbers
line_text figures_text none = none_text
line_text figures_text (ill at) = ill_text at
line_text figures_text (rejection number place) = rejection_text number place

-- its numbers fit: those of a row are below a limit, any other below 2 ^ 64
abbrev pub FitsLine : (limit : ℕ) → AnswerLine → Type 0
FitsLine limit (figures numbers) = All (λ n. n < limit) numbers
FitsLine limit none = Unit {0}
FitsLine limit (ill at) = at < number_limit
FitsLine limit (rejection number place) = (number < number_limit) × (place < number_limit)

-- a line's text determines the line, and where it ends
abbrev pub TellsLine : (limit : ℕ) → (figures_text : List ℕ → List ℕ) → Type 0
TellsLine limit figures_text = (a b : AnswerLine) (r s : List ℕ) → FitsLine limit a → FitsLine limit b → line_text figures_text a ++ r ≡ line_text figures_text b ++ s → (a ≡ b) × (r ≡ s)

-- different answers print differently: to `chain`, to `piece`, and the elements that `paper` shows
pub record AnswersStand : Type 0 where
  pub chains : TellsLine number_limit chain_text
  pub bytes : TellsLine 256 bytes_text
  pub elements : ElementLine
