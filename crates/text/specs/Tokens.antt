-- The words of a line and the lines of a text.
use Rattle.std.specs.Prelude.{ℕ, Bool, cond, ◌||◌, List, [], ◌∷◌, ◌==◌}

-- a blank: space, tab or carriage return
abbrev pub blank : ℕ → Bool
blank b = b == 32 || (b == 9 || b == 13)

-- the end of a line: line feed
abbrev pub line_end : ℕ → Bool
line_end b = b == 10

-- the first segment with one more byte in front; that byte alone if there is no segment
abbrev pub lengthened : ℕ → List (List ℕ) → List (List ℕ)
lengthened b [] = (b ∷ []) ∷ []
lengthened b (p ∷ ps) = (b ∷ p) ∷ ps

-- what the bytes that pass a test cut the others into; behind a last one there is no segment
unfoldable pub segments : (ℕ → Bool) → List ℕ → List (List ℕ)
segments ends [] = []
segments ends (b ∷ bs) = cond (ends b) ([] ∷ segments ends bs) (lengthened b (segments ends bs))

-- the segments that aren't empty
abbrev pub some_of : List (List ℕ) → List (List ℕ)
some_of [] = []
some_of ([] ∷ ps) = some_of ps
some_of ((b ∷ p) ∷ ps) = (b ∷ p) ∷ some_of ps

-- the words of a line: what stands between its blanks
unfoldable pub words : List ℕ → List (List ℕ)
words line = some_of (segments blank line)

-- the lines of a text, without their ends; behind a last line feed there is no line
unfoldable pub lines : List ℕ → List (List ℕ)
lines text = segments line_end text
