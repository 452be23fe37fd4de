-- The lines of the answers.
use Rattle.std.specs.Prelude.{◌≡◌, ℕ, ◌*◌, ◌/◌, ◌%◌, List, [], ◌∷◌, ◌++◌, replicate, codes, decimal, Option, Result, MatchResult}
use Rattle.std.specs.Option.{unwrap_or}
use Rattle.std.specs.List.{flat_map}
use Rattle.std.specs.Char.{digit_char}

-- the end of a line: line feed
abbrev pub line_feed : List ℕ
line_feed = 10 ∷ []

-- a space before a text
abbrev pub space_before : {X : Type 0} → (X → List ℕ) → X → List ℕ
space_before text x = 32 ∷ text x

-- the texts of a row's items, one space between them
abbrev pub spaced : {X : Type 0} → (X → List ℕ) → List X → List ℕ
spaced text [] = []
spaced text (x ∷ xs) = text x ++ flat_map (space_before text) xs

-- a byte in two digits of base sixteen, in lower case
abbrev pub hex_text : ℕ → List ℕ
hex_text b = digit_char (b / 16) ∷ (digit_char (b % 16) ∷ [])

-- `0 2 3`: the papers of a chain, by their indices
abbrev pub chain_text : List ℕ → List ℕ
chain_text row = spaced decimal row ++ line_feed

-- `none`
abbrev pub none_text : List ℕ
none_text = codes "none" ++ line_feed

-- `refused 3 at 7`
abbrev pub rejection_text : (number place : ℕ) → List ℕ
rejection_text number place = codes "refused " ++ (decimal number ++ (codes " at " ++ (decimal place ++ line_feed)))

-- the number of the rejection of a line that can't be read
abbrev pub unreadable_number : ℕ
unreadable_number = 5

-- `refused 5 at 7`: the rejection of line 7
abbrev pub unreadable_text : (n : ℕ) → List ℕ
unreadable_text n = rejection_text unreadable_number n

-- `ill at 17`
abbrev pub ill_text : ℕ → List ℕ
ill_text at = codes "ill at " ++ (decimal at ++ line_feed)

-- `02 00`: bytes in base sixteen
abbrev pub bytes_text : List ℕ → List ℕ
bytes_text bs = spaced hex_text bs ++ line_feed

-- two spaces for each level
abbrev pub indent : ℕ → List ℕ
indent level = replicate (2 * level) 32

-- `  01 41`: an element's tag and contents, two spaces further in for each level; no contents of a constructed one
abbrev pub element_text : (level tag : ℕ) → (contents : Option (List ℕ)) → List ℕ
element_text level tag contents = indent level ++ bytes_text (tag ∷ unwrap_or contents [])

-- a front of the text is appended: all of it, a part, or nothing
abbrev pub AppendsFront : (old text new : List ℕ) → Type 0
AppendsFront old text new = (part rest : List ℕ) × (text ≡ part ++ rest) × (new ≡ old ++ part)

-- a text is appended; out of memory, a front of it
abbrev pub AppendsText : {T E : Type 0} → Result T E → (old text new : List ℕ) → Type 0
AppendsText r old text new = MatchResult r (λ _. new ≡ old ++ text) (λ _. AppendsFront old text new)
