-- The laws of the format, for every depth and every limit of the contents' length, but where a law says which. Each is the contract of a function of the crate.
use Rattle.std.specs.Prelude.{◌≡◌, ℕ, ◌≤◌, Bool, true, false, ◌⊎◌, List, [], ◌∷◌, ◌++◌, length, take, drop, ◌≢◌}
use Rattle.format.specs.Elements.{Row, empty, primitive, constructed, greatest_length, written, well_formed, Reads}
use Rattle.format.specs.Spelled.{Spelled}
use Rattle.format.specs.Paths.{at_path, place}

-- any bytes read as exactly one row, or as none
abbrev pub OneReadingAt : (depth longest : ℕ) → Type 0
OneReadingAt depth longest =
    (bytes : List ℕ)
    → ((row : Row) × Reads depth longest bytes row × ((other : Row) → Reads depth longest bytes other → other ≡ row)) ⊎ ((row : Row) → Reads depth longest bytes row → ⊥)

abbrev pub OneReading : Type 0
OneReading = (depth longest : ℕ) → OneReadingAt depth longest

abbrev pub is_empty : Row → Bool
is_empty empty = true
is_empty (primitive t c r) = false
is_empty (constructed t q r) = false

-- a row of one element
abbrev pub single : Row → Bool
single empty = false
single (primitive t c r) = is_empty r
single (constructed t q r) = is_empty r

-- no element is the front of another: if two elements, each with some more bytes, are the same bytes, then the elements are the same and the further bytes too
abbrev pub SameFrontAt : (depth longest : ℕ) → Type 0
SameFrontAt depth longest =
    (a b : Row) (u v : List ℕ)
    → single a ≡ true → single b ≡ true → well_formed depth longest a ≡ true → well_formed depth longest b ≡ true → written a ++ u ≡ written b ++ v → (a ≡ b) × (u ≡ v)

abbrev pub SameFront : Type 0
SameFront = (depth longest : ℕ) → SameFrontAt depth longest

-- what is written of a row reads as the row, and no other bytes do; of all spellings of the row only the written one reads, and as no other row
pub record OnlyWriting (depth longest : ℕ) (row : Row) : Type 0 where
  -- the written bytes are one of the spellings, where no contents are longer than a length can say
  pub spelled : longest ≤ greatest_length → Spelled row (written row)
  -- they read as the row
  pub reads : Reads depth longest (written row) row
  -- no other bytes read as the row, whether they are a spelling of it or not
  pub no_other : (bytes : List ℕ) → Reads depth longest bytes row → bytes ≡ written row
  -- a spelling of the row that reads, as whatever row, is the written one, and reads as the row
  pub only : (bytes : List ℕ) (other : Row) → Spelled row bytes → Reads depth longest bytes other → (bytes ≡ written row) × (other ≡ row)
  -- no other well-formed row is written alike
  pub apart : (other : Row) → well_formed depth longest other ≡ true → written other ≡ written row → other ≡ row

abbrev pub WrittenOnceAt : (depth longest : ℕ) → Type 0
WrittenOnceAt depth longest = (row : Row) → well_formed depth longest row ≡ true → OnlyWriting depth longest row

abbrev pub WrittenOnce : Type 0
WrittenOnce = (depth longest : ℕ) → WrittenOnceAt depth longest

-- bytes that read as a row within some limits read as the same row within wider ones
abbrev pub Wider : Type 0
Wider = (d e m n : ℕ) (bytes : List ℕ) (row : Row) → d ≤ e → m ≤ n → Reads d m bytes row → Reads e n bytes row

-- an element by a path is a part of the bytes: its own bytes, from its place on
abbrev pub PartOfBytes : Type 0
PartOfBytes =
    (depth longest : ℕ) (bytes : List ℕ) (row : Row) (path : List ℕ)
    → Reads depth longest bytes row → take (length (written (at_path row path))) (drop (place row path) bytes) ≡ written (at_path row path)

-- two paths that lead to elements at the same place are the same path
abbrev pub OnePath : Type 0
OnePath =
    (row : Row) (p q : List ℕ)
    → (at_path row p ≢ empty) → (at_path row q ≢ empty) → place row p ≡ place row q → p ≡ q

-- samples: a row of two elements; a spelling with a length longer than need be, which reads as nothing; an end too soon; no bytes
pub record SamplesAt (depth longest : ℕ) : Type 0 where
  pub two : Reads depth longest (128 ∷ 5 ∷ 1 ∷ 1 ∷ 65 ∷ 2 ∷ 0 ∷ 5 ∷ 2 ∷ 7 ∷ 8 ∷ []) (constructed 128 (primitive 1 (65 ∷ []) (primitive 2 [] empty)) (primitive 5 (7 ∷ 8 ∷ []) empty))
  pub longer : Spelled (primitive 5 (7 ∷ 8 ∷ []) empty) (5 ∷ 129 ∷ 2 ∷ 7 ∷ 8 ∷ [])
  pub longer_unread : (row : Row) → Reads depth longest (5 ∷ 129 ∷ 2 ∷ 7 ∷ 8 ∷ []) row → ⊥
  pub cut : (row : Row) → Reads depth longest (5 ∷ 3 ∷ 7 ∷ 8 ∷ []) row → ⊥
  pub nothing : Reads depth longest [] empty

-- the first sample has contents of five bytes, one level deep
abbrev pub Samples : Type 0
Samples = (depth longest : ℕ) → 1 ≤ depth → 5 ≤ longest → SamplesAt depth longest
