-- The spellings of a row: every way to put it into bytes, with any of the three forms of a length that has room for it.
use Rattle.std.specs.Prelude.{ℕ, ◌/◌, ◌%◌, ◌<◌, ◌≤◌, List, [], ◌∷◌, ◌++◌, length}
use Rattle.format.specs.Elements.{Row, empty, primitive, constructed, greatest_length}

-- a length below 128 may be one byte; one below 256 the byte 129 and the length; any length the byte 130 and two bytes, the higher first
pub data SpelledLength : ℕ → List ℕ → Type 0 where
  itself : {n : ℕ} → n < 128 → SpelledLength n (n ∷ [])
  one_byte : {n : ℕ} → n < 256 → SpelledLength n (129 ∷ (n ∷ []))
  two_bytes : {n : ℕ} → n ≤ greatest_length → SpelledLength n (130 ∷ (n / 256 ∷ (n % 256 ∷ [])))

-- an element is its tag, a spelling of the length of its contents, and its contents: bytes, or a spelling of the row within
pub data Spelled : Row → List ℕ → Type 0 where
  no_elements : Spelled empty []
  a_primitive : {t : ℕ} {c : List ℕ} {r : Row} {len rest : List ℕ} → SpelledLength (length c) len → Spelled r rest → Spelled (primitive t c r) (t ∷ (len ++ (c ++ rest)))
  a_constructed : {t : ℕ} {q r : Row} {len inner rest : List ℕ} → SpelledLength (length inner) len → Spelled q inner → Spelled r rest → Spelled (constructed t q r) (t ∷ (len ++ (inner ++ rest)))
