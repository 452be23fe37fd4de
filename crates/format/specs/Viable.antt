-- Bytes that may still become a row, and the place where malformed bytes are malformed.
use Rattle.std.specs.Prelude.{◌≡◌, ℕ, ◌+◌, ◌<◌, ◌≤◌, true, List, ◌++◌, length, take}
use Rattle.format.specs.Elements.{Row, all_bytes, Reads}

-- bytes are viable if some more make them read as a row; that those are bytes too follows, for a longest up to greatest_length
abbrev pub Viable : (depth longest : ℕ) → (bytes : List ℕ) → Type 0
Viable d m b = (more : List ℕ) × (row : Row) × Reads d m (b ++ more) row

-- the place of malformed bytes: the bytes before it are viable, and with the byte at it they are not; where all bytes are viable and only the end comes too soon, it is how many there are
pub record IllAt (depth longest : ℕ) (bytes : List ℕ) (at : ℕ) : Type 0 where
  pub within : at ≤ length bytes
  pub before : Viable depth longest (take at bytes)
  pub here : at < length bytes → Viable depth longest (take (at + 1) bytes) → ⊥
  pub end : at ≡ length bytes → (row : Row) → Reads depth longest bytes row → ⊥

-- bytes that read as no row are malformed at exactly one place
abbrev pub OnePlace : (depth longest : ℕ) → Type 0
OnePlace d m =
    (bytes : List ℕ)
    → all_bytes bytes ≡ true → ((row : Row) → Reads d m bytes row → ⊥) → (at : ℕ) × IllAt d m bytes at × ((other : ℕ) → IllAt d m bytes other → other ≡ at)
