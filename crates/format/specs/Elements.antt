-- Rows of elements, how they are written, and when bytes read as a row.
use Rattle.std.specs.Prelude.{◌≡◌, ℕ, zero, suc, ◌/◌, ◌%◌, Bool, true, false, cond, ◌&&◌, List, [], ◌∷◌, ◌++◌, length, nat_le, nat_lt}

-- a row is a list of elements; each has a tag and, as its contents, bytes (primitive) or a row (constructed)
pub data Row : Type 0 where
  empty : Row
  primitive : (tag : ℕ) (contents : List ℕ) (rest : Row) → Row
  constructed : (tag : ℕ) (contents : Row) (rest : Row) → Row

-- tags from this one on are of constructed elements
abbrev pub first_constructed : ℕ
first_constructed = 128

-- the greatest length that can be written: a greater one does not fit into two bytes
abbrev pub greatest_length : ℕ
greatest_length = 65535

-- a length is written in the fewest bytes: below 128 one byte; below 256 the byte 129 and the length; else the byte 130 and two bytes, the higher first
abbrev pub written_length : ℕ → List ℕ
written_length n = cond (nat_lt n 128) (n ∷ []) (cond (nat_lt n 256) (129 ∷ (n ∷ [])) (130 ∷ (n / 256 ∷ (n % 256 ∷ []))))

-- an element: its tag, the length of its contents, its contents
unfoldable pub framed : (tag : ℕ) → (contents : List ℕ) → List ℕ
framed t c = t ∷ (written_length (length c) ++ c)

-- the bytes of a row: its elements, one after the other
unfoldable pub written : Row → List ℕ
written empty = []
written (primitive t c r) = framed t c ++ written r
written (constructed t q r) = framed t (written q) ++ written r

-- each number is a byte
unfoldable pub all_bytes : List ℕ → Bool
all_bytes [] = true
all_bytes (x ∷ xs) = nat_lt x 256 && all_bytes xs

-- constructed elements have the tags from first_constructed to 255, primitive ones those below; contents have at most longest bytes; constructed elements are nested at most depth deep
unfoldable pub well_formed : (depth longest : ℕ) → Row → Bool
well_formed d m empty = true
well_formed d m (primitive t c r) = nat_lt t first_constructed && (all_bytes c && (nat_le (length c) m && well_formed d m r))
well_formed zero m (constructed t q r) = false
well_formed (suc d) m (constructed t q r) = nat_le first_constructed t && (nat_lt t 256 && (nat_le (length (written q)) m && (well_formed d m q && well_formed (suc d) m r)))

-- the bytes read as the row: it is well-formed, and they are its bytes
pub record Reads (depth longest : ℕ) (bytes : List ℕ) (row : Row) : Type 0 where
  pub well : well_formed depth longest row ≡ true
  pub writing : written row ≡ bytes

-- whether the bytes read as some row
abbrev pub Readable : (depth longest : ℕ) → (bytes : List ℕ) → Bool → Type 0
Readable d m b true = (row : Row) × Reads d m b row
Readable d m b false = (row : Row) → Reads d m b row → ⊥
