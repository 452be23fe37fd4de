-- An element by its path, and the place in the bytes where it begins.
use Rattle.std.specs.Prelude.{ℕ, zero, suc, ◌+◌, List, [], ◌∷◌, length}
use Rattle.format.specs.Elements.{Row, empty, primitive, constructed, written_length, framed, written}

-- the element with an index, as a row of one; empty if there is none
unfoldable pub nth : Row → ℕ → Row
nth empty n = empty
nth (primitive t c r) zero = primitive t c empty
nth (primitive t c r) (suc n) = nth r n
nth (constructed t q r) zero = constructed t q empty
nth (constructed t q r) (suc n) = nth r n

-- the row within the first element, if that is constructed; else empty
unfoldable pub inside : Row → Row
inside empty = empty
inside (primitive t c r) = empty
inside (constructed t q r) = q

-- a path is a row of indices: of an element of the row, of an element within that one, and so on; the path of no index leads to nothing
unfoldable pub at_path : Row → List ℕ → Row
at_path row [] = empty
at_path row (n ∷ []) = nth row n
at_path row (n ∷ (k ∷ path)) = at_path (inside (nth row n)) (k ∷ path)

-- how many bytes the elements before the one with an index take
unfoldable pub before : Row → ℕ → ℕ
before empty n = 0
before (primitive t c r) zero = 0
before (primitive t c r) (suc n) = length (framed t c) + before r n
before (constructed t q r) zero = 0
before (constructed t q r) (suc n) = length (framed t (written q)) + before r n

-- where the row within the first element begins, behind its tag and its length, if that is constructed; else 0
unfoldable pub inner_start : Row → ℕ
inner_start empty = 0
inner_start (primitive t c r) = 0
inner_start (constructed t q r) = 1 + length (written_length (length (written q)))

-- the place in the bytes of a row where the element by a path begins
unfoldable pub place : Row → List ℕ → ℕ
place row [] = 0
place row (n ∷ []) = before row n
place row (n ∷ (k ∷ path)) = before row n + (inner_start (nth row n) + place (inside (nth row n)) (k ∷ path))
