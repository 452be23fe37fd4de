-- The entries of a row of elements.
use Rattle.std.specs.Prelude.{◌≡◌, ℕ, ◌+◌, List, [], ◌∷◌, length}
use Rattle.format.specs.Elements.{Row, empty, primitive, constructed, framed, written}
use Rattle.format.specs.Paths.{inner_start}
use Rattle.element.specs.Indexed.{span_of}
use Rattle.element.specs.declared.index.Entry.{Entry, out-Entry}

-- one entry for each element of a row that begins at a place: where it stands, how many bytes it takes, and the entries of the row within
unfoldable pub Noted : Row → List Entry → (at : ℕ) → Type 0
Noted empty [] at = Unit {0}
Noted empty (e ∷ es) at = ⊥
Noted (primitive t c r) [] at = ⊥
Noted (primitive t c r) (e ∷ es) at =
    ((span_of e).at ≡ at) × ((span_of e).len ≡ length (framed t c)) × ((out-Entry e).within.items ≡ []) × Noted r es (at + length (framed t c))
Noted (constructed t q r) [] at = ⊥
Noted (constructed t q r) (e ∷ es) at =
    ((span_of e).at ≡ at) × ((span_of e).len ≡ length (framed t (written q))) × Noted q (out-Entry e).within.items (at + inner_start (constructed t q r)) × Noted r es (at + length (framed t (written q)))
