-- What an index says of the bytes that it was made of. `IndexOf` need not be read: what it means to a caller stands in the contracts of `new`, `verdict`, `locate` and `piece`.
use Rattle.std.specs.Prelude.{ℕ, List, [], ◌∷◌, Some, None, Option, option_map, slice_get}
use Rattle.element.specs.Judged.{Judged}
use Rattle.element.specs.Located.{Located}
use Rattle.element.specs.declared.index.Entry.{Entry, out-Entry}
use Rattle.element.specs.declared.index.Index.{Index}
use Rattle.element.specs.declared.paths.Span.{Span}

abbrev pub span_of : Entry → Span
span_of e = (out-Entry e).span

abbrev pub entries_within : Option Entry → List Entry
entries_within (Some e) = (out-Entry e).within.items
entries_within None = []

-- the entry that a path leads to: the first number says which entry of the row, the next which of those within that one
unfoldable pub entry_at : List Entry → (path : List ℕ) → Option Entry
entry_at row [] = None
entry_at row (n ∷ []) = slice_get row n
entry_at row (n ∷ (k ∷ path)) = entry_at (entries_within (slice_get row n)) (k ∷ path)

-- the verdict is that on the bytes, and each path leads to the entry of the element that it leads to in the bytes
pub record IndexOf (bytes : List ℕ) (index : Index) : Type 0 where
  pub judged : Judged bytes index.verdict
  pub located : (path : List ℕ) → Located bytes path (option_map span_of (entry_at index.row.items path))
