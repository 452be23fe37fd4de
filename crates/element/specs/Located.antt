-- What looking for an element by its path answers.
use Rattle.std.specs.Prelude.{◌≡◌, ℕ, List, [], length, take, drop, Some, None, Option, ◌≢◌}
use Rattle.std.specs.Option.{unwrap_or}
use Rattle.format.specs.Elements.{Row, empty, written, Reads}
use Rattle.format.specs.Paths.{at_path, place}
use Rattle.element.specs.Limits.{deepest, longest}
use Rattle.element.specs.declared.paths.Span.{Span}

-- a path leads to an element of the row that the bytes read as: where it begins, and the part of the bytes that it is
pub record Leads (bytes path : List ℕ) (at : ℕ) (whole : List ℕ) : Type 0 where
  pub row : Row
  pub reads : Reads deepest longest bytes row
  pub some : at_path row path ≢ empty
  pub there : at ≡ place row path
  pub is : whole ≡ written (at_path row path)
  pub part : whole ≡ take (length whole) (drop at bytes)

-- the bytes are malformed, or the path leads to nothing
abbrev pub LeadsNowhere : (bytes path : List ℕ) → Type 0
LeadsNowhere b path = (row : Row) → Reads deepest longest b row → at_path row path ≡ empty

-- the place and the size of the element that the path leads to, or none exactly if there is none
abbrev pub Located : (bytes path : List ℕ) → Option Span → Type 0
Located b path (Some s) = (whole : List ℕ) × Leads b path s.at whole × (s.len ≡ length whole)
Located b path None = LeadsNowhere b path

-- the part of the bytes that the element is, or none exactly if there is none
abbrev pub Piece : (bytes path : List ℕ) → Option (List ℕ) → Type 0
Piece b path (Some part) = (at : ℕ) × Leads b path at part
Piece b path None = LeadsNowhere b path

-- a part of the bytes, or no bytes: for every reading it is the element that the path leads to, as it is written, and stands at its place; of malformed bytes it is no bytes
pub record IsPart (bytes path part : List ℕ) : Type 0 where
  pub is : (row : Row) → Reads deepest longest bytes row → part ≡ written (at_path row path)
  pub there : (row : Row) → Reads deepest longest bytes row → part ≡ take (length part) (drop (place row path) bytes)
  pub malformed : ((row : Row) → Reads deepest longest bytes row → ⊥) → part ≡ []

-- a piece is that part
abbrev pub PieceMeans : Type 0
PieceMeans = (bytes path : List ℕ) (o : Option (List ℕ)) → Piece bytes path o → IsPart bytes path (unwrap_or o [])
