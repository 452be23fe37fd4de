-- What a cursor over a row of elements hands back, and what it leaves.
use Rattle.std.specs.Prelude.{◌≡◌, ℕ, ◌+◌, ◌<◌, ◌≤◌, List, ◌++◌, length, Some, None, Option, ◌≢◌, slice_get}
use Rattle.std.specs.Iterator.{YieldsThen}
use Rattle.std.specs.List.{flat_map}
use Rattle.format.specs.Elements.{Row, empty, first_constructed, framed, written, Reads}
use Rattle.format.specs.Paths.{nth, before}
use Rattle.element.specs.Limits.{longest}
use Rattle.element.specs.declared.walking.Cursor.{Cursor}
use Rattle.element.specs.declared.walking.Element.{Element}

-- the bytes that a cursor has before it
abbrev pub ahead : Cursor → List ℕ
ahead c = c.rest.now

-- where they begin in the bytes that were lent
abbrev pub offset : Cursor → ℕ
offset c = c.at

-- an element that stands at the front of the bytes before a cursor, and the cursor behind it
pub record Passes (c : Cursor) (e : Element) (after : Cursor) : Type 0 where
  pub front : ahead c ≡ e.whole.now ++ ahead after
  pub place : e.at ≡ offset c
  pub on : offset after ≡ offset c + length e.whole.now

-- the next element, or none exactly if no element stands at the front, and then the cursor stays
abbrev pub NextElement : Cursor → Option Element → Cursor → Type 0
NextElement c (Some e) after = Passes c e after
NextElement c None after = (after ≡ c) × ((tag : ℕ) (contents behind : List ℕ) → length contents ≤ longest → ahead c ≢ framed tag contents ++ behind)

-- a cursor before the first element within an element, or none exactly if the element is primitive
abbrev pub RowOf : Element → Option Cursor → Type 0
RowOf e (Some c) = (first_constructed ≤ e.tag) × (ahead c ≡ e.contents.now) × (offset c ≡ e.contents_at)
RowOf e None = e.tag < first_constructed

-- the element with an index in a row that begins at a place: as it is written, at its own place; none exactly if there is none
abbrev pub IsNth : (row : Row) (start index : ℕ) → Option Element → Type 0
IsNth row start index (Some e) = (e.whole.now ≡ written (nth row index)) × (e.at ≡ start + before row index)
IsNth row start index None = nth row index ≡ empty

-- these are the elements of the row that a cursor has ahead, and one behind the other they are its bytes
pub record AreElements (row : Row) (c : Cursor) (given : List Element) : Type 0 where
  pub each : (index : ℕ) → IsNth row (offset c) index (slice_get given index)
  pub whole : flat_map (λ e. e.whole.now) given ≡ ahead c

-- the elements that a cursor gives until it gives none are those of the row
abbrev pub CursorGives : Type 0
CursorGives = (depth : ℕ) (row : Row) (c end : Cursor) (given : List Element) → Reads depth longest (ahead c) row → YieldsThen NextElement c given None end → AreElements row c given
