-- How a reader goes from byte to byte.
use Rattle.std.specs.Prelude.{ℕ, suc, ◌+◌, ◌-◌, ◌*◌, cond, ◌&&◌, ◌||◌, List, [], ◌∷◌, length, drop, replicate, ◌==◌, nat_le, nat_lt, slice_index, slice_set}
use Rattle.format.specs.Elements.{first_constructed, written_length}
use Rattle.element.specs.Limits.{deepest, longest}
use Rattle.element.specs.declared.progress.Progress.{Progress}
use Rattle.element.specs.declared.progress.Status.{Status}
use Rattle.element.specs.declared.progress.Status.TheVariants.{Ends, Within, Dead}
use Rattle.element.specs.declared.progress.position.Position.{Position}
use Rattle.element.specs.declared.progress.position.Position.TheVariants.{Tag, Length, OneByte, TwoBytes, LowByte, Header, Contents, Nowhere}

-- how many bytes an element with n bytes of contents takes
abbrev pub taken : (n : ℕ) → ℕ
taken n = 1 + length (written_length n) + n

-- the outermost row has no end: it needs more than any element takes
abbrev pub endless : ℕ
endless = 2 * (longest + 1)

-- a constructed element needs a level, and does not fit where an empty one would leave one byte
abbrev pub after_tag : (room levels tag : ℕ) → Position
after_tag room levels t = cond (nat_lt t first_constructed) (Length t) (cond (levels == 0 || room == taken 0 + 1) Nowhere (Length t))

-- below 128 a length is whole; behind 129 and 130 there must be room for the shortest contents with such a length
abbrev pub after_first : (room tag byte : ℕ) → Position
after_first room t x =
    cond (nat_lt x 128) (Header t x)
    (cond (x == 129 && nat_le (taken 128) room) (OneByte t) (cond (x == 130 && nat_le (taken 256) room) (TwoBytes t) Nowhere))

-- a higher byte is not 0, and there must be room for the shortest contents with it
abbrev pub after_high : (room tag high : ℕ) → Position
after_high room t h = cond (h == 0 || nat_lt room (taken (256 * h))) Nowhere (LowByte t h)

-- the position behind one more byte, in a row that still needs `room` bytes and in which `levels` levels may open
abbrev pub next_position : (room levels : ℕ) → Position → (byte : ℕ) → Position
next_position room levels Tag x = after_tag room levels x
next_position room levels (Length t) x = after_first room t x
next_position room levels (OneByte t) x = cond (nat_lt x 128) Nowhere (Header t x)
next_position room levels (TwoBytes t) x = after_high room t x
next_position room levels (LowByte t h) x = Header t (256 * h + x)
next_position room levels (Header t n) x = Nowhere
next_position room levels (Contents n) x = Contents (n - 1)
next_position room levels Nowhere x = Nowhere

-- where a reader is, how many levels may open there, and what each open row still needs, the row in which n levels may open at index n
pub record State : Type 0 where
  pub position : Position
  pub levels : ℕ
  pub rooms : List ℕ

-- before the first byte
abbrev pub start : State
start = record { position = Tag; levels = deepest; rooms = replicate (deepest + 1) endless }

-- the same at another position
abbrev pub at_position : State → Position → State
at_position s p = record { position = p; levels = s.levels; rooms = s.rooms }

-- what the innermost row still needs
abbrev pub room_of : State → ℕ
room_of s = slice_index s.rooms s.levels

-- k bytes of the innermost row are given to an element; the outermost has no end
abbrev pub spent : State → (k : ℕ) → State
spent s k = cond (nat_lt s.levels deepest) (record { position = s.position; levels = s.levels; rooms = slice_set s.rooms s.levels (room_of s - k) }) s

-- a row of n bytes is opened within the innermost
abbrev pub within : State → (n : ℕ) → State
within s n = record { position = Tag; levels = s.levels - 1; rooms = slice_set s.rooms (s.levels - 1) n }

-- behind a whole header the contents are open, if the row has their bytes, is not left with one, and one byte is not to be a row
abbrev pub opened : State → (tag n : ℕ) → State
opened s t n =
    cond (nat_lt (room_of s) (taken n) || room_of s == taken n + 1) (at_position s Nowhere)
    (cond (nat_lt t first_constructed) (at_position (spent s (taken n)) (Contents n))
    (cond (n == 1 || s.levels == 0) (at_position s Nowhere) (within (spent s (taken n)) n)))

-- behind a header its element is opened; anywhere else nothing changes
abbrev pub entered_at : State → Position → State
entered_at s (Header t n) = opened s t n
entered_at s Tag = s
entered_at s (Length t) = s
entered_at s (OneByte t) = s
entered_at s (TwoBytes t) = s
entered_at s (LowByte t h) = s
entered_at s (Contents n) = s
entered_at s Nowhere = s

-- the same by its own position
abbrev pub entered : State → State
entered s = entered_at s s.position

-- how many rows, innermost first, need nothing more; the outermost is none of them
abbrev pub full : List ℕ → ℕ
full [] = 0
full (r ∷ []) = 0
full (r ∷ (s ∷ rows)) = cond (r == 0) (suc (full (s ∷ rows))) 0

-- before a tag, in the innermost row that still needs bytes
abbrev pub unfilled : State → State
unfilled s = record { position = Tag; levels = s.levels + full (drop s.levels s.rooms); rooms = s.rooms }

-- before a tag or at the end of contents, the rows that have all their bytes are closed
abbrev pub settled_at : State → Position → State
settled_at s Tag = unfilled s
settled_at s (Contents n) = cond (n == 0) (unfilled s) s
settled_at s (Length t) = s
settled_at s (OneByte t) = s
settled_at s (TwoBytes t) = s
settled_at s (LowByte t h) = s
settled_at s (Header t n) = s
settled_at s Nowhere = s

-- the same by its own position
abbrev pub settled : State → State
settled s = settled_at s s.position

-- one byte further
abbrev pub stepped : State → (byte : ℕ) → State
stepped s x = settled (entered (at_position s (next_position (room_of s) s.levels s.position x)))

-- over many bytes
unfoldable pub run : State → List ℕ → State
run s [] = s
run s (x ∷ b) = run (stepped s x) b

-- what a reader keeps
abbrev pub state : Progress → State
state p = record { position = p.position; levels = p.levels; rooms = p.rooms }

-- what the position says of the bytes so far: before a tag of the outermost row they could end
abbrev pub status_at : (levels : ℕ) → Position → Status
status_at levels Tag = cond (levels == deepest) Ends Within
status_at levels (Length t) = Within
status_at levels (OneByte t) = Within
status_at levels (TwoBytes t) = Within
status_at levels (LowByte t h) = Within
status_at levels (Header t n) = Within
status_at levels (Contents n) = Within
status_at levels Nowhere = Dead
