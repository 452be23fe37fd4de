-- What a reader that takes its bytes one by one says of the bytes so far.
use Rattle.std.specs.Prelude.{◌≡◌, ℕ, min, true, false, List, ◌++◌, length}
use Rattle.format.specs.Elements.{all_bytes, Readable}
use Rattle.format.specs.Viable.{Viable}
use Rattle.element.specs.Limits.{deepest, longest}
use Rattle.element.specs.Machine.{start, run, state}
use Rattle.element.specs.declared.progress.Progress.{Progress}
use Rattle.element.specs.declared.progress.position.Position.{Position}
use Rattle.element.specs.declared.progress.position.Position.TheVariants.{Tag, Length, OneByte, TwoBytes, LowByte, Header, Contents, Nowhere}
use Rattle.element.specs.declared.progress.Status.{Status}
use Rattle.element.specs.declared.progress.Status.TheVariants.{Ends, Within, Dead}

-- the reader has gone over these bytes, from the first; what that means to a caller stands in the contracts of `new`, `step` and `skip`, so `Machine` need not be read for it
pub record Gone (p : Progress) (bytes : List ℕ) : Type 0 where
  pub each : all_bytes bytes ≡ true
  pub is : state p ≡ run start bytes

-- the bytes read as a row and could end here; or they are viable and read as no row yet; or they are not viable
abbrev pub StatusSays : (bytes : List ℕ) → Status → Type 0
StatusSays b Ends = Readable deepest longest b true
StatusSays b Within = Viable deepest longest b × Readable deepest longest b false
StatusSays b Dead = Viable deepest longest b → ⊥

-- how many bytes of a primitive element's contents are still to come, at a position
abbrev pub left_at : Position → ℕ
left_at (Contents n) = n
left_at Tag = 0
left_at (Length t) = 0
left_at (OneByte t) = 0
left_at (TwoBytes t) = 0
left_at (LowByte t h) = 0
left_at (Header t n) = 0
left_at Nowhere = 0

-- how many bytes of a primitive element's contents are still to come
abbrev pub contents_left : Progress → ℕ
contents_left p = left_at p.position

-- `over` bytes are skipped, as many of the contents as are left but at most `limit`: the reader is where as many bytes read one by one would bring it, whatever they are, and viable bytes stay viable
pub record Skipped (p : Progress) (limit over : ℕ) (q : Progress) : Type 0 where
  pub far : over ≡ min limit (contents_left p)
  pub same : (bytes : List ℕ) → length bytes ≡ over → state q ≡ run (state p) bytes
  pub gone : (before bytes : List ℕ) → Gone p before → length bytes ≡ over → all_bytes bytes ≡ true → Gone q (before ++ bytes)
  pub viable : (before bytes : List ℕ) → Gone p before → length bytes ≡ over → all_bytes bytes ≡ true → Viable deepest longest before → Viable deepest longest (before ++ bytes)
