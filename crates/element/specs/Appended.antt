-- What appending an element to bytes answers, what it leaves, and what it makes of bytes that read as a row.
use Rattle.std.specs.Prelude.{◌≡◌, ℕ, suc, ◌-◌, ◌<◌, ◌≤◌, true, List, ◌++◌, length, Ok, Err, Result}
use Rattle.format.specs.Elements.{Row, empty, primitive, constructed, first_constructed, framed, all_bytes, Reads}
use Rattle.element.specs.Limits.{deepest, longest}
use Rattle.element.specs.declared.writing.WriteError.{WriteError}
use Rattle.element.specs.declared.writing.WriteError.TheVariants.{Tag, Length, Contents, Memory}

-- the element stands behind the old bytes, or the bytes are unchanged and the reason is the first that applies: the tag is of the other kind, the contents are too long, they do not fit; T says that the tag fits, C that the contents do
abbrev pub Appended : (T C : Type 0) → (tag : ℕ) → (contents old new : List ℕ) → Result Unit WriteError → Type 0
Appended T C tag contents old new (Ok _) = T × (length contents ≤ longest) × C × (new ≡ old ++ framed tag contents)
Appended T C tag contents old new (Err Tag) = (T → ⊥) × (new ≡ old)
Appended T C tag contents old new (Err Length) = T × (longest < length contents) × (new ≡ old)
Appended T C tag contents old new (Err Contents) = T × (length contents ≤ longest) × (C → ⊥) × (new ≡ old)
Appended T C tag contents old new (Err (Memory _)) = T × (length contents ≤ longest) × C × (new ≡ old)

-- a primitive element: its contents are any bytes
abbrev pub AppendedPrimitive : (tag : ℕ) → (contents old new : List ℕ) → Result Unit WriteError → Type 0
AppendedPrimitive tag = Appended (tag < first_constructed) (Unit {0}) tag

-- a constructed element: its contents are a row, which nests one level less
abbrev pub AppendedConstructed : (tag : ℕ) → (contents old new : List ℕ) → Result Unit WriteError → Type 0
AppendedConstructed tag contents = Appended (first_constructed ≤ tag) ((row : Row) × Reads (deepest - 1) longest contents row) tag contents

-- the elements of a row, and behind them those of another
unfoldable pub joined : Row → Row → Row
joined empty behind = behind
joined (primitive t c r) behind = primitive t c (joined r behind)
joined (constructed t q r) behind = constructed t q (joined r behind)

-- bytes that read as a row, with a primitive element appended, read as that row and the element behind it
abbrev pub PrimitiveReads : Type 0
PrimitiveReads =
    (depth tag : ℕ) (contents old new : List ℕ) (row : Row)
    → all_bytes contents ≡ true → Reads depth longest old row → AppendedPrimitive tag contents old new (Ok tt) → Reads depth longest new (joined row (primitive tag contents empty))

-- the same with a constructed element whose contents read as a row of one level less
abbrev pub ConstructedReads : Type 0
ConstructedReads =
    (depth tag : ℕ) (contents old new : List ℕ) (row inner : Row)
    → tag < 256 → Reads depth longest contents inner → Reads (suc depth) longest old row → AppendedConstructed tag contents old new (Ok tt) → Reads (suc depth) longest new (joined row (constructed tag inner empty))

abbrev pub AppendedReads : Type 0
AppendedReads = PrimitiveReads × ConstructedReads
