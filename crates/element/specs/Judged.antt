-- What judging bytes answers.
use Rattle.std.specs.Prelude.{ℕ, List}
use Rattle.format.specs.Elements.{Row, Reads}
use Rattle.format.specs.Viable.{IllAt}
use Rattle.element.specs.Limits.{deepest, longest}
use Rattle.element.specs.declared.judging.Verdict.{Verdict}
use Rattle.element.specs.declared.judging.Verdict.TheVariants.{Well, Ill}

-- well exactly if the bytes read as a row of elements, else ill at the place where they are malformed
abbrev pub Judged : List ℕ → Verdict → Type 0
Judged b Well = (row : Row) × Reads deepest longest b row
Judged b (Ill at) = ((row : Row) → Reads deepest longest b row → ⊥) × IllAt deepest longest b at
