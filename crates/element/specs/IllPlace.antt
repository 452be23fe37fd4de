-- What looking for the place of malformed bytes answers.
use Rattle.std.specs.Prelude.{ℕ, true, List, Some, None, Option}
use Rattle.format.specs.Elements.{Readable}
use Rattle.format.specs.Viable.{IllAt}
use Rattle.element.specs.Limits.{deepest, longest}

-- none exactly if the bytes read as a row, else the place where they are malformed
abbrev pub IllPlace : List ℕ → Option ℕ → Type 0
IllPlace b None = Readable deepest longest b true
IllPlace b (Some at) = IllAt deepest longest b at
