-- The limits of the format that a reader keeps.
use Rattle.std.specs.Prelude.{ℕ}
use Rattle.format.specs.Elements.{greatest_length}

-- constructed elements stand within one another at most this deep
abbrev pub deepest : ℕ
deepest = 8

-- the contents of an element have at most as many bytes as a length can say
abbrev pub longest : ℕ
longest = greatest_length
