-- What the first element of bytes is.
use Rattle.std.specs.Prelude.{◌≡◌, ℕ, ◌<◌, ◌≤◌, List, ◌++◌, length, Some, None, Option, ◌≢◌}
use Rattle.format.specs.Elements.{framed}
use Rattle.element.specs.declared.judging.Opening.{Opening}
use Rattle.element.specs.Limits.{longest}

-- the bytes are an element and the bytes behind it
pub record Opens (b : List ℕ) (o : Opening) : Type 0 where
  pub byte : o.tag < 256
  pub fits : length o.contents.now ≤ longest
  pub is : b ≡ framed o.tag o.contents.now ++ o.behind.now

-- the element at the front of the bytes, or none exactly if no element stands there
abbrev pub FrontElement : List ℕ → Option Opening → Type 0
FrontElement b (Some o) = Opens b o
FrontElement b None = (tag : ℕ) (contents behind : List ℕ) → length contents ≤ longest → b ≢ framed tag contents ++ behind
