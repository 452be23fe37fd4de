-- What is left to read of a row once its first element is read.
use Rattle.std.specs.Prelude.{◌≡◌, ℕ, ◌<◌, ◌≤◌, Bool, true, false, List, length, Some, None, Option}
use Rattle.format.specs.Elements.{all_bytes, Readable}
use Rattle.element.specs.declared.judging.Rest.{Rest}
use Rattle.element.specs.Limits.{longest}

-- whether a part of the bytes reads as a row, at its depth, decides whether the bytes do
pub record Decides (depth : ℕ) (b : List ℕ) (rest : Rest) : Type 0 where
  pub within : length rest.bytes.now ≤ length b
  pub bytes : all_bytes rest.bytes.now ≡ true
  pub same : (v : Bool) → Readable rest.depth longest rest.bytes.now v → Readable depth longest b v

-- what is left to read once the first element is read: it is shorter and decides; or none, only if the bytes are none or are no row
abbrev pub Leaves : (depth : ℕ) → List ℕ → Option Rest → Type 0
Leaves d b (Some rest) = (length rest.bytes.now < length b) × Decides d b rest
Leaves d b None = 0 < length b → Readable d longest b false
