-- How a chain stands in the output buffer.
use Rattle.std.specs.Prelude.{◌≡◌, ℕ, ◌-◌, ◌<◌, List, length, drop, slice_index}
use Rattle.trust.specs.inner.Layers.{down}

-- the first `count` places have the certificates from which `top` was reached, step by step, and `top` last; the rest is unchanged
pub record LaidOut (from : List ℕ) (top count : ℕ) (old new : List ℕ) : Type 0 where
  pub size : length new ≡ length old
  pub rest : drop count new ≡ drop count old
  pub each : (i : ℕ) → i < count → slice_index new i ≡ down from top (count - 1 - i)
