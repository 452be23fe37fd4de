-- Steps as the lists `far` and `from`, read and written.
use Rattle.std.proofs.Common.{◌≡◌, ℕ, zero, suc, ◌<◌, true, false, get_or, replicate, is_some, sym, refl, arith}
use Rattle.std.proofs.lemmas.Bool.{false≢true}
use Rattle.shortest.specs.inner.Steps.{step_of}

-- an unreached certificate, and a reached one
pub unreached : (far from : ℕ) → is_some (step_of far from) ≡ false → far ≡ 0
unreached zero below e = refl
unreached (suc k) below e = absurd (false≢true (sym e))

pub reached : (far from : ℕ) → is_some (step_of far from) ≡ true → 0 < far
reached zero below e = absurd (false≢true e)
reached (suc k) below e = omega arith

-- a list of one value reads as that value past its end too
pub same_at : {X : Type 0} (n i : ℕ) (x : X) → get_or (replicate n x) i x ≡ x
same_at zero i x = refl
same_at (suc n) zero x = refl
same_at (suc n) (suc i) x = same_at n i x
