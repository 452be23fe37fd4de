-- How a chain is written, from its top down.
use Rattle.std.proofs.Common.{◌≡◌, ℕ, suc, ◌-◌, ◌<◌, ◌≤◌, List, length, get_or, drop, set, refl, ap, ◌∙◌, ⊎_elim, arith, length-set}
use Rattle.std.proofs.lemmas.List.{drop-set-lt, get_or-set_same, get_or-set_other}
use Rattle.std.proofs.lemmas.Bool.{cases_eq}
use Rattle.trust.specs.inner.Layers.{down}

-- the places from i to `count` are written, and `at` is the certificate below them
pub record Laying (from : List ℕ) (top count : ℕ) (old new : List ℕ) (at i : ℕ) : Type 0 where
  pub size : length new ≡ length old
  pub rest : drop count new ≡ drop count old
  pub here : at ≡ down from top (count - i)
  pub each : (j : ℕ) → i ≤ j → j < count → get_or new j 0 ≡ down from top (count - 1 - j)

pub begun : (from : List ℕ) (top count : ℕ) (old : List ℕ) → Laying from top count old old top count
unfolding down
begun from top count old = record { size = refl; rest = refl; here = refl ∙ ap (down from top) e; each = λ j l m. absurd (omega arith) }
  where
    e : 0 ≡ count - count
    e = omega arith

-- `at` is written at the place below, and `next` is the certificate it was reached from
pub laid : (from : List ℕ) (top count : ℕ) (old new : List ℕ) (at next i : ℕ) → Laying from top count old new at i → 0 < i → i ≤ count → count ≤ length old → next ≡ get_or from at 0 → Laying from top count old (set new (i - 1) at) next (i - 1)
unfolding down
laid from top count old new at next i h some l m e =
    record {
      size = length-set new (i - 1) at ∙ h.size;
      rest = drop-set-lt count new (i - 1) at (omega arith) ∙ h.rest;
      here = e ∙ ap (λ a. get_or from a 0) h.here ∙ ap (down from top) more;
      each = λ j u v. ⊎_elim
          (λ q. ap (λ k. get_or (set new (i - 1) at) k 0) q ∙ get_or-set_same new (i - 1) at 0 (omega (arith, h.size)) ∙ h.here ∙ ap (down from top) (same j q))
          (λ n. get_or-set_other new (i - 1) j at 0 n ∙ h.each j (omega arith) v)
          (cases_eq j (i - 1));
    }
  where
    more : suc (count - i) ≡ count - (i - 1)
    more = omega arith

    same : (j : ℕ) → j ≡ i - 1 → count - i ≡ count - 1 - j
    same j q = omega arith
