-- Open rows whose outermost has room for any element: what a header that has begun asks of the innermost.
use Rattle.std.proofs.Common.{◌≡◌, ℕ, suc, ◌+◌, ◌<◌, ◌≤◌, List, [], ◌∷◌, ◌++◌, length, drop, sym, subst, ⊎_elim, append-nil, arith}
use Rattle.std.proofs.lemmas.Bool.{cases_eq, eq-eqb, ne_eqb}
use Rattle.format.specs.Elements.{written_length}
use Rattle.format.proofs.Lengths.{Says, says}
use Rattle.format.proofs.Rests.{taken, Fills, room, deduct}
use Rattle.format.proofs.Fillings.{Enough, Kind, heading, closed, reopened, Fillable, filling_headed}
use Rattle.element.specs.Limits.{longest}
use Rattle.element.specs.Machine.{endless, full}

-- the outermost row has no end, and none of the others needs one byte
unfoldable pub Standing : List ℕ → Type 0
Standing [] = ⊥
Standing (r ∷ []) = r ≡ endless
Standing (r ∷ (s ∷ rs)) = (r ≡ 1 → ⊥) × Standing (s ∷ rs)

pub fillable : (rows : List ℕ) → Standing rows → Fillable rows
unfolding Standing Fillable
fillable [] h = h
fillable (r ∷ []) h = tt
fillable (r ∷ (s ∷ rs)) h = (h.0, fillable (s ∷ rs) h.1)

written_most : (n : ℕ) → length (written_length n) ≤ 3
written_most n = let s = says (written_length n) n [] (sym (append-nil (written_length n))) in omega arith

roomy : (rows : List ℕ) (n : ℕ) → Standing rows → n ≤ longest → Enough rows (taken n) → (taken n ≤ room rows) × (taken n + 1 ≡ room rows → ⊥)
unfolding Standing
roomy [] n h fits e = absurd e
roomy (r ∷ []) n h fits e = (omega (arith, written_most n), omega (arith, written_most n))
roomy (r ∷ (s ∷ rs)) n h fits e = e

pub enough : (rows : List ℕ) (k : ℕ) → Standing rows → k ≤ room rows → (k + 1 ≡ room rows → ⊥) → Enough rows k
unfolding Standing
enough [] k h l o = h
enough (r ∷ []) k h l o = tt
enough (r ∷ (s ∷ rs)) k h l o = (l, o)

-- what a tag and the bytes behind it ask, if they complete the rows
pub record Asks (d : ℕ) (rows : List ℕ) (t : ℕ) (b : List ℕ) : Type 0 where
  pub n : ℕ
  pub tail : List ℕ
  pub is : b ≡ written_length n ++ tail
  pub kind : Kind d t n
  pub fits : n ≤ longest
  pub enough : taken n ≤ room rows
  pub left : taken n + 1 ≡ room rows → ⊥
  pub says : Says b n

pub asks : (d : ℕ) (rows : List ℕ) (t : ℕ) (b : List ℕ) → Standing rows → 0 < room rows → Fills d longest rows (t ∷ b) → Asks d rows t b
asks d rows t b h some f =
    let g = heading d longest rows t b some f in
    let r = roomy rows g.n h g.fits g.enough in
    record { n = g.n; tail = g.tail; is = g.is; kind = g.kind; fits = g.fits; enough = r.0; left = r.1; says = says b g.n g.tail g.is }

-- a header that fits can be completed
pub completed : (d t n : ℕ) (rows : List ℕ) → Standing rows → n ≤ longest → taken n ≤ room rows → (taken n + 1 ≡ room rows → ⊥) → Kind d t n → (c : List ℕ) × Fills d longest rows (t ∷ (written_length n ++ c))
completed d t n rows h fits l o kind = filling_headed d longest t n rows (omega arith) fits l kind (enough rows (taken n) h l o) (fillable rows h)

pub standing_behind : (k : ℕ) (rows : List ℕ) → Standing rows → k ≤ room rows → (k + 1 ≡ room rows → ⊥) → Standing (deduct k rows)
unfolding Standing
standing_behind k [] h l o = h
standing_behind k (r ∷ []) h l o = h
standing_behind k (r ∷ (s ∷ rs)) h l o = (λ e. o (omega arith), h.1)

pub standing_within : (n : ℕ) (rows : List ℕ) → (n ≡ 1 → ⊥) → Standing rows → Standing (n ∷ rows)
unfolding Standing
standing_within n [] o h = absurd h
standing_within n (r ∷ rs) o h = (o, h)

-- the rows that need nothing more are closed
pub record Closed (d : ℕ) (rows : List ℕ) (k : ℕ) : Type 0 where
  pub few : k < length rows
  pub some : 2 ≤ room (drop k rows)
  pub standing : Standing (drop k rows)
  pub to : (c : List ℕ) → Fills d longest rows c → Fills (d + k) longest (drop k rows) c
  pub from : (c : List ℕ) → Fills (d + k) longest (drop k rows) c → Fills d longest rows c

closed_none : (d : ℕ) (rows : List ℕ) → 0 < length rows → Standing rows → 2 ≤ room rows → Closed d rows 0
closed_none d rows l h some =
    let e : d + 0 ≡ d = omega arith in
    record { few = l; some = some; standing = h; to = λ c f. subst (λ n. Fills n longest rows c) (sym e) f; from = λ c f. subst (λ n. Fills n longest rows c) e f }

closed_more : (d s : ℕ) (rs : List ℕ) (k r : ℕ) → r ≡ 0 → Closed (suc d) (s ∷ rs) k → Closed d (r ∷ (s ∷ rs)) (suc k)
closed_more d s rs k r z h =
    let e : suc d + k ≡ d + suc k = omega arith in
    record {
      few = omega (arith, h.few);
      some = h.some;
      standing = h.standing;
      to = λ c f. subst (λ n. Fills n longest (drop k (s ∷ rs)) c) e (h.to c (closed d longest s rs c (subst (λ x. Fills d longest (x ∷ (s ∷ rs)) c) z f)));
      from = λ c f. subst (λ x. Fills d longest (x ∷ (s ∷ rs)) c) (sym z) (reopened d longest s rs c (h.from c (subst (λ n. Fills n longest (drop k (s ∷ rs)) c) (sym e) f)));
    }

pub closing : (d : ℕ) (rows : List ℕ) → Standing rows → Closed d rows (full rows)
unfolding Standing
closing d [] h = absurd h
closing d (r ∷ []) h = closed_none d (r ∷ []) (omega arith) h (omega arith)
closing d (r ∷ (s ∷ rs)) h =
    let more = closing (suc d) (s ∷ rs) h.1 in
    ⊎_elim (λ z. rw (eq-eqb r 0 z) (closed_more d s rs (full (s ∷ rs)) r z more)) (λ n. rw (ne_eqb r 0 n) (closed_none d (r ∷ (s ∷ rs)) (omega arith) h (omega (arith, h.0)))) (cases_eq r 0)
