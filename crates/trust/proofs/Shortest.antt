-- A shortest chain or none, with no repeats and no longer than there are certificates.
use Rattle.std.proofs.Common.{◌≡◌, ℕ, zero, suc, ◌+◌, ◌-◌, ◌<◌, ◌≤◌, Bool, true, false, List, [], ◌∷◌, length, get_or, sym, refl, ap, subst, inl, inr, ⊎_elim, arith}
use native.Mathlib.Decide.{dec_le, dec_lt}
use Rattle.std.proofs.lemmas.Bool.{cases_order, cases_lt, false≢true}
use Rattle.trust.specs.Chains.{Pool, holds, issues, Shortest}
use Rattle.trust.specs.Promise.{ChainOrNone, NoRepeats, NoLonger}
use Rattle.trust.proofs.Numbers.{some_below, Least, least_below, twice}
use Rattle.trust.proofs.Ways.{Held, Step, Way, held, whole, chain, known_from, Shorter, cut}

true? : (b : Bool) → Dec (b ≡ true)
true? true = yes refl
true? false = no false≢true

both? : {A B : Type 0} → Dec A → Dec B → Dec (A × B)
both? (yes a) (yes b) = yes (a, b)
both? (yes a) (no b) = no (λ h. b h.1)
both? (no a) d = no (λ h. a h.0)

via : {A B : Type 0} → (A → B) → (B → A) → Dec A → Dec B
via f g (yes a) = yes (f a)
via f g (no a) = no (λ b. a (g b))

-- a way over exactly n certificates above a
pub record Ways (p : Pool) (day k a n : ℕ) : Type 0 where
  pub above : List ℕ
  pub way : Way p day k a above
  pub long : length above ≡ n

held? : (p : Pool) (day a : ℕ) → Dec (Held p day a)
held? p day a = via (λ h. record { known = h.0; holding = h.1 }) (λ h. (h.known, h.holding)) (both? (dec_lt a p.count) (true? (holds (p.certificate a) day)))

step? : (p : Pool) (k a b : ℕ) → Dec (Step p k a b)
step? p k a b = via (λ h. record { issued = h.0; allowed = h.1 }) (λ h. (h.issued, h.allowed)) (both? (true? (issues p b a)) (dec_le k (p.certificate b).path_len))

top : {p : Pool} {day k a : ℕ} → Ways p day k a 0 → Held p day a × (p.anchor a ≡ true)
top {p} {day} {k} {a} w = go w.above w.way w.long
  where
    go : (xs : List ℕ) → Way p day k a xs → length xs ≡ 0 → Held p day a × (p.anchor a ≡ true)
    go [] v e = v
    go (b ∷ xs) v e = absurd (omega arith)

-- a step to b and a way from there
abbrev NextWay : Pool → (day k a n b : ℕ) → Type 0
NextWay p day k a n b = Step p k a b × Ways p day (k + 1) b n

up : {p : Pool} {day k a n : ℕ} → Ways p day k a (suc n) → Held p day a × ((b : ℕ) × (b < p.count) × NextWay p day k a n b)
up {p} {day} {k} {a} {n} w = go w.above w.way w.long
  where
    go : (xs : List ℕ) → Way p day k a xs → length xs ≡ suc n → Held p day a × ((b : ℕ) × (b < p.count) × NextWay p day k a n b)
    go [] v e = absurd (omega arith)
    go (b ∷ xs) v e = (v.0, (b, (held p day (k + 1) b xs v.2).known, (v.1, record { above = xs; way = v.2; long = omega arith })))

-- decided: is there a way over exactly n certificates
pub ways? : (p : Pool) (day k a n : ℕ) → Dec (Ways p day k a n)
ways? p day k a zero = via (λ h. record { above = []; way = h; long = refl }) top (both? (held? p day a) (true? (p.anchor a)))
ways? p day k a (suc n) =
    via (λ h. record { above = h.1.0 ∷ h.1.2.1.above; way = (h.0, h.1.2.0, h.1.2.1.way); long = ap suc h.1.2.1.long }) up
    (both? (held? p day a) (some_below (NextWay p day k a n) (λ b. both? (step? p k a b) (ways? p day (k + 1) b n)) p.count))

-- a way over as many certificates as there are can be cut
over : (p : Pool) (day k a : ℕ) (xs : List ℕ) → Way p day k a xs → p.count ≤ length xs → Shorter p day k a (length xs)
over p day k a xs w l =
    let t = twice p.count (length (a ∷ xs)) (λ i. get_or (a ∷ xs) i 0) (known_from p day k a xs w) (omega arith) in
    cut p day k a xs w t.i t.j t.before t.within t.same

-- so some way is over fewer
pub within : (p : Pool) (day k a fuel : ℕ) (xs : List ℕ) → Way p day k a xs → length xs < fuel → Shorter p day k a p.count
within p day k a zero xs w l = absurd (omega arith)
within p day k a (suc fuel) xs w l =
    ⊎_elim
    (λ h. record { above = xs; way = w; less = h })
    (λ h. let s = over p day k a xs w h in within p day k a fuel s.above s.way (omega (arith, s.less)))
    (cases_lt (length xs) p.count)

-- a least way makes a shortest chain
shortest : (p : Pool) (day first n : ℕ) → Least (Ways p day 0 first) n → (xs : List ℕ) × Shortest p day first xs
shortest p day first n l = (
  first ∷ l.has.above,
  record {
    chain = chain p day first l.has.above l.has.way;
    least = λ ys c.
        let w = whole p day first ys c in
        let m = l.none (length w.above) (record { above = w.above; way = w.way; long = refl }) in
        omega (arith, l.has.long, ap length w.split);
  },
)

pub chain_or_none : ChainOrNone
chain_or_none p day first =
    ⊎_elim
    (λ f. inl (shortest p day first f.0 f.1))
    (λ f. inr (λ xs c.
    let w = whole p day first xs c in
    let s = within p day 0 first (suc (length w.above)) w.above w.way (omega arith) in
    f (length s.above) s.less (record { above = s.above; way = s.way; long = refl })))
    (least_below (Ways p day 0 first) (ways? p day 0 first) p.count)

-- nothing is shorter than a shortest chain
uncut : (p : Pool) (day first : ℕ) (xs : List ℕ) → Shortest p day first xs → Shorter p day 0 first (length xs - 1) → ⊥
uncut p day first xs s h = omega (arith, s.least (first ∷ h.above) (chain p day first h.above h.way), h.less)

pub no_repeats : NoRepeats
no_repeats p day first xs i j s li lj e =
    ⊎_elim (λ q. q) (⊎_elim (λ l. absurd (once i j l lj e)) (λ l. absurd (once j i l li (sym e)))) (cases_order i j)
  where
    once : (i j : ℕ) → i < j → j < length xs → get_or xs i 0 ≡ get_or xs j 0 → ⊥
    once i j l lj e =
        let w = whole p day first xs s.chain in
        let q : length w.above ≡ length xs - 1 = omega (arith, ap length w.split) in
        uncut p day first xs s (subst (Shorter p day 0 first) q (cut p day 0 first w.above w.way i j l (subst (λ ys. j < length ys) w.split lj) (subst (λ ys. get_or ys i 0 ≡ get_or ys j 0) w.split e)))

pub no_longer : NoLonger
no_longer p day first xs s =
    let w = whole p day first xs s.chain in
    let h = within p day 0 first (suc (length w.above)) w.above w.way (omega arith) in
    omega (arith, s.least (first ∷ h.above) (chain p day first h.above h.way), h.less)
