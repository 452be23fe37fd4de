-- A chain as a certificate and those above it, step by step.
use Rattle.std.proofs.Common.{◌≡◌, ℕ, zero, suc, ◌+◌, ◌<◌, ◌≤◌, true, ◌&&◌, leb, List, [], ◌∷◌, length, get_or, sym, refl, ap, subst, arith}
use Rattle.std.proofs.lemmas.Bool.{false≢true, and_parts, and_from, leb-true, le-leb}
use Rattle.trust.specs.Chains.{Pool, holds, issues, follows, climbs, Chain}

-- a certificate of the pool that holds on the day
pub record Held (p : Pool) (day a : ℕ) : Type 0 where
  pub known : a < p.count
  pub holding : holds (p.certificate a) day ≡ true

-- b issues a and allows k certificates between itself and the first
pub record Step (p : Pool) (k a b : ℕ) : Type 0 where
  pub issued : issues p b a ≡ true
  pub allowed : k ≤ (p.certificate b).path_len

-- from a, below which k certificates stand, up over xs to a trust anchor
abbrev pub Way : Pool → (day k a : ℕ) → List ℕ → Type 0
Way p day k a [] = Held p day a × (p.anchor a ≡ true)
Way p day k a (b ∷ xs) = Held p day a × Step p k a b × Way p day (k + 1) b xs

-- a certificate that can follow holds on the day, and is a step up
pub follow_parts : (p : Pool) (day k a b : ℕ) → follows p day k a b ≡ true → (holds (p.certificate b) day ≡ true) × Step p k a b
unfolding follows
follow_parts p day k a b f =
    let i = and_parts (issues p b a) (leb k (p.certificate b).path_len && holds (p.certificate b) day) f in
    let r = and_parts (leb k (p.certificate b).path_len) (holds (p.certificate b) day) i.1 in
    (r.1, record { issued = i.0; allowed = leb-true _ _ r.0 })

pub follow_from : (p : Pool) (day j k a b : ℕ) → holds (p.certificate b) day ≡ true → Step p k a b → j ≤ k → follows p day j a b ≡ true
unfolding follows
follow_from p day j k a b v s l = and_from _ _ s.issued (and_from _ _ (le-leb j (p.certificate b).path_len (omega (arith, s.allowed))) v)

-- a row of the pool's certificates that climbs from one that holds is a way
pub way_from : (p : Pool) (day k a : ℕ) (xs : List ℕ) → holds (p.certificate a) day ≡ true → climbs p day k (a ∷ xs) ≡ true → ((i : ℕ) → i < length (a ∷ xs) → get_or (a ∷ xs) i 0 < p.count) → Way p day k a xs
unfolding climbs
way_from p day k a [] v c known = (record { known = known 0 (omega arith); holding = v }, c)
way_from p day k a (b ∷ xs) v c known =
    let h = and_parts (follows p day k a b) _ c in
    let f = follow_parts p day k a b h.0 in
    (record { known = known 0 (omega arith); holding = v }, f.1, way_from p day (k + 1) b xs f.0 h.1 (λ j l. known (suc j) (omega arith)))

pub held : (p : Pool) (day k a : ℕ) (xs : List ℕ) → Way p day k a xs → Held p day a
held p day k a [] w = w.0
held p day k a (b ∷ xs) w = w.0

pub climbs_from : (p : Pool) (day k a : ℕ) (xs : List ℕ) → Way p day k a xs → climbs p day k (a ∷ xs) ≡ true
unfolding climbs
climbs_from p day k a [] w = w.1
climbs_from p day k a (b ∷ xs) w = and_from _ _ (follow_from p day k k a b (held p day (k + 1) b xs w.2).holding w.1 (omega arith)) (climbs_from p day (k + 1) b xs w.2)

pub known_from : (p : Pool) (day k a : ℕ) (xs : List ℕ) → Way p day k a xs → (i : ℕ) → i < length (a ∷ xs) → get_or (a ∷ xs) i 0 < p.count
known_from p day k a xs w zero l = (held p day k a xs w).known
known_from p day k a [] w (suc i) l = absurd (omega arith)
known_from p day k a (b ∷ xs) w (suc i) l = known_from p day (k + 1) b xs w.2 i (omega arith)

-- a chain is its first certificate with a way up from it
pub record Whole (p : Pool) (day first : ℕ) (xs : List ℕ) : Type 0 where
  pub above : List ℕ
  pub split : xs ≡ first ∷ above
  pub way : Way p day 0 first above

pub whole : (p : Pool) (day first : ℕ) (xs : List ℕ) → Chain p day first xs → Whole p day first xs
unfolding climbs
whole p day first [] c = absurd (false≢true c.climb)
whole p day first (a ∷ xs) c = record { above = xs; split = ap (λ x. x ∷ xs) c.begins; way = subst (λ x. Way p day 0 x xs) c.begins (way_from p day 0 a xs (subst (λ x. holds (p.certificate x) day ≡ true) (sym c.begins) c.holding) c.climb c.known) }

pub chain : (p : Pool) (day first : ℕ) (xs : List ℕ) → Way p day 0 first xs → Chain p day first (first ∷ xs)
chain p day first xs w = record { begins = refl; known = known_from p day 0 first xs w; holding = (held p day 0 first xs w).holding; climb = climbs_from p day 0 first xs w }

-- closer to the first certificate, path_len allows no less
pub nearer : (p : Pool) (day j k a : ℕ) (xs : List ℕ) → j ≤ k → Way p day k a xs → Way p day j a xs
nearer p day j k a [] l w = w
nearer p day j k a (b ∷ xs) l w = (w.0, record { issued = w.1.issued; allowed = omega arith }, nearer p day (j + 1) (k + 1) b xs (omega arith) w.2)

-- a way from a that is shorter than n
pub record Shorter (p : Pool) (day k a n : ℕ) : Type 0 where
  pub above : List ℕ
  pub way : Way p day k a above
  pub less : length above < n

-- the way can begin at the certificate j places up
pub later : (p : Pool) (day k a : ℕ) (xs : List ℕ) → Way p day k a xs → (j : ℕ) → j < length xs → Shorter p day k (get_or xs j 0) (length xs)
later p day k a [] w j l = absurd (omega arith)
later p day k a (b ∷ xs) w zero l = record { above = xs; way = nearer p day k (k + 1) b xs (omega arith) w.2; less = omega arith }
later p day k a (b ∷ xs) w (suc j) l =
    let s = later p day (k + 1) b xs w.2 j (omega arith) in
    record { above = s.above; way = nearer p day k (k + 1) (get_or xs j 0) s.above (omega arith) s.way; less = omega arith }

-- a way with the same certificate at two places can be cut
pub cut : (p : Pool) (day k a : ℕ) (xs : List ℕ) → Way p day k a xs → (i j : ℕ) → i < j → j < length (a ∷ xs) → get_or (a ∷ xs) i 0 ≡ get_or (a ∷ xs) j 0 → Shorter p day k a (length xs)
cut p day k a xs w i zero before within same = absurd (omega arith)
cut p day k a xs w zero (suc j) before within same = subst (λ x. Shorter p day k x (length xs)) (sym same) (later p day k a xs w j (omega arith))
cut p day k a [] w (suc i) (suc j) before within same = absurd (omega arith)
cut p day k a (b ∷ xs) w (suc i) (suc j) before within same =
    let s = cut p day (k + 1) b xs w.2 i j (omega arith) (omega arith) same in
    record { above = b ∷ s.above; way = (w.0, w.1, s.way); less = omega arith }
