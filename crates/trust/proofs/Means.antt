-- A chain place by place, and in a pool that has more.
use Rattle.std.proofs.Common.{◌≡◌, ℕ, zero, suc, ◌+◌, ◌<◌, true, ◌&&◌, eqb, List, [], ◌∷◌, length, get_or, sym, refl, subst, add-one, arith}
use Rattle.std.proofs.lemmas.Bool.{and_parts, and_from}
use Rattle.trust.specs.Chains.{Pool, holds, issues, Chain, Extends}
use Rattle.trust.specs.Promise.{Links, MoreKeeps, ChainMeans}
use Rattle.trust.proofs.Ways.{Held, Step, Way, held, Whole, whole, chain}

-- the places of a way: the certificate at i holds, and the next one is a step up
pub record WayPlaces (p : Pool) (day k : ℕ) (xs : List ℕ) : Type 0 where
  pub each : (i : ℕ) → i < length xs → Held p day (get_or xs i 0)
  pub next : (i : ℕ) → suc i < length xs → Step p (k + i) (get_or xs i 0) (get_or xs (suc i) 0)
  pub last : (i : ℕ) → suc i ≡ length xs → p.anchor (get_or xs i 0) ≡ true

pub places : (p : Pool) (day k a : ℕ) (xs : List ℕ) → Way p day k a xs → WayPlaces p day k (a ∷ xs)
places p day k a [] w = record { each = each; next = λ i l. absurd (omega arith); last = last }
  where
    each : (i : ℕ) → i < length (a ∷ []) → Held p day (get_or (a ∷ []) i 0)
    each zero l = w.0
    each (suc i) l = absurd (omega arith)

    last : (i : ℕ) → suc i ≡ length (a ∷ []) → p.anchor (get_or (a ∷ []) i 0) ≡ true
    last zero e = w.1
    last (suc i) e = absurd (omega arith)
places p day k a (b ∷ xs) w = go (places p day (k + 1) b xs w.2)
  where
    go : WayPlaces p day (k + 1) (b ∷ xs) → WayPlaces p day k (a ∷ b ∷ xs)
    go r = record { each = each; next = next; last = last }
      where
        each : (i : ℕ) → i < length (a ∷ b ∷ xs) → Held p day (get_or (a ∷ b ∷ xs) i 0)
        each zero l = w.0
        each (suc i) l = r.each i (omega arith)

        next : (i : ℕ) → suc i < length (a ∷ b ∷ xs) → Step p (k + i) (get_or (a ∷ b ∷ xs) i 0) (get_or (a ∷ b ∷ xs) (suc i) 0)
        next zero l = record { issued = w.1.issued; allowed = omega arith }
        next (suc i) l = record { issued = (r.next i (omega arith)).issued; allowed = omega (arith, (r.next i (omega arith)).allowed) }

        last : (i : ℕ) → suc i ≡ length (a ∷ b ∷ xs) → p.anchor (get_or (a ∷ b ∷ xs) i 0) ≡ true
        last zero e = absurd (omega arith)
        last (suc i) e = r.last i (omega arith)

pub way : (p : Pool) (day k a : ℕ) (xs : List ℕ) → WayPlaces p day k (a ∷ xs) → Way p day k a xs
way p day k a [] r = (r.each 0 (omega arith), r.last 0 refl)
way p day k a (b ∷ xs) r = (
  r.each 0 (omega arith),
  record { issued = (r.next 0 (omega arith)).issued; allowed = omega (arith, (r.next 0 (omega arith)).allowed) },
  way p day (k + 1) b xs (record {
    each = λ i l. r.each (suc i) (omega arith);
    next = λ i l. record { issued = (r.next (suc i) (omega arith)).issued; allowed = omega (arith, (r.next (suc i) (omega arith)).allowed) };
    last = λ i e. r.last (suc i) (omega arith);
  }),
)

pub links : (p : Pool) (day first : ℕ) (xs : List ℕ) → Chain p day first xs → Links p day first xs
links p day first xs c = subst (Links p day first) (sym w.split) (record {
  some = omega arith;
  begins = refl;
  known = λ i l. (r.each i l).known;
  holding = λ i l. (r.each i l).holding;
  issued = λ i l. rw add-one (r.next i (omega arith)).issued;
  allowed = λ i l. rw add-one (omega (arith, (r.next i (omega arith)).allowed));
  anchored = λ i e. r.last i (omega arith);
})
  where
    w : Whole p day first xs
    w = whole p day first xs c

    r : WayPlaces p day 0 (first ∷ w.above)
    r = places p day 0 first w.above w.way

pub linked : (p : Pool) (day first : ℕ) (xs : List ℕ) → Links p day first xs → Chain p day first xs
linked p day first [] l = absurd (omega (arith, l.some))
linked p day first (a ∷ xs) l =
    subst (λ x. Chain p day x (a ∷ xs)) l.begins (chain p day a xs (way p day 0 a xs (record {
      each = λ i h. record { known = l.known i h; holding = l.holding i h };
      next = λ i h. record { issued = rw add-one at (l.issued i (omega arith)); allowed = omega (arith, rw add-one at (l.allowed i (omega arith))) };
      last = λ i e. l.anchored i (omega arith);
    })))

pub chain_means : ChainMeans
chain_means p day first xs = (links p day first xs, linked p day first xs)

stays : (p q : Pool) → Extends p q → (day a : ℕ) → Held p day a → Held q day a
stays p q e day a h = record { known = omega (arith, h.known, e.counts); holding = subst (λ x. holds x day ≡ true) (sym (e.same a h.known)) h.holding }

signs : (p q : Pool) → Extends p q → (a b : ℕ) → a < p.count → b < p.count → issues p b a ≡ true → issues q b a ≡ true
unfolding issues
signs p q e a b la lb h =
    let m = and_parts (p.certificate b).may_issue (eqb (p.certificate b).subject (p.certificate a).issuer && p.signed b a) h in
    let n = and_parts (eqb (p.certificate b).subject (p.certificate a).issuer) (p.signed b a) m.1 in
    rw (e.same a la, e.same b lb) (and_from _ _ m.0 (and_from _ _ n.0 (e.signatures b a lb la n.1)))

-- a way of a pool is a way of each pool that extends it
kept : (p q : Pool) → Extends p q → (day k a : ℕ) (xs : List ℕ) → Way p day k a xs → Way q day k a xs
kept p q e day k a [] w = (stays p q e day a w.0, e.anchors a w.0.known w.1)
kept p q e day k a (b ∷ xs) w =
    let u = held p day (k + 1) b xs w.2 in
    (stays p q e day a w.0, record { issued = signs p q e a b w.0.known u.known w.1.issued; allowed = rw (e.same b u.known) w.1.allowed }, kept p q e day (k + 1) b xs w.2)

pub more_keeps : MoreKeeps
more_keeps p q day first xs e c = let w = whole p day first xs c in subst (Chain q day first) (sym w.split) (chain q day first w.above (kept p q e day 0 first w.above w.way))
