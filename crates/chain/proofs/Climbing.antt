-- How a row climbs, one certificate at a time.
use Rattle.std.proofs.Common.{◌≡◌, ℕ, ◌+◌, ◌-◌, ◌<◌, ◌≤◌, Bool, true, false, ◌&&◌, ltb, eqb, List, [], ◌∷◌, length, get_or, take, drop, MatchBool, sym, ap, ◌∙◌, arith, below_more}
use Rattle.std.proofs.lemmas.List.{drop_more, drop_all, get_or-take}
use Rattle.std.proofs.lemmas.Bool.{and_parts, both_ways, false≢true, ltb-true}
use Rattle.std.proofs.lemmas.Grind.{get_or_after_one}
use Rattle.trust.specs.Chains.{Pool, Chain, holds, issues, follows, climbs}
use Rattle.chain.specs.Inputs.{Input, pool}

-- the row is climbed up to place k, where `at` stands; the rest decides
pub record Climbed (p : Pool) (day : ℕ) (xs : List ℕ) (k at : ℕ) : Type 0 where
  pub there : k < length xs
  pub here : get_or xs k 0 ≡ at
  pub known : (i : ℕ) → i < k + 1 → get_or xs i 0 < p.count
  pub rest : climbs p day 0 xs ≡ climbs p day k (drop k xs)

-- in the pool of an input, a certificate that issues another is there
issuer_known : (i : Input) (a b : ℕ) → issues (pool i) a b ≡ true → a < i.count
unfolding issues
issuer_known i a b h =
    let m = and_parts ((pool i).certificate a).may_issue (eqb ((pool i).certificate a).subject ((pool i).certificate b).issuer && (pool i).signed a b) h in
    let s = and_parts (eqb ((pool i).certificate a).subject ((pool i).certificate b).issuer) ((pool i).signed a b) m.1 in
    ltb-true _ _ (and_parts (ltb a i.count) _ s.1).0

pub following_known : (i : Input) (day k a b : ℕ) → follows (pool i) day k a b ≡ true → b < i.count
unfolding follows
following_known i day k a b h = issuer_known i b a (and_parts (issues (pool i) b a) _ h).0

-- where a slice pattern finds the elements after the first
pub behind : (xs : List ℕ) (k : ℕ) → k + 1 < length xs → get_or (take (length xs - 1) (drop 1 xs)) k 0 ≡ get_or xs (k + 1) 0
behind xs k l = get_or-take (length xs - 1) (drop 1 xs) k 0 (omega arith) ∙ get_or_after_one xs k 0 ∙ ap (λ n. get_or xs n 0) (omega arith)

climbs_some : (p : Pool) (day k : ℕ) (xs : List ℕ) → climbs p day k xs ≡ true → 0 < length xs
unfolding climbs
climbs_some p day k [] h = absurd (false≢true h)
climbs_some p day k (x ∷ xs) h = omega arith

module _ (p : Pool) (day : ℕ) (xs : List ℕ) where
  -- a chain has a first certificate, which is there
  pub starts : (first : ℕ) → Chain p day first xs → (0 < length xs) × (first < p.count)
  starts first h =
      let some : 0 < length xs = climbs_some p day 0 xs h.climb in
      (some, omega (arith, h.begins, h.known 0 some))

  climbs_more : (k : ℕ) → k + 1 < length xs → climbs p day k (drop k xs) ≡ (follows p day k (get_or xs k 0) (get_or xs (k + 1) 0) && climbs p day (k + 1) (drop (k + 1) xs))
  unfolding climbs
  climbs_more k l =
      let a = get_or xs k 0 in
      let here : k < length xs = omega arith in
      let two = drop_more xs (k + 1) 0 l in
      ap (climbs p day k) (drop_more xs k 0 here ∙ ap (λ ys. a ∷ ys) two) ∙ ap (λ ys. follows p day k a (get_or xs (k + 1) 0) && climbs p day (k + 1) ys) (sym two)

  climbs_last : (k : ℕ) → k + 1 ≡ length xs → climbs p day k (drop k xs) ≡ p.anchor (get_or xs k 0)
  unfolding climbs
  climbs_last k e =
      let here : k < length xs = omega arith in
      let none : length xs ≤ k + 1 = omega arith in
      ap (climbs p day k) (drop_more xs k 0 here ∙ ap (λ ys. get_or xs k 0 ∷ ys) (drop_all (k + 1) xs none))

  -- whether the next certificate follows, by its number in the row
  next_follows : (k at next : ℕ) → Climbed p day xs k at → next ≡ get_or xs (k + 1) 0 → follows p day k (get_or xs k 0) (get_or xs (k + 1) 0) ≡ follows p day k at next
  next_follows k at next c n = ap (λ a. follows p day k a (get_or xs (k + 1) 0)) c.here ∙ ap (follows p day k at) (sym n)

  -- a row in which the next certificate does not follow is no chain
  pub no_step : (first k at next : ℕ) → Climbed p day xs k at → k + 1 < length xs → next ≡ get_or xs (k + 1) 0 → follows p day k at next ≡ false → Chain p day first xs → ⊥
  no_step first k at next c l n e h =
      both_ways _ (next_follows k at next c n ∙ e) (and_parts (follows p day k (get_or xs k 0) (get_or xs (k + 1) 0)) _ (sym (climbs_more k l) ∙ sym c.rest ∙ h.climb)).0

  -- the next certificate follows
  pub one_more : (k at next : ℕ) → Climbed p day xs k at → k + 1 < length xs → next ≡ get_or xs (k + 1) 0 → follows p day k at next ≡ true → next < p.count → Climbed p day xs (k + 1) next
  one_more k at next c l n e known = record {
    there = l;
    here = sym n;
    known = below_more _ (k + 1) c.known (omega arith);
    rest = c.rest ∙ climbs_more k l ∙ ap (λ t. t && climbs p day (k + 1) (drop (k + 1) xs)) (next_follows k at next c n ∙ e);
  }

  is_last : (k at : ℕ) → Climbed p day xs k at → k + 1 ≡ length xs → climbs p day 0 xs ≡ p.anchor at
  is_last k at c l = c.rest ∙ climbs_last k l ∙ ap p.anchor c.here

  -- at its last certificate the row is a chain exactly if that one is a trust anchor
  pub at_last : (first k at : ℕ) (r : Bool) → get_or xs 0 0 ≡ first → holds (p.certificate first) day ≡ true → Climbed p day xs k at → k + 1 ≡ length xs → r ≡ p.anchor at → MatchBool r (Chain p day first xs) (Chain p day first xs → ⊥)
  at_last first k at true b v c l e = record { begins = b; known = λ i h. c.known i (omega arith); holding = v; climb = is_last k at c l ∙ sym e }
  at_last first k at false b v c l e = λ h. both_ways _ (is_last k at c l ∙ sym e) h.climb
