-- What a search by layers has found: a shortest chain, or that there is none.
use Rattle.std.proofs.Common.{◌≡◌, ℕ, zero, suc, ◌+◌, ◌-◌, ◌<◌, ◌≤◌, true, false, List, [], ◌∷◌, length, get_or, sym, refl, ap, ◌∙◌, subst, ⊎_elim, add-one, arith}
use Rattle.std.proofs.lemmas.Bool.{both_ways, cases_lt}
use Rattle.trust.specs.Chains.{Pool, holds, follows, Chain, Shortest}
use Rattle.trust.specs.inner.Layers.{Tree, Explored, Top, down}
use Rattle.trust.specs.Promise.{Links}
use Rattle.trust.proofs.Means.{linked}
use Rattle.trust.proofs.Ways.{Way, follow_parts, follow_from, held, whole}

-- a way that is shorter than the limit can't end at a trust anchor
never : (p : Pool) (day : ℕ) (far : List ℕ) (limit : ℕ) → Explored p day far limit → (m a : ℕ) (xs : List ℕ) → Way p day m a xs → 0 < get_or far a 0 → get_or far a 0 ≤ m + 1 → m + length xs + 1 < limit → ⊥
never p day far limit h m a [] w some early l = both_ways (p.anchor a) (h.clear a w.0.known some (omega arith)) w.1
never p day far limit h m a (b ∷ xs) w some early l =
    let j : ℕ = get_or far a 0 - 1 in
    let e : get_or far a 0 ≡ j + 1 = omega arith in
    let q : j ≤ m = omega arith in
    let u = held p day (m + 1) b xs w.2 in
    let r = h.closed j a b w.0.known u.known e (omega arith) (follow_from p day j m a b u.holding w.1 q) in
    never p day far limit h (m + 1) b xs w.2 r.0 (omega (arith, r.1)) (omega arith)

-- so a way is at least as long as the limit
longer : (p : Pool) (day first : ℕ) (far from : List ℕ) (limit : ℕ) → Tree p day first far from → Explored p day far limit → (xs : List ℕ) → Way p day 0 first xs → limit ≤ length xs + 1
longer p day first far from limit t h xs w = ⊎_elim (λ l. absurd (never p day far limit h 0 first xs w (omega (arith, t.start)) (omega (arith, t.start)) (omega arith))) (λ l. l) (cases_lt (length xs + 1) limit)

-- no chain, once all is explored
pub no_chain : (p : Pool) (day first : ℕ) (far from : List ℕ) → Tree p day first far from → ((limit : ℕ) → Explored p day far limit) → (xs : List ℕ) → Chain p day first xs → ⊥
no_chain p day first far from t h xs c = let w = whole p day first xs c in omega (arith, longer p day first far from (length w.above + 2) t (h (length w.above + 2)) w.above w.way)

-- a certificate that does not hold on the day begins no chain
pub not_held : (p : Pool) (day first : ℕ) → holds (p.certificate first) day ≡ false → (xs : List ℕ) → Chain p day first xs → ⊥
not_held p day first e xs c = let w = whole p day first xs c in both_ways _ e (held p day 0 first w.above w.way).holding

module _ (p : Pool) (day first : ℕ) (far from : List ℕ) (k a : ℕ) (t : Top p day first far from k a) where
  last : down from a 0 ≡ a
  unfolding down
  last = refl

  low : (j : ℕ) → down from a j < p.count
  unfolding down
  low zero = t.known
  low (suc j) = t.tree.below (down from a j)

  -- the layer of the certificate j layers below
  layer : (i j : ℕ) → i + j ≡ k → get_or far (down from a j) 0 ≡ i + 1
  unfolding down
  layer i zero e = t.layer ∙ omega arith
  layer i (suc j) e = (t.tree.parent i (down from a j) (low j) (layer (i + 1) j (omega arith) ∙ omega arith)).layer

  -- the certificate j layers below can follow the one below it
  above : (i j : ℕ) → i + suc j ≡ k → follows p day i (down from a (suc j)) (down from a j) ≡ true
  unfolding down
  above i j e = (t.tree.parent i (down from a j) (low j) (layer (i + 1) j (omega arith) ∙ omega arith)).follow

  -- the certificates down from a, laid out from the first up to a, are a shortest chain
  pub laid_out : (xs : List ℕ) → length xs ≡ k + 1 → ((i : ℕ) → i ≤ k → get_or xs i 0 ≡ down from a (k - i)) → Shortest p day first xs
  laid_out xs long each = record { chain = linked p day first xs links; least = least }
    where
      pair : (i : ℕ) → i + 1 < length xs → follows p day i (get_or xs i 0) (get_or xs (i + 1) 0) ≡ true
      pair i l =
          let e : k - i ≡ suc (k - (i + 1)) = omega arith in
          rw (each i (omega arith), each (i + 1) (omega arith), e) (above i (k - (i + 1)) (omega arith))

      begins : get_or xs 0 0 ≡ first
      begins = each 0 (omega arith) ∙ t.tree.only (down from a (k - 0)) (low (k - 0)) (layer 0 (k - 0) (omega arith))

      holding : (i : ℕ) → i < length xs → holds (p.certificate (get_or xs i 0)) day ≡ true
      holding zero l = subst (λ x. holds (p.certificate x) day ≡ true) (sym begins) t.tree.holding
      holding (suc i) l = subst (λ j. holds (p.certificate (get_or xs j 0)) day ≡ true) (add-one i) (follow_parts p day i (get_or xs i 0) (get_or xs (i + 1) 0) (pair i (omega arith))).0

      links : Links p day first xs
      links = record {
        some = omega arith;
        begins = begins;
        holding = holding;
        known = λ i l. subst (λ x. x < p.count) (sym (each i (omega arith))) (low (k - i));
        issued = λ i l. (follow_parts p day i (get_or xs i 0) (get_or xs (i + 1) 0) (pair i l)).1.issued;
        allowed = λ i l. (follow_parts p day i (get_or xs i 0) (get_or xs (i + 1) 0) (pair i l)).1.allowed;
        anchored = λ i e. subst (λ x. p.anchor x ≡ true) (sym (each i (omega arith) ∙ ap (down from a) (omega arith) ∙ last)) t.anchored;
      }

      least : (ys : List ℕ) → Chain p day first ys → length xs ≤ length ys
      least ys c = let w = whole p day first ys c in omega (arith, ap length w.split, longer p day first far from (k + 1) t.tree t.explored w.above w.way)
