-- What one turn of a search by layers keeps.
use Rattle.std.proofs.Common.{◌≡◌, ℕ, ◌+◌, ◌<◌, ◌≤◌, true, false, ◌⊎◌, List, length, get_or, set, sym, ap, ◌∙◌, subst, inl, inr, ⊎_elim, arith, length-set}
use Rattle.std.proofs.lemmas.List.{get_or-set_same, get_or-set_other}
use Rattle.std.proofs.lemmas.Bool.{both_ways, cases_eq, cases_lt}
use Rattle.trust.specs.Chains.{Pool, holds, follows}
use Rattle.trust.specs.inner.Layers.{Before, Parent, Tree, Order, Turns, Layers, Explored}
use Rattle.trust.proofs.Numbers.{fewer}

-- what stands at a once v was written at i
abbrev SetAt : (xs : List ℕ) (i v a : ℕ) → Type 0
SetAt xs i v a = ((a ≡ i) × (get_or (set xs i v) a 0 ≡ v)) ⊎ ((a ≡ i → ⊥) × (get_or (set xs i v) a 0 ≡ get_or xs a 0))

set_at : (xs : List ℕ) (i v a : ℕ) → i < length xs → SetAt xs i v a
set_at xs i v a l =
    ⊎_elim
    (λ e. inl (e, ap (λ j. get_or (set xs i v) j 0) e ∙ get_or-set_same xs i v 0 l))
    (λ n. inr (n, get_or-set_other xs i a v 0 n))
    (cases_eq a i)

-- at the start only the certificate asked about is reached
module _ (p : Pool) (day first : ℕ) (far from order : List ℕ) (known : first < p.count) (long : p.count ≤ length far) (order_long : p.count ≤ length order) where
  at_first : (a : ℕ) → SetAt far first 1 a
  at_first a = set_at far first 1 a (omega arith)

  head : (j : ℕ) → j < 1 → get_or (set order 0 first) j 0 ≡ first
  head j l = let e : j ≡ 0 = omega arith in ap (λ i. get_or (set order 0 first) i 0) e ∙ get_or-set_same order 0 first 0 (omega arith)

  head_layer : (j : ℕ) → j < 1 → get_or (set far first 1) (get_or (set order 0 first) j 0) 0 ≡ 1
  head_layer j l = ap (λ a. get_or (set far first 1) a 0) (head j l) ∙ get_or-set_same far first 1 0 (omega arith)

  pub begun : holds (p.certificate first) day ≡ true → p.count ≤ length from → ((a : ℕ) → get_or far a 0 ≡ 0) → ((a : ℕ) → get_or from a 0 ≡ 0) → Layers p day first (set far first 1) from (set order 0 first) 1 0 0
  begun holding from_long none zeros = record {
    tree = record {
      known = known;
      holding = holding;
      long = omega (arith, length-set far first 1);
      from_long = from_long;
      below = λ a. omega (arith, zeros a);
      start = get_or-set_same far first 1 0 (omega arith);
      only = λ a l e. ⊎_elim (λ w. w.0) (λ w. absurd (omega (arith, none a, w.1))) (at_first a);
      parent = λ m b l e. absurd (⊎_elim (λ w. omega (arith, w.1)) (λ w. omega (arith, none b, w.1)) (at_first b));
    };
    queue = record {
      long = omega (arith, length-set order 0 first);
      few = omega arith;
      listed = λ j l. omega (arith, head j l);
      reached = λ j l. omega (arith, head_layer j l);
      low = λ j l. omega (arith, head_layer j l);
      rising = λ i j l m. omega (arith, head_layer i (omega arith), head_layer j m);
      once = λ i j l m e. omega arith;
      queued = λ a l s. ⊎_elim
          (λ w. record { place = 0; within = omega arith; here = head 0 (omega arith) ∙ sym w.0 })
          (λ w. absurd (omega (arith, none a, w.1)))
          (at_first a);
    };
    turns = record {
      near = λ j l m. omega (arith, head_layer j l);
      past = λ m j b l lb e o f. absurd (omega arith);
      cleared = λ j l. absurd (omega arith);
    };
  }

module _ (p : Pool) (far order : List ℕ) (size : ℕ) (h : Order p far order size) where
  fresh : (y : ℕ) → get_or far y 0 ≡ 0 → (j : ℕ) → j < size → get_or order j 0 ≡ y → ⊥
  fresh y z j l e = omega (arith, h.reached j l, ap (λ a. get_or far a 0) e)

  -- while one is unreached, the queue has room for one more
  pub fits : (y : ℕ) → y < p.count → get_or far y 0 ≡ 0 → size < p.count
  fits y l z = fewer size p.count (λ j. get_or order j 0) y h.listed l h.once (fresh y z)

  -- once as many are reached as there are, each one is
  all_reached : p.count ≤ size → (b : ℕ) → b < p.count → 0 < get_or far b 0
  all_reached full b l = ⊎_elim (λ z. absurd (omega (arith, fits b l z))) (λ z. omega arith) (cases_eq (get_or far b 0) 0)

  -- a certificate reached is at most one layer above the next one in the queue
  close : {day over y : ℕ} → Turns p day far order size over y → over < size → (b : ℕ) → b < p.count → 0 < get_or far b 0 → get_or far b 0 ≤ get_or far (get_or order over 0) 0 + 1
  close t has b l s = let q = h.queued b l s in omega (arith, t.near q.place q.within has, ap (λ a. get_or far a 0) q.here)

-- the turn of y above x, which stands at place `over` of the queue and in layer k
module _ (p : Pool) (day first : ℕ) (far from order : List ℕ) (size over k x y : ℕ) (h : Layers p day first far from order size over y) (has : over < size) (here : get_or order over 0 ≡ x) (ex : get_or far x 0 ≡ k + 1) (ly : y < p.count) where
  layer : get_or far (get_or order over 0) 0 ≡ k + 1
  layer = ap (λ a. get_or far a 0) here ∙ ex

  pub at_hand : x < p.count
  at_hand = omega (arith, here, h.queue.listed over has)

  -- a layer is below the number of certificates reached
  pub lower : k < size
  lower = omega (arith, layer, h.queue.low over has)

  -- y is reached
  module _ (ey : get_or far y 0 ≡ 0) (f : true ≡ follows p day k x y) where
    at : (a : ℕ) → SetAt far y (k + 2) a
    at a = set_at far y (k + 2) a (omega (arith, h.tree.long))

    under : (a : ℕ) → SetAt from y x a
    under a = set_at from y x a (omega (arith, h.tree.from_long))

    -- certificates reached before keep their layers
    stays : (a m : ℕ) → get_or far a 0 ≡ m + 1 → get_or (set far y (k + 2)) a 0 ≡ m + 1
    stays a m e = ⊎_elim (λ w. absurd (omega (arith, ap (λ j. get_or far j 0) w.0))) (λ w. w.1 ∙ e) (at a)

    new : (m b : ℕ) → (b ≡ y) × (get_or (set far y (k + 2)) b 0 ≡ k + 2) → get_or (set far y (k + 2)) b 0 ≡ m + 2 → Parent p day (set far y (k + 2)) (set from y x) m b
    new m b w e =
        let q : k ≡ m = omega (arith, w.1) in
        let u : x ≡ get_or (set from y x) b 0 = ⊎_elim (λ v. sym v.1) (λ v. absurd (v.0 w.0)) (under b) in
        record {
          layer = subst (λ j. get_or (set far y (k + 2)) j 0 ≡ m + 1) u (stays x m (omega arith));
          follow = subst (λ j. follows p day m j b ≡ true) u (subst (λ j. follows p day j x b ≡ true) q (subst (λ j. follows p day k x j ≡ true) (sym w.0) (sym f)));
        }

    old : (m b : ℕ) → (b ≡ y → ⊥) → Parent p day far from m b → Parent p day (set far y (k + 2)) (set from y x) m b
    old m b n r =
        let u : get_or from b 0 ≡ get_or (set from y x) b 0 = ⊎_elim (λ v. absurd (n v.0)) (λ v. sym v.1) (under b) in
        record { layer = subst (λ j. get_or (set far y (k + 2)) j 0 ≡ m + 1) u (stays (get_or from b 0) m r.layer); follow = subst (λ j. follows p day m j b ≡ true) u r.follow }

    tree : Tree p day first (set far y (k + 2)) (set from y x)
    tree = record {
      known = h.tree.known;
      holding = h.tree.holding;
      long = omega (arith, length-set far y (k + 2), h.tree.long);
      from_long = omega (arith, length-set from y x, h.tree.from_long);
      below = λ a. ⊎_elim (λ w. omega (arith, w.1, h.queue.listed over has)) (λ w. omega (arith, w.1, h.tree.below a)) (under a);
      start = stays first 0 h.tree.start;
      only = λ a l e. ⊎_elim (λ w. absurd (omega (arith, w.1))) (λ w. h.tree.only a l (sym w.1 ∙ e)) (at a);
      parent = λ m b l e. ⊎_elim (λ w. new m b w e) (λ w. old m b w.0 (h.tree.parent m b l (sym w.1 ∙ e))) (at b);
    }

    same : (j : ℕ) → j < size → get_or (set order size y) j 0 ≡ get_or order j 0
    same j l = get_or-set_other order size j y 0 (λ e. omega arith)

    same_layer : (j : ℕ) → j < size → get_or (set far y (k + 2)) (get_or (set order size y) j 0) 0 ≡ get_or far (get_or order j 0) 0
    same_layer j l = ap (λ a. get_or (set far y (k + 2)) a 0) (same j l) ∙ get_or-set_other far y (get_or order j 0) (k + 2) 0 (fresh p far order size h.queue y ey j l)

    last : (j : ℕ) → j ≡ size → get_or (set order size y) j 0 ≡ y
    last j e = ap (λ i. get_or (set order size y) i 0) e ∙ get_or-set_same order size y 0 (omega (arith, fits p far order size h.queue y ly ey, h.queue.long))

    last_layer : (j : ℕ) → j ≡ size → get_or (set far y (k + 2)) (get_or (set order size y) j 0) 0 ≡ k + 2
    last_layer j e = ap (λ a. get_or (set far y (k + 2)) a 0) (last j e) ∙ get_or-set_same far y (k + 2) 0 (omega (arith, h.tree.long))

    place : (j : ℕ) → j < size + 1 → (j < size) ⊎ (j ≡ size)
    place j l = ⊎_elim inl (λ m. inr (omega arith)) (cases_lt j size)

    queue : Order p (set far y (k + 2)) (set order size y) (size + 1)
    queue = record {
      long = omega (arith, length-set order size y, h.queue.long);
      few = omega (arith, fits p far order size h.queue y ly ey);
      listed = λ j l. ⊎_elim (λ u. omega (arith, same j u, h.queue.listed j u)) (λ u. omega (arith, last j u)) (place j l);
      reached = λ j l. ⊎_elim (λ u. omega (arith, same_layer j u, h.queue.reached j u)) (λ u. omega (arith, last_layer j u)) (place j l);
      low = λ j l. ⊎_elim (λ u. omega (arith, same_layer j u, h.queue.low j u)) (λ u. omega (arith, last_layer j u, layer, h.queue.low over has)) (place j l);
      rising = λ i j l m. ⊎_elim
          (λ u. omega (arith, same_layer i (omega arith), same_layer j u, h.queue.rising i j l u))
          (λ u. ⊎_elim (λ v. omega (arith, same_layer i v, last_layer j u, layer, h.turns.near i v has)) (λ v. omega (arith, last_layer i v, last_layer j u)) (place i (omega arith)))
          (place j m);
      once = λ i j l m e. ⊎_elim
          (λ u. h.queue.once i j l u (sym (same i (omega arith)) ∙ e ∙ same j u))
          (λ u. fresh p far order size h.queue y ey i (omega arith) (sym (same i (omega arith)) ∙ e ∙ last j u))
          (place j m);
      queued = λ a l s. ⊎_elim
          (λ w. record { place = size; within = omega arith; here = last size (λ i. size) ∙ sym w.0 })
          (λ w. let q = h.queue.queued a l (omega (arith, w.1)) in record { place = q.place; within = omega (arith, q.within); here = same q.place q.within ∙ q.here })
          (at a);
    }

    past : (m j b : ℕ) → j < size → b < p.count → get_or far (get_or order j 0) 0 ≡ m + 1 → Before j b over (y + 1) → follows p day m (get_or order j 0) b ≡ true → SetAt far y (k + 2) b → (0 < get_or (set far y (k + 2)) b 0) × (get_or (set far y (k + 2)) b 0 ≤ m + 2)
    past m j b l lb e o g (inl w) =
        ⊎_elim
        (λ u. absurd (omega (arith, (h.turns.past m j b l lb e (inl u) g).0, ap (λ a. get_or far a 0) w.0)))
        (λ u. omega (arith, w.1, layer, ap (λ i. get_or far (get_or order i 0) 0) u.0))
        o
    past m j b l lb e o g (inr w) =
        let r = h.turns.past m j b l lb e (⊎_elim inl (λ u. inr (u.0, nearer w.0 u.1)) o) g in
        omega (arith, w.1, r.0, r.1)
      where
        nearer : (b ≡ y → ⊥) → b < y + 1 → b < y
        nearer n l = omega arith

    turns : Turns p day (set far y (k + 2)) (set order size y) (size + 1) over (y + 1)
    turns = record {
      near = λ j l m. ⊎_elim
          (λ u. omega (arith, same_layer j u, same_layer over has, h.turns.near j u has))
          (λ u. omega (arith, last_layer j u, same_layer over has, layer))
          (place j l);
      past = λ m j b l lb e o g.
          let u : j < size = omega arith in
          past m j b u lb (sym (same_layer j u) ∙ e) o (subst (λ a. follows p day m a b ≡ true) (same j u) g) (at b);
      cleared = λ j l. ap (λ a. p.anchor a) (same j (omega arith)) ∙ h.turns.cleared j l;
    }

    pub pushed : Layers p day first (set far y (k + 2)) (set from y x) (set order size y) (size + 1) over (y + 1)
    pushed = record { tree = tree; queue = queue; turns = turns }

  -- y is left as it is: it was reached before, or can't follow
  pub passed : (0 < get_or far y 0) ⊎ (follows p day k x y ≡ false) → Layers p day first far from order size over (y + 1)
  passed o = record {
    tree = h.tree;
    queue = h.queue;
    turns = record { near = h.turns.near; cleared = h.turns.cleared; past = λ m j b l lb e u g. ⊎_elim (λ v. h.turns.past m j b l lb e (inl v) g) (λ v. at_over m j b l lb e v.0 v.1 g (cases_eq b y)) u };
  }
    where
      now : (m j b : ℕ) → b < p.count → m ≡ k → j ≡ over → b ≡ y → follows p day m (get_or order j 0) b ≡ true → (0 < get_or far y 0) ⊎ (follows p day k x y ≡ false) → (0 < get_or far b 0) × (get_or far b 0 ≤ m + 2)
      now m j b lb em ej eb g (inl s) =
          let c = ap (λ a. get_or far a 0) eb in
          omega (arith, layer, close p far order size h.queue h.turns has b lb (omega arith))
      now m j b lb em ej eb g (inr n) = absurd (both_ways (follows p day m (get_or order j 0) b) (rw (em, ej, eb, here) n) g)

      at_over : (m j b : ℕ) → j < size → b < p.count → get_or far (get_or order j 0) 0 ≡ m + 1 → j ≡ over → b < y + 1 → follows p day m (get_or order j 0) b ≡ true → (b ≡ y) ⊎ (b ≡ y → ⊥) → (0 < get_or far b 0) × (get_or far b 0 ≤ m + 2)
      at_over m j b l lb e ej lt g (inl q) = now m j b lb (omega (arith, layer, ap (λ i. get_or far (get_or order i 0) 0) ej)) ej q g o
      at_over m j b l lb e ej lt g (inr n) = h.turns.past m j b l lb e (inr (ej, omega arith)) g

module _ (p : Pool) (day first : ℕ) (far from order : List ℕ) (size over : ℕ) where
  -- once all are reached, a turn adds none
  pub full : Layers p day first far from order size over 0 → over < size → p.count ≤ size → Layers p day first far from order size over p.count
  full h has all = record {
    tree = h.tree;
    queue = h.queue;
    turns = record {
      near = h.turns.near;
      cleared = h.turns.cleared;
      past = λ m j b l lb e o g. ⊎_elim
          (λ u. h.turns.past m j b l lb e (inl u) g)
          (λ u. let s = all_reached p far order size h.queue all b lb in (s, omega (arith, close p far order size h.queue h.turns has b lb s, ap (λ i. get_or far (get_or order i 0) 0) u.0)))
          o;
    };
  }

  -- the one at place `over`, no trust anchor, has had all its turns
  pub turned : (x : ℕ) → Layers p day first far from order size over p.count → over < size → get_or order over 0 ≡ x → p.anchor x ≡ false → Layers p day first far from order size (over + 1) 0
  turned x h has here no-anchor = record {
    tree = h.tree;
    queue = h.queue;
    turns = record {
      near = λ j l m. omega (arith, h.turns.near j l has, h.queue.rising over (over + 1) (omega arith) m);
      past = λ m j b l lb e o g. h.turns.past m j b l lb e (⊎_elim (λ u. ⊎_elim inl (λ v. inr (omega arith, lb)) (cases_lt j over)) (λ u. absurd (omega (arith, u.1))) o) g;
      cleared = λ j l. ⊎_elim (λ e. ap (λ i. p.anchor (get_or order i 0)) e ∙ ap (λ a. p.anchor a) here ∙ no-anchor) (λ n. h.turns.cleared j (omega arith)) (cases_eq j over);
    };
  }

  -- explored below a limit, if all below it have had their turns
  explored : Layers p day first far from order size over 0 → (limit : ℕ) → ((j : ℕ) → j < size → get_or far (get_or order j 0) 0 < limit → j < over) → Explored p day far limit
  explored h limit done = record {
    closed = λ m a b la lb e l f.
        let q = h.queue.queued a la (omega arith) in
        let c = ap (λ i. get_or far i 0) q.here in
        h.turns.past m q.place b q.within lb (c ∙ e) (inl (done q.place q.within (omega arith))) (subst (λ i. follows p day m i b ≡ true) (sym q.here) f);
    clear = λ a la s l.
        let q = h.queue.queued a la s in
        let c = ap (λ i. get_or far i 0) q.here in
        ap (λ i. p.anchor i) (sym q.here) ∙ h.turns.cleared q.place (done q.place q.within (omega arith));
  }

  -- explored below the layer of the next one
  pub explored_below : (k x : ℕ) → Layers p day first far from order size over 0 → over < size → get_or order over 0 ≡ x → get_or far x 0 ≡ k + 1 → Explored p day far (k + 1)
  explored_below k x h has here e = explored h (k + 1) (λ j l m. ⊎_elim (λ u. u) (λ u. absurd (omega (arith, h.queue.rising over j u l, ap (λ a. get_or far a 0) here))) (cases_lt j over))

  -- explored throughout, once all that were reached have had their turns
  pub explored_all : Layers p day first far from order size over 0 → size ≤ over → (limit : ℕ) → Explored p day far limit
  explored_all h l limit = explored h limit (λ j m u. omega arith)
