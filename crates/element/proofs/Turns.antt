-- A byte further: what completes the rows then is what completed them behind that byte.
use Rattle.std.proofs.Common.{◌≡◌, ℕ, zero, suc, ◌+◌, ◌-◌, ◌<◌, ◌≤◌, cond, ◌||◌, eqb, ltb, ◌⊎◌, List, [], ◌∷◌, ◌++◌, length, get_or, drop, set, sym, refl, ap, ◌∙◌, subst, subst₂, inl, inr, ⊎_elim, arith, length-drop, length-set}
use Rattle.std.proofs.lemmas.List.{drop_more, drop-set, drop-drop, nil_from_length}
use Rattle.std.proofs.lemmas.Bool.{ltb-true, ltb-false, eqb-true, eqb-false, or_cases, or_parts, cond_both}
use Rattle.format.specs.Elements.{first_constructed, written_length, all_bytes}
use Rattle.format.proofs.Lengths.{same_length}
use Rattle.format.proofs.Rests.{Fills, room, deduct, Inside, primitive_comes, primitive_came, constructed_comes, constructed_came}
use Rattle.element.specs.Limits.{deepest, longest}
use Rattle.element.specs.Machine.{State, taken, at_position, room_of, spent, within, opened, entered, full, unfilled, settled, next_position, stepped}
use Rattle.element.specs.declared.progress.position.Position.{Position}
use Rattle.element.specs.declared.progress.position.Position.TheVariants.{Tag, Length, OneByte, TwoBytes, LowByte, Header, Contents, Nowhere}
use Rattle.element.proofs.Standing.{Standing, asks, standing_behind, standing_within, closing}
use Rattle.element.proofs.Positions.{Completes, Ready, Begun, Moved, LeadsTo, leads}
use Rattle.element.proofs.Rooms.{rows_two, rows_last}

-- the open rows, innermost first
abbrev pub rows_of : State → List ℕ
rows_of s = drop s.levels s.rooms

-- the bytes complete the rows from the reader on
abbrev pub Complete : State → List ℕ → Type 0
Complete s c = Completes s.position s.levels (rows_of s) c

-- open rows that stand, and a position of which something is known
pub record Sound (Known : Position → ℕ → ℕ → Type 0) (s : State) : Type 0 where
  pub bound : s.levels ≤ deepest
  pub size : length s.rooms ≡ deepest + 1
  pub standing : Standing (rows_of s)
  pub known : Known s.position s.levels (room (rows_of s))

-- what completes the one completes the other
record Same (s q : State) : Type 0 where
  to : (c : List ℕ) → Complete s c → Complete q c
  from : (c : List ℕ) → Complete q c → Complete s c

record Onward (Known : Position → ℕ → ℕ → Type 0) (s q : State) : Type 0 where
  sound : Sound Known q
  same : Same s q

room_at : (k : ℕ) (l : List ℕ) → room (drop k l) ≡ get_or l k 0
room_at zero [] = refl
room_at zero (x ∷ l) = refl
room_at (suc k) [] = refl
room_at (suc k) (x ∷ l) = room_at k l

-- rows of which the innermost has given k bytes to an element
record Spent (s : State) (k : ℕ) (q : State) : Type 0 where
  levels : q.levels ≡ s.levels
  size : length q.rooms ≡ deepest + 1
  rows : drop s.levels q.rooms ≡ deduct k (rows_of s)

spent_is : (s : State) (k : ℕ) → s.levels ≤ deepest → length s.rooms ≡ deepest + 1 → Spent s k (spent s k)
spent_is s k b e =
    cond_both (ltb s.levels deepest) (record { position = s.position; levels = s.levels; rooms = set s.rooms s.levels (room_of s - k) }) s (Spent s k)
    (λ t. let l = ltb-true s.levels deepest t in record {
      levels = refl;
      size = length-set s.rooms s.levels (room_of s - k) ∙ e;
      rows = drop-set s.rooms s.levels (room_of s - k) (omega arith) ∙ ap (λ r. (room_of s - k) ∷ r) (drop_more s.rooms (s.levels + 1) 0 (omega arith)) ∙ sym (ap (deduct k) (rows_two s.rooms s.levels l e));
    })
    (λ t. let l = ltb-false s.levels deepest t in let last = rows_last s.rooms s.levels (omega arith) e in record { levels = refl; size = e; rows = last ∙ sym (ap (deduct k) last) })

-- behind a whole header
module _ (s : State) (t n : ℕ) (bound : s.levels ≤ deepest) (long : length s.rooms ≡ deepest + 1) (h : Standing (rows_of s)) (known : Moved (Header t n) s.levels (room (rows_of s))) where
  abbrev From : State
  From = at_position s (Header t n)

  -- the element has its bytes of the row
  abbrev Less : State
  Less = spent From (taken n)

  opened_nowhere : ((c : List ℕ) → Complete From c → ⊥) → Onward Begun From (at_position s Nowhere)
  opened_nowhere f = record { sound = record { bound = bound; size = long; standing = h; known = tt }; same = record { to = f; from = λ c x. absurd x } }

  -- what the header asks is of its own length
  asked : (c : List ℕ) → Complete From c → (taken n ≤ room (rows_of s)) × (taken n + 1 ≡ room (rows_of s) → ⊥) × ((t < first_constructed) ⊎ ((n ≡ 1 → ⊥) × (0 < s.levels)))
  asked c f =
      let a = asks s.levels (rows_of s) t (written_length n ++ c) h (omega (arith, known.0)) f in
      let e = (same_length n a.n c a.tail a.is).0 in
      let z : taken n ≡ taken a.n = ap taken e in
      (omega (arith, a.enough), (λ l. a.left (omega arith)), ⊎_elim (λ low. inl low) (λ k. inr (λ o. k.3 (omega arith), k.2)) a.kind)

  -- once the room is known
  module _ (fits : taken n ≤ room (rows_of s)) (left : taken n + 1 ≡ room (rows_of s) → ⊥) where
    less : Spent From (taken n) Less
    less = spent_is From (taken n) bound long

    rows_less : drop s.levels Less.rooms ≡ deduct (taken n) (rows_of s)
    rows_less = less.rows

    stands_less : Standing (deduct (taken n) (rows_of s))
    stands_less = standing_behind (taken n) (rows_of s) h fits left

    opened_primitive : t < first_constructed → Onward Begun From (at_position Less (Contents n))
    opened_primitive low =
        let e : rows_of Less ≡ deduct (taken n) (rows_of s) = ap (λ k. drop k Less.rooms) less.levels ∙ rows_less in
        record {
          sound = record { bound = omega (arith, less.levels); size = less.size; standing = subst Standing (sym e) stands_less; known = tt };
          same = record {
            to = λ c f. subst₂ (λ k r. Inside n (Fills k longest r) c) (sym less.levels) (sym e) (primitive_comes s.levels longest t n (rows_of s) c low (omega (arith, known.0)) f);
            from = λ c f. primitive_came s.levels longest t n (rows_of s) c low known.1 fits (subst₂ (λ k r. Inside n (Fills k longest r) c) less.levels e f);
          };
        }

    opened_constructed : first_constructed ≤ t → t < 256 → (n ≡ 1 → ⊥) → 0 < s.levels → Onward Begun From (within Less n)
    opened_constructed high byte o some =
        let d = s.levels - 1 in
        let one : suc d ≡ s.levels = omega arith in
        let lower : Less.levels - 1 ≡ d = omega (arith, less.levels) in
        let up : d + 1 ≡ s.levels = omega arith in
        let e : rows_of (within Less n) ≡ n ∷ deduct (taken n) (rows_of s) =
        ap (λ k. drop k (set Less.rooms k n)) lower ∙ drop-set Less.rooms d n (omega (arith, less.size)) ∙ ap (λ k. n ∷ drop k Less.rooms) up ∙ ap (λ r. n ∷ r) rows_less in
        record {
          sound = record { bound = omega (arith, less.levels); size = length-set Less.rooms (Less.levels - 1) n ∙ less.size; standing = subst Standing (sym e) (standing_within n (deduct (taken n) (rows_of s)) o stands_less); known = tt };
          same = record {
            to = λ c f. subst₂ (λ k r. Fills k longest r c) (sym lower) (sym e) (constructed_comes d longest t n (rows_of s) c high (omega (arith, known.0)) (subst (λ k. Fills k longest (rows_of s) (t ∷ (written_length n ++ c))) (sym one) f));
            from = λ c f. subst (λ k. Fills k longest (rows_of s) (t ∷ (written_length n ++ c))) one (constructed_came d longest t n (rows_of s) c high byte known.1 fits (subst₂ (λ k r. Fills k longest r c) lower e f));
          };
        }

  opens : Onward Begun From (opened From t n)
  opens =
      cond_both (ltb (room_of s) (taken n) || eqb (room_of s) (taken n + 1)) (at_position s Nowhere) (cond (ltb t first_constructed) (at_position Less (Contents n)) (cond (eqb n 1 || eqb s.levels 0) (at_position s Nowhere) (within Less n))) (Onward Begun From)
      (λ e. opened_nowhere (λ c f. let a = asked c f in
      ⊎_elim (λ z. omega (arith, ltb-true (room_of s) (taken n) z, same_room, a.0)) (λ z. a.1 (sym (same_room ∙ eqb-true (room_of s) (taken n + 1) z))) (or_cases (ltb (room_of s) (taken n)) (eqb (room_of s) (taken n + 1)) e)))
      (λ e. let o = or_parts (ltb (room_of s) (taken n)) (eqb (room_of s) (taken n + 1)) e in
      let fits : taken n ≤ room (rows_of s) = omega (arith, ltb-false (room_of s) (taken n) o.0, same_room) in
      let left : taken n + 1 ≡ room (rows_of s) → ⊥ = λ z. eqb-false (room_of s) (taken n + 1) o.1 (sym (z ∙ same_room)) in
      cond_both (ltb t first_constructed) (at_position Less (Contents n)) (cond (eqb n 1 || eqb s.levels 0) (at_position s Nowhere) (within Less n)) (Onward Begun From)
      (λ low. opened_primitive fits left (ltb-true t first_constructed low))
      (λ high. let l = ltb-false t first_constructed high in cond_both (eqb n 1 || eqb s.levels 0) (at_position s Nowhere) (within Less n) (Onward Begun From)
      (λ z. opened_nowhere (λ c f. let a = (asked c f).2 in let u = or_cases (eqb n 1) (eqb s.levels 0) z in ⊎_elim (λ i. ⊎_elim (λ low. omega arith) (λ k. k.0 (eqb-true n 1 i)) a) (λ i. let w = eqb-true s.levels 0 i in omega arith) u))
      (λ z. let u = or_parts (eqb n 1) (eqb s.levels 0) z in let k = known.2 in opened_constructed fits left l (omega arith) (eqb-false n 1 u.0) (omega (arith, eqb-false s.levels 0 u.1)))))
    where
      same_room : room (rows_of s) ≡ room_of s
      same_room = room_at s.levels s.rooms

stays : (Known : Position → ℕ → ℕ → Type 0) (s : State) → Sound Known s → Onward Known s s
stays Known s h = record { sound = h; same = record { to = λ c f. f; from = λ c f. f } }

-- a reader at a position goes behind the header, if the position is one
entering : (s : State) (p : Position) → Sound Moved (at_position s p) → Onward Begun (at_position s p) (entered (at_position s p))
entering s (Header t n) h = opens s t n h.bound h.size h.standing h.known
entering s Tag h = stays Begun (at_position s Tag) (record { bound = h.bound; size = h.size; standing = h.standing; known = h.known })
entering s (Length t) h = stays Begun (at_position s (Length t)) (record { bound = h.bound; size = h.size; standing = h.standing; known = h.known })
entering s (OneByte t) h = stays Begun (at_position s (OneByte t)) (record { bound = h.bound; size = h.size; standing = h.standing; known = h.known })
entering s (TwoBytes t) h = stays Begun (at_position s (TwoBytes t)) (record { bound = h.bound; size = h.size; standing = h.standing; known = h.known })
entering s (LowByte t k) h = stays Begun (at_position s (LowByte t k)) (record { bound = h.bound; size = h.size; standing = h.standing; known = h.known })
entering s (Contents n) h = stays Begun (at_position s (Contents n)) (record { bound = h.bound; size = h.size; standing = h.standing; known = h.known })
entering s Nowhere h = stays Begun (at_position s Nowhere) (record { bound = h.bound; size = h.size; standing = h.standing; known = h.known })

-- the rows that need nothing more are closed
unfilling : (s : State) → s.levels ≤ deepest → length s.rooms ≡ deepest + 1 → Standing (rows_of s) → Onward Ready (at_position s Tag) (unfilled s)
unfilling s bound long h =
    let k = closing s.levels (rows_of s) h in
    let e : drop (full (rows_of s)) (rows_of s) ≡ rows_of (unfilled s) = drop-drop (full (rows_of s)) s.levels s.rooms in
    record {
      sound = record { bound = omega (arith, k.few, length-drop s.levels s.rooms); size = long; standing = subst Standing e k.standing; known = subst (λ r. 2 ≤ room r) e k.some };
      same = record { to = λ c f. subst (λ r. Fills (s.levels + full (rows_of s)) longest r c) e (k.to c f); from = λ c f. k.from c (subst (λ r. Fills (s.levels + full (rows_of s)) longest r c) (sym e) f) };
    }

-- contents that are at their end
no_more : (Behind : List ℕ → Type 0) (c : List ℕ) → Inside 0 Behind c → Behind c
no_more Behind c f = subst Behind (sym (f.is ∙ ap (λ l. l ++ f.behind) (nil_from_length f.contents f.size))) f.rest

none_before : (Behind : List ℕ → Type 0) (c : List ℕ) → Behind c → Inside 0 Behind c
unfolding all_bytes
none_before Behind c f = record { contents = []; behind = c; is = refl; size = refl; bytes = refl; rest = f }

ended : (s : State) (n : ℕ) → n ≡ 0 → Onward Ready (at_position s Tag) (unfilled s) → Onward Ready (at_position s (Contents n)) (unfilled s)
ended s n z h =
    let F = Fills s.levels longest (rows_of s) in
    record {
      sound = h.sound;
      same = record { to = λ c f. h.same.to c (no_more F c (subst (λ k. Inside k F c) z f)); from = λ c f. subst (λ k. Inside k F c) (sym z) (none_before F c (h.same.from c f)) };
    }

settling : (s : State) (p : Position) → Sound Begun (at_position s p) → Onward Ready (at_position s p) (settled (at_position s p))
settling s Tag h = unfilling s h.bound h.size h.standing
settling s (Contents n) h =
    cond_both (eqb n 0) (unfilled s) (at_position s (Contents n)) (Onward Ready (at_position s (Contents n)))
    (λ e. ended s n (eqb-true n 0 e) (unfilling s h.bound h.size h.standing))
    (λ e. stays Ready (at_position s (Contents n)) (record { bound = h.bound; size = h.size; standing = h.standing; known = omega (arith, eqb-false n 0 e) }))
settling s (Length t) h = stays Ready (at_position s (Length t)) (record { bound = h.bound; size = h.size; standing = h.standing; known = h.known })
settling s (OneByte t) h = stays Ready (at_position s (OneByte t)) (record { bound = h.bound; size = h.size; standing = h.standing; known = h.known })
settling s (TwoBytes t) h = stays Ready (at_position s (TwoBytes t)) (record { bound = h.bound; size = h.size; standing = h.standing; known = h.known })
settling s (LowByte t k) h = stays Ready (at_position s (LowByte t k)) (record { bound = h.bound; size = h.size; standing = h.standing; known = h.known })
settling s (Header t n) h = absurd h.known
settling s Nowhere h = stays Ready (at_position s Nowhere) (record { bound = h.bound; size = h.size; standing = h.standing; known = h.known })

-- the reader behind a byte
pub record Stepped (s : State) (x : ℕ) : Type 0 where
  pub sound : Sound Ready (stepped s x)
  pub to : (c : List ℕ) → Complete s (x ∷ c) → Complete (stepped s x) c
  pub from : (c : List ℕ) → Complete (stepped s x) c → Complete s (x ∷ c)

turned : (s : State) (x : ℕ) (p : Position) → Sound Ready s → LeadsTo s.position s.levels (rows_of s) x p → Onward Ready (at_position s p) (settled (entered (at_position s p)))
turned s x p h l =
    let e = entering s p (record { bound = h.bound; size = h.size; standing = h.standing; known = l.ready }) in
    let q = entered (at_position s p) in
    let f = settling q q.position e.sound in
    record { sound = f.sound; same = record { to = λ c k. f.same.to c (e.same.to c k); from = λ c k. e.same.from c (f.same.from c k) } }

pub stepping : (s : State) (x : ℕ) → Sound Ready s → x < 256 → Stepped s x
stepping s x h byte =
    let p = next_position (room_of s) s.levels s.position x in
    let l : LeadsTo s.position s.levels (rows_of s) x p =
    subst (λ r. LeadsTo s.position s.levels (rows_of s) x (next_position r s.levels s.position x)) (room_at s.levels s.rooms) (leads s.levels (rows_of s) x h.standing byte s.position h.known) in
    let o = turned s x p h l in
    record { sound = o.sound; to = λ c f. o.same.to c (l.to c f); from = λ c f. l.from c (o.same.from c f) }
