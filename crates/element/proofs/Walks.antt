-- What a cursor finds in the row that its bytes read as.
use Rattle.std.proofs.Common.{◌≡◌, ℕ, zero, suc, ◌+◌, ◌-◌, ◌<◌, ◌≤◌, List, [], ◌∷◌, ◌++◌, length, get_or, take, drop, Some, None, Option, sym, refl, ap, ◌∙◌, subst, append_assoc, append-nil, zero-add, arith, length-append, length-drop, MatchOption, slice_get}
use Rattle.std.specs.Iterator.{Yields, YieldsThen}
use Rattle.std.specs.List.{flat_map}
use Rattle.std.proofs.lemmas.List.{nil_from_length, drop_more, get_or_append_left, get_or_at}
use Rattle.format.specs.Elements.{first_constructed, Row, empty, framed, written, Reads}
use Rattle.format.specs.Paths.{nth, inside, at_path, before, inner_start, place}
use Rattle.format.proofs.Places.{at_path_empty, part_of_bytes}
use Rattle.format.proofs.Readings.{same_reading}
use Rattle.format.proofs.Walks.{Step, step, stop}
use Rattle.element.specs.Cursors.{ahead, offset, Passes, NextElement, IsNth, CursorGives}
use Rattle.element.specs.Limits.{deepest, longest}
use Rattle.element.specs.Found.{Found, bytes_of}
use Rattle.element.specs.Located.{Leads, LeadsNowhere, IsPart, PieceMeans}
use Rattle.element.specs.declared.walking.Cursor.{Cursor}
use Rattle.element.specs.declared.walking.Element.{Element}
use Rattle.element.proofs.Openings.{front_of}

-- what an element splits, at the front of the bytes before a cursor
pub split : {c : Cursor} {e : Element} {after : Cursor} → Passes c e after → ahead c ≡ framed e.tag e.contents.now ++ ahead after
split {e = e} {after = after} p = p.front ∙ ap (λ l. l ++ ahead after) e.is

-- and where they end
pub same_end : {c : Cursor} {e : Element} {after : Cursor} → Passes c e after → offset after + length (ahead after) ≡ offset c + length (ahead c)
same_end {e = e} {after = after} p = omega (arith, p.on, ap length p.front, length-append e.whole.now (ahead after))

-- one step of a cursor in a row
stepped : (d : ℕ) (row : Row) (s : Cursor) (e : Element) (t : Cursor) → Reads d longest (ahead s) row → Passes s e t → Step d longest row e.tag e.contents.now (ahead t)
stepped d row s e t h p = step d longest (ahead s) row h e.tag e.contents.now (ahead t) (split p)

-- a cursor that has passed k elements of a row: the row that is left, whose elements and places are those behind
pub record Passed (d : ℕ) (row : Row) (k from : ℕ) (t : Cursor) : Type 0 where
  pub left : Row
  pub reads : Reads d longest (ahead t) left
  pub same : (n : ℕ) → nth row (k + n) ≡ nth left n
  pub places : (n : ℕ) → from + before row (k + n) ≡ offset t + before left n

pub passed : (d : ℕ) (xs : List Element) (row : Row) (s t : Cursor) → Reads d longest (ahead s) row → Yields NextElement s xs t → Passed d row (length xs) (offset s) t
passed d [] row s t h e = subst (Passed d row 0 (offset s)) e (record { left = row; reads = h; same = λ n. ap (nth row) (zero-add n); places = λ n. ap (λ k. offset s + before row k) (zero-add n) })
passed d (x ∷ xs) row s t h e =
    let p = e.1 in
    let g = stepped d row s x e.0 h p in
    let r = passed d xs g.behind e.0 t g.reads e.2 in
    let long = ap length x.is in
    let shift : (n : ℕ) → suc (length xs) + n ≡ suc (length xs + n) = λ n. omega arith in
    record {
      left = r.left;
      reads = r.reads;
      same = λ n. ap (nth row) (shift n) ∙ g.after (length xs + n) ∙ r.same n;
      places = λ n. omega (arith, ap (before row) (shift n), g.later (length xs + n), r.places n, p.on, long);
    }

-- the element with a number in a row, as a cursor hands it back
pub record Nth (d : ℕ) (row : Row) (n from : ℕ) (e : Element) : Type 0 where
  pub some : nth row n ≡ empty → ⊥
  pub is : e.whole.now ≡ written (nth row n)
  pub there : e.at ≡ from + before row n
  pub plain : e.tag < first_constructed → inside (nth row n) ≡ empty
  pub within : first_constructed ≤ e.tag → (less : ℕ) × Reads less longest e.contents.now (inside (nth row n)) × (e.contents_at ≡ from + before row n + inner_start (nth row n))

pub nth_some : (d : ℕ) (row : Row) (k from : ℕ) (t : Cursor) (e : Element) (u : Cursor) → Passed d row k from t → Passes t e u → Nth d row k from e
nth_some d row k from t e u q p =
    let g = stepped d q.left t e u q.reads p in
    let zero_more : k + 0 ≡ k = omega arith in
    let same : nth row k ≡ nth q.left 0 = sym (ap (nth row) zero_more) ∙ q.same 0 in
    let at : e.at ≡ from + before row k = omega (arith, q.places 0, g.first, p.place, ap (before row) zero_more) in
    record {
      some = λ f. g.some (sym same ∙ f);
      is = e.is ∙ sym g.here ∙ ap written (sym same);
      there = at;
      plain = λ l. ap inside same ∙ g.plain l;
      within = λ l.
          let w = g.within l in (
            w.less,
            subst (λ r. Reads w.less longest e.contents.now (inside r)) (sym same) w.reads,
            omega (arith, e.within, ap length e.is, w.size, at, ap inner_start same),
          );
    }

pub nth_none : (d : ℕ) (row : Row) (k n from : ℕ) (t u : Cursor) → Passed d row k from t → NextElement t None u → k ≤ n → nth row n ≡ empty
unfolding nth
nth_none d row k n from t u q e h =
    let more : k + (n - k) ≡ n = omega arith in
    let none : q.left ≡ empty = stop d longest (ahead t) q.left q.reads (front_of (ahead t) e.1) in
    sym (ap (nth row) more) ∙ q.same (n - k) ∙ ap (λ r. nth r (n - k)) none

-- a path of several numbers goes on within the element that the first one leads to
at_path_in : (row : Row) (n : ℕ) (rest : List ℕ) → 0 < length rest → at_path row (n ∷ rest) ≡ at_path (inside (nth row n)) rest
unfolding at_path
at_path_in row n [] h = absurd (omega arith)
at_path_in row n (k ∷ rest) h = refl

place_in : (row : Row) (n : ℕ) (rest : List ℕ) → 0 < length rest → place row (n ∷ rest) ≡ before row n + (inner_start (nth row n) + place (inside (nth row n)) rest)
unfolding place
place_in row n [] h = absurd (omega arith)
place_in row n (k ∷ rest) h = refl

-- a cursor to which the first i numbers of a path have led: the rest of the path leads on from there
pub record Led (bytes path : List ℕ) (i : ℕ) (c : Cursor) : Type 0 where
  pub on : (row : Row) → Reads deepest longest bytes row → (d : ℕ) × (left : Row) × Reads d longest (ahead c) left × (at_path row path ≡ at_path left (drop i path)) × (place row path ≡ offset c + place left (drop i path))

module _ (bytes path : List ℕ) (i : ℕ) (c : Cursor) (h : Led bytes path i c) (n : ℕ) (e : drop i path ≡ n ∷ drop (i + 1) path) where
  -- where the number leads to nothing, or to an element with nothing within, the path leads to nothing
  pub led_nowhere : 0 < length (drop (i + 1) path) → ((d : ℕ) (left : Row) → Reads d longest (ahead c) left → inside (nth left n) ≡ empty) → LeadsNowhere bytes path
  led_nowhere more f = λ row r.
      let (d, left, reads, same, there) = h.on row r in
      same ∙ ap (at_path left) e ∙ at_path_in left n (drop (i + 1) path) more ∙ ap (λ x. at_path x (drop (i + 1) path)) (f d left reads) ∙ at_path_empty (drop (i + 1) path)

  -- the path goes on within the element
  pub led_inside : 0 < length (drop (i + 1) path) → (x : Element) (after : Cursor) → ahead after ≡ x.contents.now → offset after ≡ x.contents_at → first_constructed ≤ x.tag → ((d : ℕ) (left : Row) → Reads d longest (ahead c) left → Nth d left n (offset c) x) → Led bytes path (i + 1) after
  led_inside more x after ahead-is at-is high f = record {
    on = λ row r.
        let (d, left, reads, same, there) = h.on row r in
        let w = (f d left reads).within high in
        let rest = drop (i + 1) path in (
          w.0,
          inside (nth left n),
          subst (λ b. Reads w.0 longest b (inside (nth left n))) (sym ahead-is) w.1,
          same ∙ ap (at_path left) e ∙ at_path_in left n rest more,
          omega (arith, there, ap (place left) e, place_in left n rest more, at-is, w.2),
        );
  }

  -- the last number leads to the element
  pub led_found : length (drop (i + 1) path) ≡ 0 → (x : Element) (row : Row) → Reads deepest longest bytes row → ((d : ℕ) (left : Row) → Reads d longest (ahead c) left → Nth d left n (offset c) x) → Leads bytes path x.at x.whole.now
  unfolding at_path place
  led_found none x row r f =
      let (d, left, reads, same, there) = h.on row r in
      let g = f d left reads in
      let last : drop i path ≡ n ∷ [] = e ∙ ap (λ l. n ∷ l) (nil_from_length (drop (i + 1) path) none) in
      let here : at_path row path ≡ nth left n = same ∙ ap (at_path left) last in
      let at : x.at ≡ place row path = omega (arith, g.there, there, ap (place left) last) in
      let is : x.whole.now ≡ written (at_path row path) = g.is ∙ ap written (sym here) in
      record {
        row = row;
        reads = r;
        some = λ z. g.some (sym here ∙ z);
        there = at;
        is = is;
        part = is ∙ sym (part_of_bytes deepest longest bytes row path r) ∙ (λ j. take (length (sym is j)) (drop (sym at j) bytes));
      }

  pub led_nothing : length (drop (i + 1) path) ≡ 0 → ((d : ℕ) (left : Row) → Reads d longest (ahead c) left → nth left n ≡ empty) → LeadsNowhere bytes path
  unfolding at_path
  led_nothing none f = λ row r.
      let (d, left, reads, same, there) = h.on row r in
      same ∙ ap (at_path left) (e ∙ ap (λ l. n ∷ l) (nil_from_length (drop (i + 1) path) none)) ∙ f d left reads

-- what a cursor's `nth` gives, by the elements that it passes
abbrev pub Ran : (n : ℕ) (s : Cursor) (r : Option Element) (u : Cursor) → Type 0
Ran n s r u = (xs : List Element) × YieldsThen NextElement s xs r u × MatchOption r (length xs ≤ n) (λ _. length xs ≡ n)

pub ran_none : (n : ℕ) (s u : Cursor) → Ran n s None u → (d : ℕ) (left : Row) → Reads d longest (ahead s) left → nth left n ≡ empty
ran_none n s u ran d left h =
    let (xs, (t, ys, last), few) = ran in
    nth_none d left (length xs) n (offset s) t u (passed d xs left s t h ys) last few

pub ran_some : (n : ℕ) (s u : Cursor) (e : Element) → Ran n s (Some e) u → (d : ℕ) (left : Row) → Reads d longest (ahead s) left → Nth d left n (offset s) e
ran_some n s u e ran d left h =
    let (xs, (t, ys, last), few) = ran in
    subst (λ k. Nth d left k (offset s) e) few (nth_some d left (length xs) (offset s) t e u (passed d xs left s t h ys) last)

-- the numbers of a path before its last one, and its last one
module _ (path outer : List ℕ) (last i : ℕ) (e : path ≡ outer ++ (last ∷ [])) where
  path_size : length path ≡ length outer + 1
  path_size = ap length e ∙ length-append outer (last ∷ [])

  pub outer_number : i < length outer → (drop i path ≡ get_or outer i 0 ∷ drop (i + 1) path) × (0 < length (drop (i + 1) path))
  outer_number h =
      let l = path_size in (
        drop_more path i 0 (omega arith) ∙ ap (λ n. n ∷ drop (i + 1) path) (ap (λ p. get_or p i 0) e ∙ get_or_append_left outer (last ∷ []) 0 i h),
        omega (arith, length-drop (i + 1) path),
      )

  pub last_number : i ≡ length outer → (drop i path ≡ last ∷ drop (i + 1) path) × (length (drop (i + 1) path) ≡ 0)
  last_number h =
      let l = path_size in (
        drop_more path i 0 (omega arith) ∙ ap (λ n. n ∷ drop (i + 1) path) (ap (λ p. get_or p i 0) e ∙ get_or_at outer last [] 0 i (sym h)),
        omega (arith, length-drop (i + 1) path),
      )

-- no number leads to nothing
pub no_number : (path : List ℕ) → length path ≡ 0 → (row : Row) → at_path row path ≡ empty
unfolding at_path
no_number path h row = ap (at_path row) (nil_from_length path h)

-- the last number leads to what `nth` finds
pub led_last : (bytes path : List ℕ) (i : ℕ) (c : Cursor) → Led bytes path i c → (n : ℕ) → drop i path ≡ n ∷ drop (i + 1) path → length (drop (i + 1) path) ≡ 0 → ((row : Row) × Reads deepest longest bytes row) → (r : Option Element) (u : Cursor) → Ran n c r u → Found bytes path r
led_last bytes path i c h n e none whole None u ran = led_nothing bytes path i c h n e none (ran_none n c u ran)
led_last bytes path i c h n e none whole (Some x) u ran = led_found bytes path i c h n e none x whole.0 whole.1 (ran_some n c u x ran)

-- nothing is within no element
pub inside_none : {r : Row} → r ≡ empty → inside r ≡ empty
unfolding inside
inside_none e = ap inside e

-- what a piece is, by the one reading of the bytes
pub piece_means : PieceMeans
unfolding written
piece_means bytes path (Some part) (at, leads) =
    let is : (row : Row) → Reads deepest longest bytes row → part ≡ written (at_path row path) = λ row h. leads.is ∙ ap (λ r. written (at_path r path)) (sym (same_reading deepest longest bytes leads.row row leads.reads h)) in
    record {
      is = is;
      there = λ row h. is row h ∙ sym (part_of_bytes deepest longest bytes row path h) ∙ ap (λ (w : List ℕ). take (length w) (drop (place row path) bytes)) (sym (is row h));
      malformed = λ f. absurd (f leads.row leads.reads);
    }
piece_means bytes path None f = record { is = λ row h. ap written (sym (f row h)); there = λ row h. refl; malformed = λ g. refl }

-- what was found is the part of the bytes that a piece is
pub found_part : (bytes path : List ℕ) (r : Option Element) → Found bytes path r → IsPart bytes path (bytes_of r)
found_part bytes path (Some e) h = piece_means bytes path (Some e.whole.now) (e.at, h)
found_part bytes path None h = piece_means bytes path None h

-- the elements that a cursor gives, one behind the other
given_joined : (xs : List Element) (s t : Cursor) → Yields NextElement s xs t → ahead s ≡ flat_map (λ e. e.whole.now) xs ++ ahead t
given_joined [] s t e = ap ahead e
given_joined (x ∷ xs) s t e = e.1.front ∙ ap (λ l. x.whole.now ++ l) (given_joined xs e.0 t e.2) ∙ sym (append_assoc x.whole.now (flat_map (λ y. y.whole.now) xs) (ahead t))

-- what stands behind the first element stands one place further in the row
nth_behind : (d : ℕ) (row : Row) (s : Cursor) (e : Element) (t : Cursor) → (p : Passes s e t) → (g : Step d longest row e.tag e.contents.now (ahead t)) → (n : ℕ) (o : Option Element) → IsNth g.behind (offset t) n o → IsNth row (offset s) (suc n) o
nth_behind d row s e t p g n (Some x) h = (h.0 ∙ ap written (sym (g.after n)), omega (arith, h.1, g.later n, p.on, ap length e.is))
nth_behind d row s e t p g n None h = g.after n ∙ h

given_nth : (d : ℕ) (xs : List Element) (row : Row) (s t u : Cursor) → Reads d longest (ahead s) row → Yields NextElement s xs t → NextElement t None u → (n : ℕ) → IsNth row (offset s) n (slice_get xs n)
given_nth d [] row s t u h e last n = nth_none d row 0 n (offset s) t u (passed d [] row s t h e) last (omega arith)
given_nth d (x ∷ xs) row s t u h e last zero =
    let first = nth_some d row 0 (offset s) s x e.0 (passed d [] row s s h refl) e.1 in
    (first.is, first.there)
given_nth d (x ∷ xs) row s t u h e last (suc n) =
    let g = stepped d row s x e.0 h e.1 in
    nth_behind d row s x e.0 e.1 g n (slice_get xs n) (given_nth d xs g.behind e.0 t u g.reads e.2 last n)

pub cursor_gives : CursorGives
unfolding written
cursor_gives d row c end xs h ran =
    let (t, ys, last) = ran in
    let p = passed d xs row c t h ys in
    let none : p.left ≡ empty = stop d longest (ahead t) p.left p.reads (front_of (ahead t) last.1) in
    let gone : ahead t ≡ [] = sym p.reads.writing ∙ ap written none in
    record {
      each = given_nth d xs row c t end h ys last;
      whole = sym (given_joined xs c t ys ∙ ap (λ l. flat_map (λ e. e.whole.now) xs ++ l) gone ∙ append-nil (flat_map (λ e. e.whole.now) xs));
    }
