-- Where the elements of a row stand in its bytes.
use Rattle.std.proofs.Common.{◌≡◌, ℕ, zero, suc, ◌+◌, ◌<◌, ◌≤◌, List, [], ◌∷◌, ◌++◌, length, take, drop, sym, refl, ap, ◌∙◌, subst, ⊎_elim, append_assoc, append-nil, one-add, arith, length-append, drop-drop, take_at, drop_at}
use lib.Seq.{drop-append-add}
use Rattle.std.proofs.lemmas.Bool.{cases_order}
use Rattle.format.specs.Elements.{Row, empty, primitive, constructed, written_length, framed, written}
use Rattle.format.specs.Paths.{nth, inside, at_path, before, inner_start, place}
use Rattle.format.specs.Promise.{PartOfBytes, OnePath}
use Rattle.format.proofs.Fronts.{framed_is}
use Rattle.format.proofs.Rows.{framed_size}

-- behind a first part of a given size
drop_behind : (x y : List ℕ) (n : ℕ) → drop (length x + n) (x ++ y) ≡ drop n y
drop_behind x y n = drop-append-add x y n

-- from the place of an element with a number on: the element, and something behind it
nth_there : (row : Row) (n : ℕ) (x : List ℕ) → (r : List ℕ) × (drop (before row n) (written row ++ x) ≡ written (nth row n) ++ r)
unfolding written nth before
nth_there empty n x = (x, refl)
nth_there (primitive t c r) zero x = (written r ++ x, append_assoc (framed t c) (written r) x ∙ ap (λ l. l ++ (written r ++ x)) (sym (append-nil (framed t c))))
nth_there (primitive t c r) (suc n) x =
    let h = nth_there r n x in
    (h.0, ap (drop (length (framed t c) + before r n)) (append_assoc (framed t c) (written r) x) ∙ drop_behind (framed t c) (written r ++ x) (before r n) ∙ h.1)
nth_there (constructed t q r) zero x = (written r ++ x, append_assoc (framed t (written q)) (written r) x ∙ ap (λ l. l ++ (written r ++ x)) (sym (append-nil (framed t (written q)))))
nth_there (constructed t q r) (suc n) x =
    let h = nth_there r n x in
    (h.0, ap (drop (length (framed t (written q)) + before r n)) (append_assoc (framed t (written q)) (written r) x) ∙ drop_behind (framed t (written q)) (written r ++ x) (before r n) ∙ h.1)

-- behind the tag and the length of an element: its contents, and what is behind it
pub behind_header : (t : ℕ) (c x : List ℕ) → drop (1 + length (written_length (length c))) (framed t c ++ x) ≡ c ++ x
behind_header t c x =
    let k = length (written_length (length c)) in
    ap (drop (1 + k)) (framed_is t c x) ∙ ap (λ n. drop n (t ∷ (written_length (length c) ++ (c ++ x)))) (one-add k) ∙ drop_at (written_length (length c)) (c ++ x) k refl

-- behind the header of a single element: the row within, and something behind it
inside_there : (row : Row) (n : ℕ) (x : List ℕ) → (r : List ℕ) × (drop (inner_start (nth row n)) (written (nth row n) ++ x) ≡ written (inside (nth row n)) ++ r)
unfolding written nth inside inner_start
inside_there empty n x = (x, refl)
inside_there (primitive t c r) zero x = (written (primitive t c empty) ++ x, refl)
inside_there (primitive t c r) (suc n) x = inside_there r n x
inside_there (constructed t q r) zero x = (x, ap (λ l. drop (1 + length (written_length (length (written q)))) (l ++ x)) (append-nil (framed t (written q))) ∙ behind_header t (written q) x)
inside_there (constructed t q r) (suc n) x = inside_there r n x

-- from the place of an element by a path on: the element, and something behind it
part_there : (path : List ℕ) (row : Row) (x : List ℕ) → (r : List ℕ) × (drop (place row path) (written row ++ x) ≡ written (at_path row path) ++ r)
unfolding at_path place written
part_there [] row x = (written row ++ x, refl)
part_there (n ∷ []) row x = nth_there row n x
part_there (n ∷ (k ∷ path)) row x =
    let a = nth_there row n x in
    let b = inside_there row n a.0 in
    let h = part_there (k ∷ path) (inside (nth row n)) b.0 in
    let deeper = inner_start (nth row n) + place (inside (nth row n)) (k ∷ path) in (
      h.0,
      sym (drop-drop deeper (before row n) (written row ++ x)) ∙ ap (drop deeper) a.1 ∙ sym (drop-drop (place (inside (nth row n)) (k ∷ path)) (inner_start (nth row n)) (written (nth row n) ++ a.0)) ∙ ap (drop (place (inside (nth row n)) (k ∷ path))) b.1 ∙ h.1,
    )

pub part_of_bytes : PartOfBytes
part_of_bytes d m b row path h =
    let p = part_there path row [] in
    let w = written (at_path row path) in
    ap (λ l. take (length w) (drop (place row path) l)) (sym h.writing ∙ sym (append-nil (written row))) ∙ ap (take (length w)) p.1 ∙ take_at w p.0 (length w) refl

-- a row that is not empty takes two bytes at least
pub some_bytes : (row : Row) → (row ≡ empty → ⊥) → 2 ≤ length (written row)
unfolding written
some_bytes empty f = absurd (f refl)
some_bytes (primitive t c r) f = omega (arith, framed_size t c (written r))
some_bytes (constructed t q r) f = omega (arith, framed_size t (written q) (written r))

-- an element ends before the next ones begin
ends_before : (row : Row) (n m : ℕ) → n < m → before row n + length (written (nth row n)) ≤ before row m
unfolding written nth before
ends_before empty n m h = omega arith
ends_before (primitive t c r) n zero h = absurd (omega arith)
ends_before (primitive t c r) zero (suc m) h = omega (arith, length-append (framed t c) [])
ends_before (primitive t c r) (suc n) (suc m) h = omega (arith, ends_before r n m (omega arith))
ends_before (constructed t q r) n zero h = absurd (omega arith)
ends_before (constructed t q r) zero (suc m) h = omega (arith, length-append (framed t (written q)) [])
ends_before (constructed t q r) (suc n) (suc m) h = omega (arith, ends_before r n m (omega arith))

-- and within the row
ends_within : (row : Row) (n : ℕ) → before row n + length (written (nth row n)) ≤ length (written row)
unfolding written nth before
ends_within empty n = omega arith
ends_within (primitive t c r) zero = omega (arith, length-append (framed t c) [], length-append (framed t c) (written r))
ends_within (primitive t c r) (suc n) = omega (arith, ends_within r n, length-append (framed t c) (written r))
ends_within (constructed t q r) zero = omega (arith, length-append (framed t (written q)) [], length-append (framed t (written q)) (written r))
ends_within (constructed t q r) (suc n) = omega (arith, ends_within r n, length-append (framed t (written q)) (written r))

-- the row within an element ends where the element does
inside_within : (row : Row) (n : ℕ) → inner_start (nth row n) + length (written (inside (nth row n))) ≤ length (written (nth row n))
unfolding written nth inside inner_start framed
inside_within empty n = omega arith
inside_within (primitive t c r) zero = omega arith
inside_within (primitive t c r) (suc n) = inside_within r n
inside_within (constructed t q r) zero = omega (arith, length-append (framed t (written q)) [], length-append (written_length (length (written q))) (written q))
inside_within (constructed t q r) (suc n) = inside_within r n

-- a row within an element begins behind where the element does
inner_start_some : (row : Row) (n : ℕ) → (inside (nth row n) ≡ empty → ⊥) → 0 < inner_start (nth row n)
unfolding nth inside inner_start
inner_start_some empty n f = absurd (f refl)
inner_start_some (primitive t c r) zero f = absurd (f refl)
inner_start_some (primitive t c r) (suc n) f = inner_start_some r n f
inner_start_some (constructed t q r) zero f = omega arith
inner_start_some (constructed t q r) (suc n) f = inner_start_some r n f

-- nothing is within no elements
pub at_path_empty : (path : List ℕ) → at_path empty path ≡ empty
unfolding at_path nth inside
at_path_empty [] = refl
at_path_empty (n ∷ []) = refl
at_path_empty (n ∷ (k ∷ path)) = at_path_empty (k ∷ path)

at_path_some : (row : Row) (path : List ℕ) → (at_path row path ≡ empty → ⊥) → row ≡ empty → ⊥
at_path_some row path f e = f (ap (λ r. at_path r path) e ∙ at_path_empty path)

-- an element by a path stands within the element that the first number leads to
place_within : (path : List ℕ) (row : Row) (n : ℕ) → (at_path row (n ∷ path) ≡ empty → ⊥) → place row (n ∷ path) < before row n + length (written (nth row n))
unfolding at_path place
place_within [] row n f = omega (arith, some_bytes (nth row n) f)
place_within (k ∷ path) row n f =
    omega (arith, place_within path (inside (nth row n)) k f, ends_within (inside (nth row n)) k, inside_within row n)

place_from : (path : List ℕ) (row : Row) (n : ℕ) → before row n ≤ place row (n ∷ path)
unfolding place
place_from [] row n = omega arith
place_from (k ∷ path) row n = omega arith

-- the path to an element within comes later than the path to the element
place_deeper : (path : List ℕ) (row : Row) (n k : ℕ) → (at_path row (n ∷ (k ∷ path)) ≡ empty → ⊥) → place row (n ∷ []) < place row (n ∷ (k ∷ path))
unfolding at_path place
place_deeper path row n k f = omega (arith, inner_start_some row n (at_path_some (inside (nth row n)) (k ∷ path) f))

-- the elements of a row are apart
same_first : (p q : List ℕ) (row : Row) (n m : ℕ) → (at_path row (n ∷ p) ≡ empty → ⊥) → (at_path row (m ∷ q) ≡ empty → ⊥) → place row (n ∷ p) ≡ place row (m ∷ q) → m ≡ n
same_first p q row n m f g e =
    ⊎_elim (λ s. s)
    (λ d. ⊎_elim (λ l. absurd (omega (arith, place_within q row m g, ends_before row m n l, place_from p row n))) (λ l. absurd (omega (arith, place_within p row n f, ends_before row n m l, place_from q row m))) d)
    (cases_order m n)

same_path : (p q : List ℕ) (row : Row) (n m : ℕ) → (at_path row (n ∷ p) ≡ empty → ⊥) → (at_path row (m ∷ q) ≡ empty → ⊥) → place row (n ∷ p) ≡ place row (m ∷ q) → n ∷ p ≡ m ∷ q
unfolding at_path place
same_path [] [] row n m f g e = let s = same_first [] [] row n m f g e in cc
same_path [] (k ∷ q) row n m f g e = let s = same_first [] (k ∷ q) row n m f g e in absurd (omega (arith, place_deeper q row m k g, ap (before row) s))
same_path (k ∷ p) [] row n m f g e = let s = same_first (k ∷ p) [] row n m f g e in absurd (omega (arith, place_deeper p row n k f, ap (before row) s))
same_path (k ∷ p) (l ∷ q) row n m f g e =
    let s = same_first (k ∷ p) (l ∷ q) row n m f g e in
    let within = λ (i : ℕ). inside (nth row i) in
    let there = λ (i : ℕ). place (inside (nth row i)) (l ∷ q) in
    let h = same_path p q (inside (nth row n)) k l f (subst (λ i. at_path (within i) (l ∷ q) ≡ empty → ⊥) s g) (omega (arith, ap (before row) s, ap (λ i. inner_start (nth row i)) s, ap there s)) in
    cc

pub one_path : OnePath
unfolding at_path
one_path row [] q f g e = absurd (f refl)
one_path row (n ∷ p) [] f g e = absurd (g refl)
one_path row (n ∷ p) (m ∷ q) f g e = same_path p q row n m f g e
