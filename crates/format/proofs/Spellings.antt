-- Of all spellings of a row only the written one reads.
use Rattle.std.proofs.Common.{◌≡◌, ℕ, ◌/◌, ◌%◌, ◌≤◌, true, List, ◌∷◌, ◌++◌, length, sym, refl, ap, ◌∙◌, subst, ⊎_elim, arith}
use Rattle.std.proofs.lemmas.Bool.{cases_lt}
use Rattle.format.specs.Elements.{Row, empty, primitive, constructed, greatest_length, written_length, framed, written, well_formed, Reads}
use Rattle.format.specs.Spelled.{SpelledLength, itself, one_byte, two_bytes, Spelled, no_elements, a_primitive, a_constructed}
use Rattle.format.specs.Promise.{WrittenOnce}
use Rattle.format.proofs.Fronts.{framed_is, front_length_of}
use Rattle.format.proofs.Lengths.{short, middle, long, Shape, is_short, is_middle, is_long, shape}
use Rattle.format.proofs.Readings.{unique}
use Rattle.format.proofs.Rows.{Goes_on, primitive_parts, constructed_parts, as_primitive, as_constructed, goes_on, has_front}

-- a spelling of a length that is the front of the same bytes as a written length is that one
same_shape : (n k : ℕ) (s t x y : List ℕ) → SpelledLength n s → Shape k t → s ++ x ≡ t ++ y → (s ≡ t) × (n ≡ k) × (x ≡ y)
same_shape n k s t x y (itself h) (is_short g) e = (cc, cc, cc)
same_shape n k s t x y (itself h) (is_middle g g') e = let z : n ≡ 129 = cc in absurd (omega arith)
same_shape n k s t x y (itself h) (is_long g) e = let z : n ≡ 130 = cc in absurd (omega arith)
same_shape n k s t x y (one_byte h) (is_short g) e = let z : k ≡ 129 = cc in absurd (omega arith)
same_shape n k s t x y (one_byte h) (is_middle g g') e = (cc, cc, cc)
same_shape n k s t x y (one_byte h) (is_long g) e = let z : ◌≡◌ {A = ℕ} 129 130 = cc in absurd (omega arith)
same_shape n k s t x y (two_bytes h) (is_short g) e = let z : k ≡ 130 = cc in absurd (omega arith)
same_shape n k s t x y (two_bytes h) (is_middle g g') e = let z : ◌≡◌ {A = ℕ} 129 130 = cc in absurd (omega arith)
same_shape n k s t x y (two_bytes h) (is_long g) e =
    let q : n / 256 ≡ k / 256 = cc in
    let r : n % 256 ≡ k % 256 = cc in
    (cc, omega arith, cc)

same_length : (n k : ℕ) (s x y : List ℕ) → SpelledLength n s → s ++ x ≡ written_length k ++ y → (s ≡ written_length k) × (n ≡ k) × (x ≡ y)
same_length n k s x y h e = same_shape n k s (written_length k) x y h (shape k) e

-- the written length is a spelling
length_spelled : (n : ℕ) → n ≤ greatest_length → SpelledLength n (written_length n)
length_spelled n h =
    ⊎_elim (λ l. subst (SpelledLength n) (sym (short n l)) (itself l))
    (λ l. ⊎_elim (λ k. subst (SpelledLength n) (sym (middle n l k)) (one_byte k)) (λ k. subst (SpelledLength n) (sym (long n k)) (two_bytes h)) (cases_lt n 256)) (cases_lt n 128)

-- what is written is a spelling
row_spelled : (row : Row) (d m : ℕ) → m ≤ greatest_length → well_formed d m row ≡ true → Spelled row (written row)
unfolding written
row_spelled empty d m h w = no_elements
row_spelled (primitive t c r) d m h w =
    let p = primitive_parts d m t c r w in
    subst (Spelled (primitive t c r)) (sym (framed_is t c (written r))) (a_primitive (length_spelled (length c) (omega (arith, p.fits))) (row_spelled r d m h p.rest))
row_spelled (constructed t q r) d m h w =
    let p = constructed_parts d m t q r w in
    subst (Spelled (constructed t q r)) (sym (framed_is t (written q) (written r)))
    (a_constructed (length_spelled (length (written q)) (omega (arith, p.fits))) (row_spelled q p.less m h p.within) (row_spelled r d m h p.rest))

-- an element, its length spelled in any way, that begins bytes that read as a row
record First (d m t : ℕ) (c r len : List ℕ) : Type 0 where
  is : t ∷ (len ++ (c ++ r)) ≡ framed t c ++ r
  goes : Goes_on d m t c r

first : (d m t : ℕ) (c r len : List ℕ) (other : Row) → SpelledLength (length c) len → Reads d m (t ∷ (len ++ (c ++ r))) other → First d m t c r len
first d m t c r len other s h =
    let f = has_front d m (t ∷ (len ++ (c ++ r))) other h (omega arith) in
    let l = same_length (length c) (length f.contents) len (c ++ r) (f.contents ++ f.behind) s (front_length_of m t (len ++ (c ++ r)) f) in
    let fewest : len ≡ written_length (length c) = l.0 ∙ ap written_length (sym l.1) in
    let e = ap (λ x. t ∷ (x ++ (c ++ r))) fewest ∙ sym (framed_is t c r) in
    record { is = e; goes = goes_on d m (t ∷ (len ++ (c ++ r))) other h t c r e }

-- a spelling that reads is the written one
reads_written : (row : Row) (b : List ℕ) → Spelled row b → (d m : ℕ) (other : Row) → well_formed d m row ≡ true → Reads d m b other → b ≡ written row
unfolding written
reads_written row b no_elements d m other w h = refl
reads_written row b (a_primitive {t = t} {c = c} {r = r} {len = len} {rest = rest} l s) d m other w h =
    let f = first d m t c rest len other l h in
    let p = primitive_parts d m t c r w in
    elim f.goes [
      | as_primitive x y z next k ↦ f.is ∙ ap (λ v. framed t c ++ v) (reads_written r rest s d m next p.rest k)
      | as_constructed less x y z v q k next g ↦ absurd (omega (arith, p.low))
    ]
reads_written row b (a_constructed {t = t} {q = q} {r = r} {len = len} {inner = inner} {rest = rest} l within s) d m other w h =
    let f = first d m t inner rest len other l h in
    let p = constructed_parts d m t q r w in
    elim f.goes [
      | as_primitive x y z next k ↦ absurd (omega (arith, p.high))
      | as_constructed less x y z v other_inner k next g ↦
          let same : p.less ≡ less = omega (arith, p.deeper) in
          let deeper = reads_written q inner within less m other_inner (subst (λ n. well_formed n m q ≡ true) same p.within) k in
          f.is ∙ ap (λ v. framed t v ++ rest) deeper ∙ ap (λ v. framed t (written q) ++ v) (reads_written r rest s d m next p.rest g)
    ]

pub written_once : WrittenOnce
written_once d m row w = record {
  spelled = λ limit. row_spelled row d m limit w;
  reads = record { well = w; writing = refl };
  no_other = λ b h. sym h.writing;
  only = λ b other s h. let e = reads_written row b s d m other w h in (e, unique other row d d m m h.well w (h.writing ∙ e));
  apart = λ other v e. unique other row d d m m v w e;
}
