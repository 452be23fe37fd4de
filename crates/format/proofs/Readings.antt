-- One reading: what bytes read as is unique, whether they read as a row is decided, and how a reader goes from element to element.
use Rattle.std.proofs.Common.{◌≡◌, ℕ, zero, suc, ◌+◌, ◌<◌, ◌≤◌, Bool, true, false, ◌⊎◌, List, [], ◌∷◌, ◌++◌, length, sym, refl, ap, ◌∙◌, subst, inl, inr, ⊎_elim, append-nil, arith}
use Rattle.std.proofs.lemmas.Bool.{cases_lt, cases_Bool, both_ways, false≢true}
use Rattle.std.proofs.lemmas.List.{nil_from_length}
use Rattle.format.specs.Elements.{first_constructed, Row, empty, primitive, constructed, framed, written, all_bytes, well_formed, Reads, Readable}
use Rattle.format.specs.Promise.{OneReading, SameFront, single}
use Rattle.format.proofs.Fronts.{Front, front, same_front}
use Rattle.format.proofs.Rows.{primitive_parts, primitive_from, constructed_parts, constructed_from, framed_size, as_primitive, as_constructed, goes_on, has_front}

-- two well-formed rows that are written the same are the same
pub unique : (row other : Row) (d e m n : ℕ) → well_formed d m row ≡ true → well_formed e n other ≡ true → written row ≡ written other → row ≡ other
unfolding written
unique empty empty d e m n v w h = refl
unique empty (primitive u x s) d e m n v w h = absurd (omega (arith, framed_size u x (written s), ap length h))
unique empty (constructed u p s) d e m n v w h = absurd (omega (arith, framed_size u (written p) (written s), ap length h))
unique (primitive t c r) empty d e m n v w h = absurd (omega (arith, framed_size t c (written r), ap length h))
unique (primitive t c r) (primitive u x s) d e m n v w h =
    let f = same_front t u c x (written r) (written s) h in
    let g = unique r s d e m n (primitive_parts d m t c r v).rest (primitive_parts e n u x s w).rest f.2 in
    let tags = f.0 in
    let contents = f.1 in
    cc
unique (primitive t c r) (constructed u p s) d e m n v w h =
    absurd (omega (arith, (same_front t u c (written p) (written r) (written s) h).0, (primitive_parts d m t c r v).low, (constructed_parts e n u p s w).high))
unique (constructed t q r) empty d e m n v w h = absurd (omega (arith, framed_size t (written q) (written r), ap length h))
unique (constructed t q r) (primitive u x s) d e m n v w h =
    absurd (omega (arith, (same_front t u (written q) x (written r) (written s) h).0, (constructed_parts d m t q r v).high, (primitive_parts e n u x s w).low))
unique (constructed t q r) (constructed u p s) d e m n v w h =
    let f = same_front t u (written q) (written p) (written r) (written s) h in
    let a = constructed_parts d m t q r v in
    let b = constructed_parts e n u p s w in
    let g = unique r s d e m n a.rest b.rest f.2 in
    let k = unique q p a.less b.less m n a.within b.within f.1 in
    let tags = f.0 in
    cc

-- no bytes read as no elements
pub reads_none : (d m : ℕ) → Reads d m [] empty
unfolding written well_formed
reads_none d m = record { well = refl; writing = refl }

pub readable_none : (d m : ℕ) → Readable d m [] true
readable_none d m = (empty, reads_none d m)

-- behind a primitive element the rest decides
pub after_primitive : (d m t : ℕ) (c r b : List ℕ) → t < first_constructed → all_bytes c ≡ true → length c ≤ m → b ≡ framed t c ++ r → (v : Bool) → Readable d m r v → Readable d m b v
unfolding written
after_primitive d m t c r b low bytes fits e true h = (
  primitive t c h.0,
  record { well = primitive_from d m t c h.0 (record { low = low; bytes = bytes; fits = fits; rest = h.1.well }); writing = ap (λ l. framed t c ++ l) h.1.writing ∙ sym e },
)
after_primitive d m t c r b low bytes fits e false h = λ row reads.
    elim (goes_on d m b row reads t c r e) [ as_primitive x y z rest k ↦ h rest k | as_constructed less x y z w q k rest l ↦ absurd (omega arith) ]

-- behind a constructed element whose contents read as a row the rest decides
pub after_constructed : (d m t : ℕ) (c r b : List ℕ) → first_constructed ≤ t → t < 256 → length c ≤ m → b ≡ framed t c ++ r → Readable d m c true → (v : Bool) → Readable (suc d) m r v → Readable (suc d) m b v
unfolding written
after_constructed d m t c r b high byte fits e inner true h =
    let q = inner.0 in
    let w = inner.1.writing in (
      constructed t q h.0,
      record {
        well = constructed_from d m t q h.0 high byte (subst (λ (l : List ℕ). length l ≤ m) (sym w) fits) inner.1.well h.1.well;
        writing = ap (λ l. framed t l ++ written h.0) w ∙ ap (λ l. framed t c ++ l) h.1.writing ∙ sym e;
      },
    )
after_constructed d m t c r b high byte fits e inner false h = λ row reads.
    elim (goes_on (suc d) m b row reads t c r e) [ as_primitive x y z rest k ↦ absurd (omega arith) | as_constructed less x y z w q k rest l ↦ h rest l ]

-- a constructed element whose contents do not read as a row
pub contents_malformed : (d m t : ℕ) (c r b : List ℕ) → first_constructed ≤ t → b ≡ framed t c ++ r → Readable d m c false → Readable (suc d) m b false
contents_malformed d m t c r b high e h = λ row reads.
    elim (goes_on (suc d) m b row reads t c r e) [ as_primitive x y z rest k ↦ absurd (omega arith) | as_constructed less x y z w q k rest l ↦ let same : less ≡ d = omega arith in h q (subst (λ n. Reads n m c q) same k) ]

-- a constructed element where none may stand
pub too_deep : (m t : ℕ) (c r b : List ℕ) → first_constructed ≤ t → b ≡ framed t c ++ r → Readable zero m b false
too_deep m t c r b high e = λ row reads.
    elim (goes_on zero m b row reads t c r e) [ as_primitive x y z rest k ↦ absurd (omega arith) | as_constructed less x y z w q k rest l ↦ absurd (omega arith) ]

-- bytes that begin with no element
pub no_front : (d m : ℕ) (b : List ℕ) → 0 < length b → (Front m b → ⊥) → Readable d m b false
no_front d m b some none = λ row reads. none (has_front d m b row reads some)

tag_or_contents : (d m t : ℕ) (c r b : List ℕ) → b ≡ framed t c ++ r → (256 ≤ t) ⊎ ((t < first_constructed) × (all_bytes c ≡ false)) → Readable d m b false
tag_or_contents d m t c r b e f = λ row reads.
    elim (goes_on d m b row reads t c r e) [ as_primitive x y z rest k ↦ ⊎_elim (λ g. omega arith) (λ g. both_ways (all_bytes c) g.1 y) f | as_constructed less x y z w q k rest l ↦ ⊎_elim (λ g. omega arith) (λ g. omega (arith, g.0)) f ]

-- what a constructed element makes of the bytes, once its contents and what is behind it are decided
decide_constructed : (d m : ℕ) (b : List ℕ) (f : Front m b) → first_constructed ≤ f.tag → f.tag < 256 → ((e : ℕ) → (v : Bool) × Readable e m f.contents v) → (v : Bool) × Readable d m f.behind v → (v : Bool) × Readable d m b v
decide_constructed zero m b f high byte inner rest = (false, too_deep m f.tag f.contents f.behind b high f.is)
decide_constructed (suc d) m b f high byte inner rest = go (inner d).0 (inner d).1
  where
    go : (v : Bool) → Readable d m f.contents v → (v : Bool) × Readable (suc d) m b v
    go true h = (rest.0, after_constructed d m f.tag f.contents f.behind b high byte f.fits f.is h rest.0 rest.1)
    go false h = (false, contents_malformed d m f.tag f.contents f.behind b high f.is h)

decide_first : (d m : ℕ) (b : List ℕ) (f : Front m b) → ((e : ℕ) → (v : Bool) × Readable e m f.contents v) → (v : Bool) × Readable d m f.behind v → (v : Bool) × Readable d m b v
decide_first d m b f inner rest =
    ⊎_elim
    (λ low. ⊎_elim (λ y. (rest.0, after_primitive d m f.tag f.contents f.behind b low y f.fits f.is rest.0 rest.1)) (λ n. (false, tag_or_contents d m f.tag f.contents f.behind b f.is (inr (low, n)))) (cases_Bool (all_bytes f.contents)))
    (λ high. ⊎_elim (λ byte. decide_constructed d m b f high byte inner rest) (λ big. (false, tag_or_contents d m f.tag f.contents f.behind b f.is (inl big))) (cases_lt f.tag 256))
    (cases_lt f.tag first_constructed)

front_size : (m : ℕ) (b : List ℕ) (f : Front m b) → length f.contents + length f.behind < length b
front_size m b f = omega (arith, ap length f.is, framed_size f.tag f.contents f.behind)

-- whether bytes read as a row is decided
decide : (fuel d m : ℕ) (b : List ℕ) → length b ≤ fuel → (v : Bool) × Readable d m b v
decide zero d m b h = (true, subst (λ l. Readable d m l true) (sym (nil_from_length b (omega arith))) (readable_none d m))
decide (suc k) d m [] h = (true, readable_none d m)
decide (suc k) d m (x ∷ xs) h =
    ⊎_elim
    (λ f. decide_first d m (x ∷ xs) f (λ e. decide k e m f.contents (omega (arith, front_size m (x ∷ xs) f))) (decide k d m f.behind (omega (arith, front_size m (x ∷ xs) f))))
    (λ f. (false, no_front d m (x ∷ xs) (omega arith) f))
    (front m (x ∷ xs))

pub same_reading : (d m : ℕ) (b : List ℕ) (row other : Row) → Reads d m b row → Reads d m b other → other ≡ row
same_reading d m b row other h g = unique other row d d m m g.well h.well (g.writing ∙ sym h.writing)

pub one_reading : OneReading
one_reading d m b = go (decide (length b) d m b le).0 (decide (length b) d m b le).1
  where
    le : length b ≤ length b
    le = omega arith

    go : (v : Bool) → Readable d m b v → ((row : Row) × Reads d m b row × ((other : Row) → Reads d m b other → other ≡ row)) ⊎ ((row : Row) → Reads d m b row → ⊥)
    go true h = inl (h.0, h.1, λ other g. same_reading d m b h.0 other h.1 g)
    go false h = inr h

-- a single element is a tag with contents
single_framed : (a : Row) → single a ≡ true → (t : ℕ) × (c : List ℕ) × (written a ≡ framed t c)
unfolding written
single_framed empty h = absurd (false≢true h)
single_framed (primitive t c empty) h = (t, c, append-nil (framed t c))
single_framed (primitive t c (primitive u e r)) h = absurd (false≢true h)
single_framed (primitive t c (constructed u e r)) h = absurd (false≢true h)
single_framed (constructed t q empty) h = (t, written q, append-nil (framed t (written q)))
single_framed (constructed t q (primitive u e r)) h = absurd (false≢true h)
single_framed (constructed t q (constructed u e r)) h = absurd (false≢true h)

pub same_element : SameFront
same_element d m a b u v sa sb wa wb e =
    let (t, c, fa) = single_framed a sa in
    let (k, x, fb) = single_framed b sb in
    let s = same_front t k c x u v (ap (λ l. l ++ u) (sym fa) ∙ e ∙ ap (λ l. l ++ v) fb) in
    (unique a b d d m m wa wb (fa ∙ (λ i. framed (s.0 i) (s.1 i)) ∙ sym fb), s.2)
