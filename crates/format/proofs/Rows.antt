-- What a well-formed row is made of, and how a reading goes on after the first element.
use Rattle.std.proofs.Common.{◌≡◌, ℕ, zero, suc, ◌+◌, ◌<◌, ◌≤◌, true, ◌&&◌, ltb, leb, List, ◌++◌, length, sym, refl, ap, ◌∙◌, subst, arith, length-append}
use Rattle.std.proofs.lemmas.Bool.{false≢true, ltb-true, leb-true, lt-ltb, le-leb, and_parts, and_from}
use Rattle.format.specs.Elements.{first_constructed, Row, empty, primitive, constructed, written_length, framed, written, all_bytes, well_formed, Reads}
use Rattle.format.proofs.Fronts.{Front, same_front}
use Rattle.format.proofs.Lengths.{written_some}

pub record PrimitiveParts (d m t : ℕ) (c : List ℕ) (r : Row) : Type 0 where
  pub low : t < first_constructed
  pub bytes : all_bytes c ≡ true
  pub fits : length c ≤ m
  pub rest : well_formed d m r ≡ true

pub primitive_parts : (d m t : ℕ) (c : List ℕ) (r : Row) → well_formed d m (primitive t c r) ≡ true → PrimitiveParts d m t c r
unfolding well_formed
primitive_parts d m t c r w =
    let a = and_parts (ltb t first_constructed) (all_bytes c && (leb (length c) m && well_formed d m r)) w in
    let b = and_parts (all_bytes c) (leb (length c) m && well_formed d m r) a.1 in
    let e = and_parts (leb (length c) m) (well_formed d m r) b.1 in
    record { low = ltb-true t first_constructed a.0; bytes = b.0; fits = leb-true (length c) m e.0; rest = e.1 }

pub primitive_from : (d m t : ℕ) (c : List ℕ) (r : Row) → PrimitiveParts d m t c r → well_formed d m (primitive t c r) ≡ true
unfolding well_formed
primitive_from d m t c r p =
    and_from (ltb t first_constructed) (all_bytes c && (leb (length c) m && well_formed d m r)) (lt-ltb t first_constructed p.low)
    (and_from (all_bytes c) (leb (length c) m && well_formed d m r) p.bytes (and_from (leb (length c) m) (well_formed d m r) (le-leb (length c) m p.fits) p.rest))

-- less is the depth that is left within
pub record ConstructedParts (d m t : ℕ) (q r : Row) : Type 0 where
  pub less : ℕ
  pub deeper : d ≡ suc less
  pub high : first_constructed ≤ t
  pub byte : t < 256
  pub fits : length (written q) ≤ m
  pub within : well_formed less m q ≡ true
  pub rest : well_formed d m r ≡ true

pub constructed_parts : (d m t : ℕ) (q r : Row) → well_formed d m (constructed t q r) ≡ true → ConstructedParts d m t q r
unfolding well_formed
constructed_parts zero m t q r w = absurd (false≢true w)
constructed_parts (suc d) m t q r w =
    let a = and_parts (leb first_constructed t) (ltb t 256 && (leb (length (written q)) m && (well_formed d m q && well_formed (suc d) m r))) w in
    let b = and_parts (ltb t 256) (leb (length (written q)) m && (well_formed d m q && well_formed (suc d) m r)) a.1 in
    let e = and_parts (leb (length (written q)) m) (well_formed d m q && well_formed (suc d) m r) b.1 in
    let f = and_parts (well_formed d m q) (well_formed (suc d) m r) e.1 in
    record { less = d; deeper = refl; high = leb-true first_constructed t a.0; byte = ltb-true t 256 b.0; fits = leb-true (length (written q)) m e.0; within = f.0; rest = f.1 }

pub constructed_from : (d m t : ℕ) (q r : Row) → first_constructed ≤ t → t < 256 → length (written q) ≤ m → well_formed d m q ≡ true → well_formed (suc d) m r ≡ true → well_formed (suc d) m (constructed t q r) ≡ true
unfolding well_formed
constructed_from d m t q r high byte fits within rest =
    and_from (leb first_constructed t) (ltb t 256 && (leb (length (written q)) m && (well_formed d m q && well_formed (suc d) m r))) (le-leb first_constructed t high)
    (and_from (ltb t 256) (leb (length (written q)) m && (well_formed d m q && well_formed (suc d) m r)) (lt-ltb t 256 byte)
    (and_from (leb (length (written q)) m) (well_formed d m q && well_formed (suc d) m r) (le-leb (length (written q)) m fits) (and_from (well_formed d m q) (well_formed (suc d) m r) within rest)))

-- an element takes two bytes and its contents at least
pub framed_size : (t : ℕ) (c r : List ℕ) → 2 + length c + length r ≤ length (framed t c ++ r)
unfolding framed
framed_size t c r = omega (arith, length-append (written_length (length c) ++ c) r, length-append (written_length (length c)) c, written_some (length c))

-- a reading of bytes that begin with an element: what the element is, and a reading of the rest
pub data Goes_on (d m t : ℕ) (c r : List ℕ) : Type 0 where
  as_primitive : t < first_constructed → all_bytes c ≡ true → length c ≤ m → (rest : Row) → Reads d m r rest → Goes_on d m t c r
  as_constructed : (less : ℕ) → d ≡ suc less → first_constructed ≤ t → t < 256 → length c ≤ m → (q : Row) → Reads less m c q → (rest : Row) → Reads d m r rest → Goes_on d m t c r

pub goes_on : (d m : ℕ) (b : List ℕ) (row : Row) → Reads d m b row → (t : ℕ) (c r : List ℕ) → b ≡ framed t c ++ r → Goes_on d m t c r
unfolding written
goes_on d m b empty h t c r e = absurd (omega (arith, framed_size t c r, ap length (h.writing ∙ e)))
goes_on d m b (primitive u x rest) h t c r e =
    let s = same_front u t x c (written rest) r (h.writing ∙ e) in
    let p = primitive_parts d m u x rest h.well in
    as_primitive (omega (arith, s.0, p.low)) (subst (λ l. all_bytes l ≡ true) s.1 p.bytes) (subst (λ (l : List ℕ). length l ≤ m) s.1 p.fits) rest (record { well = p.rest; writing = s.2 })
goes_on d m b (constructed u q rest) h t c r e =
    let s = same_front u t (written q) c (written rest) r (h.writing ∙ e) in
    let p = constructed_parts d m u q rest h.well in
    as_constructed p.less p.deeper (omega (arith, s.0, p.high)) (omega (arith, s.0, p.byte)) (subst (λ (l : List ℕ). length l ≤ m) s.1 p.fits) q (record { well = p.within; writing = s.1 }) rest (record { well = p.rest; writing = s.2 })

-- bytes that read as a row begin with an element, unless there are none
pub has_front : (d m : ℕ) (b : List ℕ) (row : Row) → Reads d m b row → 0 < length b → Front m b
unfolding written
has_front d m b empty h some = absurd (omega (arith, ap length h.writing))
has_front d m b (primitive t c r) h some = record { tag = t; contents = c; behind = written r; fits = (primitive_parts d m t c r h.well).fits; is = sym h.writing }
has_front d m b (constructed t q r) h some = record { tag = t; contents = written q; behind = written r; fits = (constructed_parts d m t q r h.well).fits; is = sym h.writing }
