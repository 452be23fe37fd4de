-- How a walk along bytes follows the row that they read as.
use Rattle.std.proofs.Common.{◌≡◌, ℕ, suc, ◌+◌, ◌<◌, ◌≤◌, List, ◌++◌, length, sym, refl, ap, ◌∙◌, append-nil, arith, length-append}
use Rattle.format.specs.Elements.{first_constructed, Row, empty, primitive, constructed, written_length, framed, written, Reads}
use Rattle.format.specs.Paths.{nth, inside, before, inner_start}
use Rattle.format.proofs.Fronts.{Front, same_front}
use Rattle.format.proofs.Rows.{primitive_parts, constructed_parts, framed_size}

-- what stands within a constructed element, with less depth
pub record Within (d m : ℕ) (element : Row) (t : ℕ) (c : List ℕ) : Type 0 where
  pub less : ℕ
  pub reads : Reads less m c (inside element)
  pub size : inner_start element + length c ≡ length (framed t c)

-- a row whose bytes begin with an element: that one, and the row behind it
pub record Step (d m : ℕ) (row : Row) (t : ℕ) (c r : List ℕ) : Type 0 where
  pub behind : Row
  pub reads : Reads d m r behind
  pub after : (n : ℕ) → nth row (suc n) ≡ nth behind n
  pub later : (n : ℕ) → before row (suc n) ≡ length (framed t c) + before behind n
  pub some : nth row 0 ≡ empty → ⊥
  pub here : written (nth row 0) ≡ framed t c
  pub first : before row 0 ≡ 0
  pub plain : t < first_constructed → inside (nth row 0) ≡ empty
  pub within : first_constructed ≤ t → Within d m (nth row 0) t c

pub framed_length : (t : ℕ) (c : List ℕ) → 1 + length (written_length (length c)) + length c ≡ length (framed t c)
unfolding framed
framed_length t c = omega (arith, length-append (written_length (length c)) c)

pub step : (d m : ℕ) (b : List ℕ) (row : Row) → Reads d m b row → (t : ℕ) (c r : List ℕ) → b ≡ framed t c ++ r → Step d m row t c r
unfolding written nth before inside inner_start
step d m b empty h t c r e = absurd (omega (arith, framed_size t c r, ap length (h.writing ∙ e)))
step d m b (primitive u x rest) h t c r e =
    let s = same_front u t x c (written rest) r (h.writing ∙ e) in
    let p = primitive_parts d m u x rest h.well in
    let same : framed u x ≡ framed t c = λ i. framed (s.0 i) (s.1 i) in
    record {
      behind = rest;
      reads = record { well = p.rest; writing = s.2 };
      after = λ n. refl;
      later = λ n. ap (λ l. length l + before rest n) same;
      some = λ f. let z : ◌≡◌ {A = ℕ} 0 1 = cc in omega arith;
      here = append-nil (framed u x) ∙ same;
      first = refl;
      plain = λ l. refl;
      within = λ l. absurd (omega (arith, s.0, p.low));
    }
step d m b (constructed u q rest) h t c r e =
    let s = same_front u t (written q) c (written rest) r (h.writing ∙ e) in
    let p = constructed_parts d m u q rest h.well in
    let same : framed u (written q) ≡ framed t c = λ i. framed (s.0 i) (s.1 i) in
    record {
      behind = rest;
      reads = record { well = p.rest; writing = s.2 };
      after = λ n. refl;
      later = λ n. ap (λ l. length l + before rest n) same;
      some = λ f. let z : ◌≡◌ {A = ℕ} 0 1 = cc in omega arith;
      here = append-nil (framed u (written q)) ∙ same;
      first = refl;
      plain = λ l. absurd (omega (arith, s.0, p.high));
      within = λ l. record { less = p.less; reads = record { well = p.within; writing = s.1 }; size = ap (λ l. 1 + length (written_length (length l)) + length c) s.1 ∙ framed_length t c };
    }

-- bytes that begin with no element read as no elements
pub stop : (d m : ℕ) (b : List ℕ) (row : Row) → Reads d m b row → (Front m b → ⊥) → row ≡ empty
unfolding written
stop d m b empty h f = refl
stop d m b (primitive t c r) h f = absurd (f (record { tag = t; contents = c; behind = written r; fits = (primitive_parts d m t c r h.well).fits; is = sym h.writing }))
stop d m b (constructed t q r) h f = absurd (f (record { tag = t; contents = written q; behind = written r; fits = (constructed_parts d m t q r h.well).fits; is = sym h.writing }))
