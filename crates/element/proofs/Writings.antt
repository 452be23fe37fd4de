-- What is written behind a row reads as an element behind it.
use Rattle.std.proofs.Common.{◌≡◌, ℕ, zero, suc, ◌≤◌, true, List, ◌++◌, length, sym, refl, ap, ◌∙◌, subst, append_assoc, append-nil, arith}
use Rattle.format.specs.Elements.{Row, empty, primitive, constructed, framed, written, well_formed}
use Rattle.format.proofs.Readings.{reads_none}
use Rattle.format.proofs.Rows.{primitive_parts, primitive_from, constructed_parts, constructed_from}
use Rattle.element.specs.Appended.{joined, AppendedReads}
use Rattle.element.specs.Limits.{longest}

written_joined : (a b : Row) → written (joined a b) ≡ written a ++ written b
unfolding written joined
written_joined empty b = refl
written_joined (primitive t c r) b = ap (λ l. framed t c ++ l) (written_joined r b) ∙ sym (append_assoc (framed t c) (written r) (written b))
written_joined (constructed t q r) b = ap (λ l. framed t (written q) ++ l) (written_joined r b) ∙ sym (append_assoc (framed t (written q)) (written r) (written b))

well_joined : (d m : ℕ) (a b : Row) → well_formed d m a ≡ true → well_formed d m b ≡ true → well_formed d m (joined a b) ≡ true
unfolding joined
well_joined d m empty b h k = k
well_joined d m (primitive t c r) b h k =
    let p = primitive_parts d m t c r h in
    primitive_from d m t c (joined r b) (record { low = p.low; bytes = p.bytes; fits = p.fits; rest = well_joined d m r b p.rest k })
well_joined zero m (constructed t q r) b h k = absurd (omega (arith, (constructed_parts zero m t q r h).deeper))
well_joined (suc d) m (constructed t q r) b h k =
    let p = constructed_parts (suc d) m t q r h in
    let less : p.less ≡ d = omega (arith, p.deeper) in
    constructed_from d m t q (joined r b) p.high p.byte p.fits (subst (λ e. well_formed e m q ≡ true) less p.within) (well_joined (suc d) m r b p.rest k)

pub appended_reads : AppendedReads
unfolding written
appended_reads = (
  λ d t c old new row bytes h a.
      let element = primitive_from d longest t c empty (record { low = a.0; bytes = bytes; fits = a.1; rest = (reads_none d longest).well }) in
      record { well = well_joined d longest row (primitive t c empty) h.well element; writing = written_joined row (primitive t c empty) ∙ (λ i. h.writing i ++ append-nil (framed t c) i) ∙ sym a.3 },
  λ d t c old new row q byte within h a.
      let element = constructed_from d longest t q empty a.0 byte (subst (λ (l : List ℕ). length l ≤ longest) (sym within.writing) a.1) within.well (reads_none (suc d) longest).well in
      record { well = well_joined (suc d) longest row (constructed t q empty) h.well element; writing = written_joined row (constructed t q empty) ∙ (λ i. h.writing i ++ append-nil (framed t (within.writing i)) i) ∙ sym a.3 },
)
