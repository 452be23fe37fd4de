-- Wider limits read what narrower ones take, and the samples.
use Rattle.std.proofs.Common.{◌≡◌, ℕ, zero, suc, ◌≤◌, true, List, [], ◌∷◌, ◌++◌, length, refl, arith}
use Rattle.format.specs.Elements.{Row, empty, primitive, constructed, framed, written, all_bytes, well_formed}
use Rattle.format.specs.Spelled.{one_byte, no_elements, a_primitive}
use Rattle.format.specs.Promise.{Wider, SamplesAt, Samples}
use Rattle.format.proofs.Fronts.{front_length_of, front_says}
use Rattle.format.proofs.Lengths.{begins}
use Rattle.format.proofs.Rows.{primitive_parts, primitive_from, constructed_parts, constructed_from, has_front}
use Rattle.format.proofs.Readings.{reads_none}

well_wider : (row : Row) (d e m n : ℕ) → d ≤ e → m ≤ n → well_formed d m row ≡ true → well_formed e n row ≡ true
unfolding well_formed
well_wider empty d e m n h k w = refl
well_wider (primitive t c r) d e m n h k w =
    let p = primitive_parts d m t c r w in
    primitive_from e n t c r (record { low = p.low; bytes = p.bytes; fits = omega (arith, p.fits); rest = well_wider r d e m n h k p.rest })
well_wider (constructed t q r) d zero m n h k w = absurd (omega (arith, (constructed_parts d m t q r w).deeper))
well_wider (constructed t q r) d (suc e) m n h k w =
    let p = constructed_parts d m t q r w in
    constructed_from e n t q r p.high p.byte (omega (arith, p.fits)) (well_wider q p.less e m n (omega (arith, p.deeper)) k p.within) (well_wider r d (suc e) m n h k p.rest)

pub wider : Wider
wider d e m n b row h k r = record { well = well_wider row d e m n h k r.well; writing = r.writing }

samples_at : (d m : ℕ) → 1 ≤ d → 5 ≤ m → SamplesAt d m
unfolding written well_formed framed all_bytes
samples_at d m deep room = record {
  two = wider 1 d 5 m two_bytes two_row deep room (record { well = refl; writing = refl });
  longer = a_primitive (one_byte (omega arith)) no_elements;
  longer_unread = λ row r. let f = has_front d m (5 ∷ 129 ∷ 2 ∷ 7 ∷ 8 ∷ []) row r (omega arith) in omega (arith, (begins (129 ∷ 2 ∷ 7 ∷ 8 ∷ []) (length f.contents) (f.contents ++ f.behind) (front_length_of m 5 (129 ∷ 2 ∷ 7 ∷ 8 ∷ []) f)).form);
  cut = λ row r. omega (arith, (front_says m 5 3 (7 ∷ 8 ∷ []) (has_front d m (5 ∷ 3 ∷ 7 ∷ 8 ∷ []) row r (omega arith))).1);
  nothing = reads_none d m;
}
  where
    two_bytes : List ℕ
    two_bytes = 128 ∷ 5 ∷ 1 ∷ 1 ∷ 65 ∷ 2 ∷ 0 ∷ 5 ∷ 2 ∷ 7 ∷ 8 ∷ []

    two_row : Row
    two_row = constructed 128 (primitive 1 (65 ∷ []) (primitive 2 [] empty)) (primitive 5 (7 ∷ 8 ∷ []) empty)

pub samples : Samples
samples d m deep room = samples_at d m deep room
