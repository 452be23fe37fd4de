-- The one element that is a permit.
use Rattle.std.proofs.Common.{◌≡◌, ℕ, suc, ◌*◌, ◌^◌, ◌<◌, ◌≤◌, true, false, eqb, List, [], ◌∷◌, ◌++◌, length, get_or, Some, None, Option, sym, refl, ap, ◌∙◌, arith, length-append}
use Rattle.std.proofs.lemmas.List.{nil_from_length}
use Rattle.std.proofs.lemmas.Bool.{eqb-true, eqb-false}
use Rattle.format.specs.Elements.{framed, written}
use Rattle.format.proofs.Fronts.{same_front}
use Rattle.format.proofs.Lengths.{short}
use Rattle.trust.specs.Chains.{Certificate}
use Rattle.element.specs.declared.walking.Cursor.{Cursor}
use Rattle.element.specs.declared.walking.Element.{Element}
use Rattle.element.specs.Cursors.{ahead, Passes}
use Rattle.element.proofs.Walks.{split}
use Rattle.element.specs.Limits.{longest}
use Rattle.certificate.specs.declared.Certificate.{Certificate as CertificateFields}
use Rattle.certificate.specs.Numbers.{number_bytes}
use Rattle.certificate.specs.Permits.{fields_row, permit_row, permit_bytes, certificate_of, InRange, Permit, Decoded}
use Rattle.certificate.specs.inner.Fields.{AllFields}
use Rattle.certificate.proofs.Digits.{few_bytes}
use Rattle.certificate.proofs.Tails.{tagged, numbers_of, fields_are, below}

pub permit_is : (c : Certificate) → permit_bytes c ≡ framed 128 (written (fields_row c)) ++ []
unfolding written permit_row
permit_is c = refl

-- a field takes six bytes at most
framed_few : (t n : ℕ) → n < 2 ^ 32 → length (framed t (number_bytes n)) ≤ 6
unfolding framed
framed_few t n h =
    let few = few_bytes n h in
    let one : length (number_bytes n) < 128 = omega arith in
    rw (short (length (number_bytes n)) one) (omega arith)

tagged_few : (t : ℕ) (ns : List ℕ) → ((k : ℕ) → get_or ns k 0 < 2 ^ 32) → length (tagged t ns) ≤ 6 * length ns
tagged_few t [] h = omega arith
tagged_few t (n ∷ ns) h = omega (arith, framed_few t n (h 0), tagged_few (suc t) ns (λ k. h (suc k)), length-append (framed t (number_bytes n)) (tagged (suc t) ns))

pub fields_few : (c : Certificate) → InRange c → length (written (fields_row c)) ≤ 36
fields_few c h = omega (arith, ap length (fields_are c), tagged_few 1 (numbers_of c) (below c h))

-- no certificate has the bytes
abbrev pub NoPermit : List ℕ → Type 0
NoPermit b = (c : Certificate) → Permit b c → ⊥

pub no_element : (b : List ℕ) → ((tag : ℕ) (contents behind : List ℕ) → length contents ≤ longest → b ≡ framed tag contents ++ behind → ⊥) → NoPermit b
no_element b none c p = none 128 (written (fields_row c)) [] (omega (arith, fields_few c p.range)) (sym p.is ∙ permit_is c)

-- what the element at the front makes of the bytes
module _ (b : List ℕ) (s : Cursor) (e : Element) (after : Cursor) (start : ahead s ≡ b) (p : Passes s e after) where
  parts : (c : Certificate) → permit_bytes c ≡ b → (e.tag ≡ 128) × (e.contents.now ≡ written (fields_row c)) × (ahead after ≡ [])
  parts c k = same_front e.tag 128 e.contents.now (written (fields_row c)) (ahead after) [] (sym (split p) ∙ start ∙ sym k ∙ permit_is c)

  pub other_tag : (e.tag ≡ 128 → ⊥) → NoPermit b
  other_tag other c k = other (parts c k.is).0

  pub one_behind : eqb (length (ahead after)) 0 ≡ false → NoPermit b
  one_behind some c k = eqb-false (length (ahead after)) 0 some (ap length (parts c k.is).2)

  module _ (tag : e.tag ≡ 128) (last : eqb (length (ahead after)) 0 ≡ true) (inner : Cursor) (within : ahead inner ≡ e.contents.now) where
    pub whole : (r : Option CertificateFields) → AllFields inner r → Decoded b r
    whole (Some h) k =
        let none : ahead after ≡ [] = nil_from_length (ahead after) (eqb-true (length (ahead after)) 0 last) in
        let same : e.contents.now ≡ written (fields_row (certificate_of h)) = sym (k.1 ∙ within) in
        record { range = k.0; is = permit_is (certificate_of h) ∙ sym (λ i. framed (tag i) (same i) ++ none i) ∙ sym (split p) ∙ start }
    whole None k = λ c l. k c l.range (sym (within ∙ (parts c l.is).1))
