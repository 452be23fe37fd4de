-- A permit is well-formed, and is that of one certificate.
use Rattle.std.proofs.Common.{◌≡◌, ℕ, suc, ◌-◌, ◌^◌, ◌<◌, Bool, true, false, List, [], ◌∷◌, ◌++◌, length, get_or, take, drop, Some, None, is_ok, Ok, Err, Result, sym, refl, ap, ◌∙◌, subst, append_assoc, append-nil, arith}
use Rattle.std.proofs.lemmas.Bool.{false≢true}
use mir.Val.{bool_byte}
use Rattle.format.specs.Elements.{Row, empty, primitive, first_constructed, framed, written, well_formed, Reads}
use Rattle.format.proofs.Fronts.{same_front}
use Rattle.format.proofs.Readings.{reads_none}
use Rattle.format.proofs.Rows.{primitive_from, constructed_from, framed_size}
use Rattle.trust.specs.Chains.{Certificate}
use Rattle.element.specs.Limits.{deepest, longest}
use Rattle.element.specs.declared.writing.WriteError.{WriteError}
use Rattle.element.specs.Appended.{Appended as Writes}
use Rattle.certificate.specs.Numbers.{number_bytes, number_size}
use Rattle.certificate.specs.Permits.{flag_bytes, fields_row, permit_row, permit_bytes, certificate_of, InRange}
use Rattle.certificate.specs.inner.Fields.{AppendedField}
use Rattle.certificate.specs.Promise.{OnePermit, PermitReads, DecodesBack}
use Rattle.certificate.proofs.Digits.{four_bytes, same_number, few_bytes, bytes_all, number_part}
use Rattle.certificate.proofs.Tails.{tagged, bit, bit_bytes, bit_below, numbers_of, fields_are, below}
use Rattle.certificate.proofs.Wholes.{permit_is, fields_few}

-- fields from a tag on say one row of numbers
same_tagged : (t : ℕ) (ms ns : List ℕ) → ((k : ℕ) → get_or ms k 0 < 2 ^ 32) → ((k : ℕ) → get_or ns k 0 < 2 ^ 32) → tagged t ms ≡ tagged t ns → ms ≡ ns
same_tagged t [] [] h g e = refl
same_tagged t [] (n ∷ ns) h g e = absurd (omega (arith, ap length e, framed_size t (number_bytes n) (tagged (suc t) ns)))
same_tagged t (m ∷ ms) [] h g e = absurd (omega (arith, ap length e, framed_size t (number_bytes m) (tagged (suc t) ms)))
same_tagged t (m ∷ ms) (n ∷ ns) h g e =
    let f = same_front t t (number_bytes m) (number_bytes n) (tagged (suc t) ms) (tagged (suc t) ns) e in
    let first = same_number m n (h 0) (g 0) f.1 in
    let others = same_tagged (suc t) ms ns (λ k. h (suc k)) (λ k. g (suc k)) f.2 in
    λ i. first i ∷ others i

same_bit : (a b : Bool) → bit a ≡ bit b → a ≡ b
same_bit true true e = refl
same_bit true false e = absurd (omega arith)
same_bit false true e = absurd (omega arith)
same_bit false false e = refl

same_numbers : (c d : Certificate) → numbers_of c ≡ numbers_of d → c ≡ d
same_numbers c d e =
    let subject : c.subject ≡ d.subject = ap (λ l. get_or l 0 0) e in
    let issuer : c.issuer ≡ d.issuer = ap (λ l. get_or l 1 0) e in
    let not_before : c.not_before ≡ d.not_before = ap (λ l. get_or l 2 0) e in
    let not_after : c.not_after ≡ d.not_after = ap (λ l. get_or l 3 0) e in
    let may_issue : c.may_issue ≡ d.may_issue = same_bit c.may_issue d.may_issue (ap (λ l. get_or l 4 0) e) in
    let path_len : c.path_len ≡ d.path_len = ap (λ l. get_or l 5 0) e in
    λ i. record { subject = subject i; issuer = issuer i; not_before = not_before i; not_after = not_after i; may_issue = may_issue i; path_len = path_len i }

pub one_permit : OnePermit
one_permit c d h g e =
    let f = same_front 128 128 (written (fields_row c)) (written (fields_row d)) [] [] (sym (permit_is c) ∙ e ∙ permit_is d) in
    same_numbers c d (same_tagged 1 (numbers_of c) (numbers_of d) (below c h) (below d g) (sym (fields_are c) ∙ f.1 ∙ fields_are d))

pub decodes_back : DecodesBack
decodes_back h (Some k) r e =
    let same = one_permit (certificate_of k) (certificate_of h) e.range r e.is in
    λ i. Some (record { subject = (same i).subject; issuer = (same i).issuer; not_before = (same i).not_before; not_after = (same i).not_after; may_issue = (same i).may_issue; path_len = (same i).path_len })
decodes_back h None r e = absurd (e (certificate_of h) (record { range = r; is = refl }))

module _ (d : ℕ) where
  number_well : (t n : ℕ) (r : Row) → t < first_constructed → n < 2 ^ 32 → well_formed d longest r ≡ true → well_formed d longest (primitive t (number_bytes n) r) ≡ true
  number_well t n r low h e = primitive_from d longest t (number_bytes n) r (record { low = low; bytes = bytes_all n h; fits = omega (arith, few_bytes n h); rest = e })

  flag_well : (b : Bool) (r : Row) → well_formed d longest r ≡ true → well_formed d longest (primitive 5 (flag_bytes b) r) ≡ true
  flag_well b r e = subst (λ l. well_formed d longest (primitive 5 l r) ≡ true) (bit_bytes b) (number_well 5 (bit b) r (omega arith) (bit_below b) e)

  fields_well : (c : Certificate) → InRange c → well_formed d longest (fields_row c) ≡ true
  unfolding fields_row
  fields_well c h =
      number_well 1 c.subject _ (omega arith) h.subject
      (number_well 2 c.issuer _ (omega arith) h.issuer
      (number_well 3 c.not_before _ (omega arith) h.not_before
      (number_well 4 c.not_after _ (omega arith) h.not_after
      (flag_well c.may_issue _
      (number_well 6 c.path_len empty (omega arith) h.path_len (reads_none d longest).well)))))

pub fields_read : (d : ℕ) (c : Certificate) → InRange c → Reads d longest (written (fields_row c)) (fields_row c)
fields_read d c h = record { well = fields_well d c h; writing = refl }

pub permit_reads : PermitReads
unfolding permit_row
permit_reads c h = record { well = constructed_from (deepest - 1) longest 128 (fields_row c) empty (omega arith) (omega arith) (omega (arith, fields_few c h)) (fields_well (deepest - 1) c h) (reads_none deepest longest).well; writing = refl }

-- what was written, where writing succeeded
pub written_behind : (T C : Type 0) (tag : ℕ) (contents old new : List ℕ) (r : Result Unit WriteError) → Writes T C tag contents old new r → is_ok r ≡ true → new ≡ old ++ framed tag contents
written_behind T C tag contents old new (Ok _) w e = w.3
written_behind T C tag contents old new (Err _) w e = absurd (false≢true e)

-- the element around the fields, written behind nothing
pub permit_written : (c : Certificate) (v w fields : List ℕ) → v ≡ [] → fields ≡ written (fields_row c) → w ≡ v ++ framed 128 fields → w ≡ permit_bytes c
permit_written c v w fields e f g = g ∙ (λ i. e i ++ framed 128 (f i)) ∙ sym (append-nil (framed 128 (written (fields_row c)))) ∙ sym (permit_is c)

-- the part of the four bytes that a number is, written as a field
pub number_written : (tag t n size : ℕ) (bytes old new : List ℕ) → t ≡ tag → n < 2 ^ 32 → size ≡ number_size n → bytes ≡ four_bytes n → new ≡ old ++ framed t (take (4 - (4 - size)) (drop (4 - size) bytes)) → AppendedField tag n old new
number_written tag t n size bytes old new s h e f g = record { range = h; behind = g ∙ (λ i. old ++ framed (s i) (number_part n size bytes h e f i)) }

-- a field more behind the bytes
grown : (v w : List ℕ) (t n : ℕ) (ns : List ℕ) → w ≡ v ++ framed t (number_bytes n) → w ++ tagged (suc t) ns ≡ v ++ tagged t (n ∷ ns)
grown v w t n ns e = ap (λ l. l ++ tagged (suc t) ns) e ∙ append_assoc v (framed t (number_bytes n)) (tagged (suc t) ns)

byte_bit : (b : Bool) → bool_byte b ≡ bit b
byte_bit true = refl
byte_bit false = refl

-- six fields written behind nothing, one after the other
pub six_written : (c : Certificate) (n : ℕ) {v v₁ v₂ v₃ v₄ v₅ v₆ : List ℕ}
    → n ≡ bool_byte c.may_issue → v ≡ []
    → AppendedField 1 c.subject v v₁ → AppendedField 2 c.issuer v₁ v₂ → AppendedField 3 c.not_before v₂ v₃
    → AppendedField 4 c.not_after v₃ v₄ → AppendedField 5 n v₄ v₅ → AppendedField 6 c.path_len v₅ v₆
    → InRange c × (v₆ ≡ written (fields_row c))
six_written c n {v} {v₁} {v₂} {v₃} {v₄} {v₅} {v₆} m e e₁ e₂ e₃ e₄ e₅ e₆ =
    let flag = m ∙ byte_bit c.may_issue in (
      record { subject = e₁.range; issuer = e₂.range; not_before = e₃.range; not_after = e₄.range; path_len = e₆.range },
      sym (append-nil v₆)
          ∙ grown v₅ v₆ 6 c.path_len [] e₆.behind
          ∙ grown v₄ v₅ 5 (bit c.may_issue) (c.path_len ∷ []) (subst (λ k. v₅ ≡ v₄ ++ framed 5 (number_bytes k)) flag e₅.behind)
          ∙ grown v₃ v₄ 4 c.not_after (bit c.may_issue ∷ (c.path_len ∷ [])) e₄.behind
          ∙ grown v₂ v₃ 3 c.not_before (c.not_after ∷ (bit c.may_issue ∷ (c.path_len ∷ []))) e₃.behind
          ∙ grown v₁ v₂ 2 c.issuer (c.not_before ∷ (c.not_after ∷ (bit c.may_issue ∷ (c.path_len ∷ [])))) e₂.behind
          ∙ grown v v₁ 1 c.subject (c.issuer ∷ (c.not_before ∷ (c.not_after ∷ (bit c.may_issue ∷ (c.path_len ∷ []))))) e₁.behind
          ∙ ap (λ l. l ++ tagged 1 (numbers_of c)) e
          ∙ sym (fields_are c),
    )
