-- A rejection of a pool's input says that its reason applies and no earlier one does, and its place is the fault.
use Rattle.std.proofs.Common.{◌≡◌, ℕ, zero, suc, ◌+◌, ◌*◌, ◌-◌, ◌<◌, ◌≤◌, Bool, true, false, ◌&&◌, ◌⊎◌, cond, eqb, leb, ltb, List, [], ◌∷◌, length, get_or, MatchBool, Some, None, Option, sym, refl, ap, ◌∙◌, inl, inr, ⊎_elim, arith}
use Rattle.std.proofs.lemmas.Bool.{both_ways, and_parts, and_cases, or_cases, or_parts, not-true, not-false, ltb-true, ltb-false, leb-true, leb-false, eqb-true, eqb-false, lt-ltb, cases_eq, cases_lt, cases_Bool, MatchBool-at_true, MatchBool-at_false, le-ltb, eq-eqb, ne_eqb, false≢true}
use Rattle.chain.specs.declared.input.Rejection.{Rejection}
use Rattle.chain.specs.declared.input.Rejection.TheVariants.{Certificates, Marks}
use Rattle.chain.specs.Inputs.{most, Input}
use Rattle.chain.specs.Faults.{BadCertificates, none, many, numbers, may_issue, BadMarks, signatures, anchors, signature, anchor, FaultyCertificate, CertificatesFault, no_certificate, too_many, faulty_certificate, left_over, MarksFault, signature_count, anchor_count, bad_signature, bad_anchor, PoolRejections}
use Rattle.chain.specs.Places.{FirstWhere, CertificatesPlace, MarksPlace}
use Rattle.chain.specs.Rejections.{above_one, faulty, all_marks, none_below, certificates_well, marks_well, pool_rejection}

-- a test that holds at no number below n, and one that holds at some
none_each : (n : ℕ) (test : ℕ → Bool) → none_below n test ≡ true → (i : ℕ) → i < n → test i ≡ false
unfolding none_below
none_each zero test h i l = absurd (omega arith)
none_each (suc n) test h i l =
    let p = and_parts _ _ h in
    ⊎_elim (λ e. ap test e ∙ not-true _ p.1) (λ ne. none_each n test p.0 i (omega arith)) (cases_eq i n)

none_some : (n : ℕ) (test : ℕ → Bool) → none_below n test ≡ false → (i : ℕ) × (i < n) × (test i ≡ true)
unfolding none_below
none_some zero test h = absurd (false≢true (sym h))
none_some (suc n) test h =
    ⊎_elim
    (λ e. let r = none_some n test e in (r.0, omega arith, r.2))
    (λ e. (n, omega arith, not-false _ e))
    (and_cases (none_below n test) _ h)

-- marks of which each is at most 1, and marks of which one is above 1
marks_each : (xs : List ℕ) → all_marks xs ≡ true → (k : ℕ) → get_or xs k 0 ≤ 1
unfolding all_marks
marks_each [] h k = omega arith
marks_each (x ∷ xs) h zero = leb-true _ _ (and_parts (leb x 1) _ h).0
marks_each (x ∷ xs) h (suc k) = marks_each xs (and_parts (leb x 1) _ h).1 k

marks_some : (xs : List ℕ) → all_marks xs ≡ false → (k : ℕ) × (k < length xs) × (1 < get_or xs k 0)
unfolding all_marks
marks_some [] h = absurd (false≢true (sym h))
marks_some (x ∷ xs) h =
    ⊎_elim
    (λ e. (0, omega arith, leb-false _ _ e))
    (λ e. let r = marks_some xs e in (suc r.0, omega arith, r.2))
    (and_cases (leb x 1) _ h)

module _ (i : Input) where
  faulty_bad : (a : ℕ) → faulty i.certificates a ≡ true → FaultyCertificate i a
  faulty_bad a h = ⊎_elim (λ e. inl (ltb-true _ _ e)) (λ e. inr (ltb-true _ _ e)) (or_cases _ _ h)

  well_good : (a : ℕ) → faulty i.certificates a ≡ false → FaultyCertificate i a → ⊥
  well_good a h b = let p = or_parts (ltb (length i.certificates) (6 * a + 6)) (above_one i.certificates (6 * a + 4)) h in ⊎_elim (λ l. omega (arith, ltb-false _ _ p.0)) (λ l. omega (arith, ltb-false _ _ p.1)) b

  no_pool : certificates_well i ≡ false → BadCertificates i
  no_pool h = ⊎_elim (λ e. none (omega (arith, ltb-false _ _ e))) some (and_cases (ltb 0 i.count) _ h)
    where
      marked : length i.certificates ≡ 6 * i.count → none_below i.count (faulty i.certificates) ≡ false → BadCertificates i
      marked e f =
          let s = none_some i.count (faulty i.certificates) f in
          ⊎_elim (λ cut. absurd (omega (arith, e, s.1))) (λ bad. may_issue s.0 s.1 bad) (faulty_bad s.0 s.2)

      whole : (eqb (length i.certificates) (6 * i.count) && none_below i.count (faulty i.certificates)) ≡ false → BadCertificates i
      whole h =
          ⊎_elim
          (λ e. marked e (⊎_elim (λ f. absurd (both_ways _ f (eq-eqb _ _ e))) (λ f. f) (and_cases (eqb (length i.certificates) (6 * i.count)) _ h)))
          numbers
          (cases_eq (length i.certificates) (6 * i.count))

      some : (leb i.count most && (eqb (length i.certificates) (6 * i.count) && none_below i.count (faulty i.certificates))) ≡ false → BadCertificates i
      some h = ⊎_elim (λ e. many (leb-false _ _ e)) whole (and_cases (leb i.count most) _ h)

  some_pool : certificates_well i ≡ true → BadCertificates i → ⊥
  some_pool h =
      let s = and_parts (ltb 0 i.count) _ h in
      let f = and_parts (leb i.count most) _ s.1 in
      let w = and_parts (eqb (length i.certificates) (6 * i.count)) _ f.1 in
      go (ltb-true _ _ s.0) (leb-true _ _ f.0) (eqb-true _ _ w.0) w.1
    where
      go : 0 < i.count → i.count ≤ most → length i.certificates ≡ 6 * i.count → none_below i.count (faulty i.certificates) ≡ true → BadCertificates i → ⊥
      go some few six well (none e) = omega arith
      go some few six well (many l) = omega arith
      go some few six well (numbers ne) = ne six
      go some few six well (may_issue a l b) = well_good a (none_each i.count (faulty i.certificates) well a l) (inr b)

  bad_marks : marks_well i ≡ false → BadMarks i
  bad_marks h = ⊎_elim (λ e. signatures (eqb-false _ _ e)) square (and_cases (eqb (length i.signatures) (i.count * i.count)) _ h)
    where
      marked : (all_marks i.signatures && all_marks i.anchors) ≡ false → BadMarks i
      marked h =
          ⊎_elim
          (λ e. let s = marks_some i.signatures e in signature s.0 s.1 s.2)
          (λ e. let s = marks_some i.anchors e in anchor s.0 s.1 s.2)
          (and_cases (all_marks i.signatures) _ h)

      square : (eqb (length i.anchors) i.count && (all_marks i.signatures && all_marks i.anchors)) ≡ false → BadMarks i
      square h = ⊎_elim (λ e. anchors (eqb-false _ _ e)) marked (and_cases (eqb (length i.anchors) i.count) _ h)

  good_marks : marks_well i ≡ true → BadMarks i → ⊥
  good_marks h =
      let s = and_parts (eqb (length i.signatures) (i.count * i.count)) _ h in
      let a = and_parts (eqb (length i.anchors) i.count) _ s.1 in
      let m = and_parts (all_marks i.signatures) _ a.1 in
      go (eqb-true _ _ s.0) (eqb-true _ _ a.0) (marks_each i.signatures m.0) (marks_each i.anchors m.1)
    where
      go : length i.signatures ≡ i.count * i.count → length i.anchors ≡ i.count → ((k : ℕ) → get_or i.signatures k 0 ≤ 1) → ((k : ℕ) → get_or i.anchors k 0 ≤ 1) → BadMarks i → ⊥
      go s a each one (signatures ne) = ne s
      go s a each one (anchors ne) = ne a
      go s a each one (signature k l b) = omega (arith, each k)
      go s a each one (anchor k l b) = omega (arith, one k)

  -- where no certificate is bad, numbers are left over
  over : (at : ℕ) → at ≡ i.count → i.count ≤ most → (i.count ≡ 0 → ⊥) → ((a : ℕ) → a < i.count → FaultyCertificate i a → ⊥) → BadCertificates i → CertificatesFault i at
  over at e few some good (none z) = absurd (some z)
  over at e few some good (many l) = absurd (omega arith)
  over at e few some good (may_issue a l b) = absurd (good a l (inr b))
  over at e few some good (numbers ne) = ⊎_elim (λ l. absurd (good (i.count - 1) (omega arith) (inl (omega arith)))) (λ l. left_over few e (omega arith) good) (cases_lt (length i.certificates) (6 * i.count))

  pool_fault : (at : ℕ) → BadCertificates i → CertificatesPlace i at → CertificatesFault i at
  pool_fault at reason h =
      ⊎_elim
      (λ l. too_many l (MatchBool-at_true _ _ (lt-ltb _ _ l) h))
      (λ l. first l (MatchBool-at_false _ _ (le-ltb _ _ l) h))
      (cases_lt most i.count)
    where
      first : i.count ≤ most → FirstWhere i.count (faulty i.certificates) at → CertificatesFault i at
      first few f =
          ⊎_elim
          (λ z. no_certificate z (omega (arith, f.within)))
          (λ some. ⊎_elim
          (λ l. faulty_certificate few l (faulty_bad at (f.found l)) (λ a m. well_good a (f.before a m)))
          (λ l. over at (omega (arith, f.within)) few some (λ a m. well_good a (f.before a (omega arith))) reason)
          (cases_lt at i.count))
          (cases_eq i.count 0)

  marks_fault : (at : ℕ) → BadMarks i → MarksPlace i at → MarksFault i at
  marks_fault at bad h =
      ⊎_elim
      (λ e. square e (MatchBool-at_true _ _ (eq-eqb _ _ e) h))
      (λ ne. signature_count ne (MatchBool-at_false _ _ (ne_eqb _ _ ne) h))
      (cases_eq (length i.signatures) (i.count * i.count))
    where
      among_anchors : all_marks i.signatures ≡ true → length i.signatures ≡ i.count * i.count → length i.anchors ≡ i.count → FirstWhere (length i.anchors) (above_one i.anchors) at → BadMarks i → MarksFault i at
      among_anchors t s a f (signatures ne) = absurd (ne s)
      among_anchors t s a f (anchors ne) = absurd (ne a)
      among_anchors t s a f (signature k l b) = absurd (omega (arith, marks_each i.signatures t k))
      among_anchors t s a f (anchor k l b) =
          ⊎_elim
          (λ m. bad_anchor s a (λ j u. marks_each i.signatures t j) m (ltb-true _ _ (f.found m)) (λ j u. ltb-false _ _ (f.before j u)))
          (λ m. absurd (omega (arith, ltb-false _ _ (f.before k (omega arith)))))
          (cases_lt at (length i.anchors))

      among_signatures : length i.signatures ≡ i.count * i.count → length i.anchors ≡ i.count → all_marks i.signatures ≡ false → FirstWhere (length i.signatures) (above_one i.signatures) at → MarksFault i at
      among_signatures square row t f =
          let s = marks_some i.signatures t in
          ⊎_elim
          (λ m. bad_signature square row m (ltb-true _ _ (f.found m)) (λ j u. ltb-false _ _ (f.before j u)))
          (λ m. absurd (omega (arith, s.1, s.2, ltb-false _ _ (f.before s.0 (omega (arith, s.1))))))
          (cases_lt at (length i.signatures))

      row : length i.signatures ≡ i.count * i.count → length i.anchors ≡ i.count → MatchBool (all_marks i.signatures) (FirstWhere (length i.anchors) (above_one i.anchors) at) (FirstWhere (length i.signatures) (above_one i.signatures) at) → MarksFault i at
      row s a h =
          ⊎_elim
          (λ t. among_anchors t s a (MatchBool-at_true _ _ t h) bad)
          (λ t. among_signatures s a t (MatchBool-at_false _ _ t h))
          (cases_Bool (all_marks i.signatures))

      square : length i.signatures ≡ i.count * i.count → MatchBool (eqb (length i.anchors) i.count) (MatchBool (all_marks i.signatures) (FirstWhere (length i.anchors) (above_one i.anchors) at) (FirstWhere (length i.signatures) (above_one i.signatures) at)) (at ≡ length i.anchors) → MarksFault i at
      square s h =
          ⊎_elim
          (λ a. row s a (MatchBool-at_true _ _ (eq-eqb _ _ a) h))
          (λ ne. anchor_count s ne (MatchBool-at_false _ _ (ne_eqb _ _ ne) h))
          (cases_eq (length i.anchors) i.count)

-- the first rejection, from what the two tests say
chosen : Bool → Bool → Option Rejection
chosen c m = cond c (cond m None (Some Marks)) (Some Certificates)

chose_certificates : (c m : Bool) → chosen c m ≡ Some Certificates → c ≡ false
unfolding chosen
chose_certificates true true e = cc
chose_certificates true false e = cc
chose_certificates false m e = refl

chose_marks : (c m : Bool) → chosen c m ≡ Some Marks → (c ≡ true) × (m ≡ false)
unfolding chosen
chose_marks true true e = cc
chose_marks true false e = (refl, refl)
chose_marks false m e = cc

chose_none : (c m : Bool) → chosen c m ≡ None → (c ≡ true) × (m ≡ true)
unfolding chosen
chose_none true true e = (refl, refl)
chose_none true false e = cc
chose_none false m e = cc

-- a test that is true unless P, and where it is true not P
refuted : {P : Type 0} (b : Bool) → (b ≡ false → P) → (P → ⊥) → b ≡ true
refuted true f n = refl
refuted false f n = absurd (n (f refl))

shown : {P : Type 0} (b : Bool) → (b ≡ true → P → ⊥) → P → b ≡ false
shown true f p = absurd (f refl p)
shown false f p = refl

pub rejections : (i : Input) → PoolRejections i
unfolding chosen
rejections i =
    let c = certificates_well i in
    let m = marks_well i in
    record {
      certificates = (
        λ e. no_pool i (chose_certificates c m e),
        λ p. ap (λ t. chosen t m) (shown c (some_pool i) p),
      );
      marks = (
        λ e. let h = chose_marks c m e in (some_pool i h.0, bad_marks i h.1),
        λ p. ap (λ t. chosen t m) (refuted c (no_pool i) p.0) ∙ ap (λ t. chosen true t) (shown m (good_marks i) p.1),
      );
      none = (
        λ e. let h = chose_none c m e in (some_pool i h.0, good_marks i h.1),
        λ p. ap (λ t. chosen t m) (refuted c (no_pool i) p.0) ∙ ap (λ t. chosen true t) (refuted m (bad_marks i) p.1),
      );
      certificates_place = pool_fault i;
      marks_place = marks_fault i;
    }

-- a pool's input is rejected for reason 1 or 2, or not at all
pub pool_rejections : (i : Input) → (pool_rejection i ≡ Some Certificates) ⊎ ((pool_rejection i ≡ Some Marks) ⊎ (pool_rejection i ≡ None))
unfolding chosen
pool_rejections i = go (certificates_well i) (marks_well i)
  where
    go : (c m : Bool) → (chosen c m ≡ Some Certificates) ⊎ ((chosen c m ≡ Some Marks) ⊎ (chosen c m ≡ None))
    go true true = inr (inr refl)
    go true false = inr (inl refl)
    go false m = inl refl
