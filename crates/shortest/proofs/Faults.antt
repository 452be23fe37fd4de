-- A question is rejected for the first reason that applies and at its fault, and not at all exactly if no reason applies.
use Rattle.std.proofs.Common.{◌≡◌, ℕ, ◌<◌, cond, eqb, ltb, Some, None, sym, ap, ◌∙◌, refl, subst, ⊎_elim, arith}
use Rattle.std.specs.Option.{option_or}
use Rattle.std.proofs.lemmas.Bool.{cond-true, cond-false, cases_eq, cases_lt, lt-ltb, le-ltb, eq-eqb, ne_eqb}
use Rattle.chain.specs.Inputs.{Input}
use Rattle.chain.specs.Faults.{BadCertificates, BadMarks}
use Rattle.chain.specs.Rejections.{pool_rejection}
use Rattle.chain.specs.declared.input.Rejection.{Rejection}
use Rattle.chain.specs.declared.input.Rejection.TheVariants.{Certificates, Marks, Unknown, Buffer}
use Rattle.chain.proofs.Faults as pool
use Rattle.shortest.specs.Answers.{question_rejection}
use Rattle.shortest.specs.Places.{RejectionPlace}
use Rattle.shortest.specs.Faults.{UnknownCertificate, BadBuffer, Applies, FaultAt, Rejections}

module _ (i : Input) (first size : ℕ) where
  -- no reason applies
  abbrev Accepted : Type 0
  Accepted = (BadCertificates i → ⊥) × (BadMarks i → ⊥) × (UnknownCertificate i first → ⊥) × (BadBuffer i size → ⊥)

  place : (why : Rejection) (at : ℕ) → Applies why i first size → RejectionPlace why i first size at → FaultAt why i first size at
  place Certificates at a h = (pool.rejections i).certificates_place at a h
  place Marks at a h = (pool.rejections i).marks_place at a.1 h
  place Unknown at a h = (h, omega (arith, a.2))
  place Buffer at a h = (h, λ e. a.3 (sym h ∙ e))

  -- the law, from the reason that applies
  rejected : (why : Rejection) → question_rejection i first size ≡ Some why → Applies why i first size → ((other : Rejection) → Applies other i first size → other ≡ why) → (Accepted → ⊥) → Rejections i first size
  rejected why is a only not = record {
    reason = λ other. (λ e. applies other (cc), λ b. is ∙ ap (λ r. Some r) (sym (only other b)));
    none = (λ e. absurd (cc), λ b. absurd (not b));
    place = λ other at e h. place other at (applies other (cc)) h;
  }
    where
      applies : (other : Rejection) → why ≡ other → Applies other i first size
      applies other e = subst (λ r. Applies r i first size) e a

  only_certificates : BadCertificates i → (other : Rejection) → Applies other i first size → other ≡ Certificates
  only_certificates p Certificates a = refl
  only_certificates p Marks a = absurd (a.0 p)
  only_certificates p Unknown a = absurd (a.0 p)
  only_certificates p Buffer a = absurd (a.0 p)

  only_marks : (BadCertificates i → ⊥) × BadMarks i → (other : Rejection) → Applies other i first size → other ≡ Marks
  only_marks p Certificates a = absurd (p.0 a)
  only_marks p Marks a = refl
  only_marks p Unknown a = absurd (a.1 p.1)
  only_marks p Buffer a = absurd (a.1 p.1)

  only_unknown : Applies Unknown i first size → (other : Rejection) → Applies other i first size → other ≡ Unknown
  only_unknown p Certificates a = absurd (p.0 a)
  only_unknown p Marks a = absurd (p.1 a.1)
  only_unknown p Unknown a = refl
  only_unknown p Buffer a = absurd (a.2 p.2)

  only_buffer : Applies Buffer i first size → (other : Rejection) → Applies other i first size → other ≡ Buffer
  only_buffer p Certificates a = absurd (p.0 a)
  only_buffer p Marks a = absurd (p.1 a.1)
  only_buffer p Unknown a = absurd (p.2 a.2)
  only_buffer p Buffer a = refl

  accepted : question_rejection i first size ≡ None → Accepted → Rejections i first size
  accepted is a = record {
    reason = λ why. (λ e. absurd (cc), λ b. absurd (never why b));
    none = (λ e. a, λ b. is);
    place = λ why at e h. absurd (cc);
  }
    where
      never : (why : Rejection) → Applies why i first size → ⊥
      never Certificates b = a.0 b
      never Marks b = a.1 b.1
      never Unknown b = a.2 b.2
      never Buffer b = a.3 b.3

  -- a pool that is not rejected: the certificate asked about and the output buffer decide
  asked : pool_rejection i ≡ None → (BadCertificates i → ⊥) × (BadMarks i → ⊥) → Rejections i first size
  asked e p = ⊎_elim there (λ l. let a : Applies Unknown i first size = (p.0, p.1, l) in rejected Unknown (is ∙ cond-false _ _ _ (le-ltb first i.count l)) a (only_unknown a) (λ b. b.2 l)) (cases_lt first i.count)
    where
      is : question_rejection i first size ≡ cond (ltb first i.count) (cond (eqb size i.count) None (Some Buffer)) (Some Unknown)
      is = ap (λ o. option_or o (cond (ltb first i.count) (cond (eqb size i.count) None (Some Buffer)) (Some Unknown))) e

      there : first < i.count → Rejections i first size
      there l =
          let within = is ∙ cond-true _ _ _ (lt-ltb first i.count l) in
          ⊎_elim
          (λ q. accepted (within ∙ cond-true _ _ _ (eq-eqb size i.count q)) (p.0, p.1, λ g. omega arith, λ n. n q))
          (λ n. let a : Applies Buffer i first size = (p.0, p.1, λ g. omega arith, n) in rejected Buffer (within ∙ cond-false _ _ _ (ne_eqb size i.count n)) a (only_buffer a) (λ b. b.3 n))
          (cases_eq size i.count)

  pub rejections : Rejections i first size
  rejections =
      let r = pool.rejections i in
      let rest = cond (ltb first i.count) (cond (eqb size i.count) None (Some Buffer)) (Some Unknown) in
      ⊎_elim
      (λ e. let p = r.certificates.0 e in rejected Certificates (ap (λ o. option_or o rest) e) p (only_certificates p) (λ b. b.0 p))
      (λ o. ⊎_elim
      (λ e. let p = r.marks.0 e in rejected Marks (ap (λ o. option_or o rest) e) p (only_marks p) (λ b. b.1 p.1))
      (λ e. asked e (r.none.0 e))
      o)
      (pool.pool_rejections i)
