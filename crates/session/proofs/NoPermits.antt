-- Questions about a chain where a paper is no permit.
use Rattle.std.proofs.Common.{◌≡◌, ℕ, ◌+◌, ◌*◌, ◌<◌, ◌≤◌, Bool, true, false, cond, ◌||◌, ltb, List, length, get_or, Some, None, Option, MatchBool, refl, sym, ap, ◌∙◌, subst, ⊎_elim, arith}
use Rattle.std.specs.Option.{option_or}
use Rattle.std.proofs.lemmas.Bool.{or_from, lt-ltb, le-ltb, false≢true, cases_lt}
use Rattle.chain.specs.Inputs.{most}
use Rattle.chain.specs.Places.{CertificatesPlace, FirstWhere}
use Rattle.chain.specs.Rejections.{certificates_well, faulty, rejection_number}
use Rattle.chain.specs.declared.input.Rejection.{Rejection}
use Rattle.chain.specs.declared.input.Rejection.TheVariants.{Certificates}
use Rattle.shortest.specs.Places.{RejectionPlace}
use Rattle.text.specs.Texts.{rejection_text}
use Rattle.session.specs.Books.{Brought, Numbers}
use Rattle.session.specs.Answers.{lent, brought_input, chain_rejection, ChainAnswer, found, none, rejected}
use Rattle.session.specs.Promise.{NoPermitRejects}
use Rattle.session.proofs.Wider.{all_permits, six_each}

first_of : (w : Bool) (x y : Option Rejection) (why : Rejection) → (w ≡ true → ⊥) → option_or (cond w x (Some Certificates)) y ≡ Some why → why ≡ Certificates
first_of true x y why not_true e = absurd (not_true refl)
first_of false x y why not_true e = cc

module _ (b : Brought) (numbers : List ℕ) (n : Numbers b.papers numbers) (less : n.permits < length b.papers) (few : length b.papers ≤ most) where
  not_taken : (first : ℕ) → chain_rejection b numbers first ≡ None → ⊥
  not_taken first accepted = omega (arith, less, all_permits b numbers n first accepted)

  not_well : certificates_well (brought_input b numbers) ≡ true → ⊥
  not_well w = omega (arith, less, n.size, six_each b numbers w)

  -- the papers before the first that is no permit have their six numbers, and that one has none
  whole : (i : ℕ) → i < n.permits → faulty numbers i ≡ false
  whole i h = or_from _ _ (le-ltb (length numbers) (6 * i + 6) (omega (arith, n.size))) (le-ltb 1 (get_or numbers (6 * i + 4) 0) (n.flag i h))

  missing : faulty numbers n.permits ≡ true
  missing = ap (λ t. t || ltb 1 (get_or numbers (6 * n.permits + 4) 0)) (lt-ltb (length numbers) (6 * n.permits + 6) (omega (arith, n.size)))

  first_where : (at : ℕ) → FirstWhere (length b.papers) (faulty numbers) at → at ≡ n.permits
  first_where at f =
      ⊎_elim (λ (h : at < n.permits). absurd (false≢true (sym (whole at h) ∙ f.found (omega (arith, h, less)))))
      (λ h. ⊎_elim (λ (k : n.permits < at). absurd (false≢true (sym (f.before n.permits k) ∙ missing))) (λ k. omega (arith, h, k)) (cases_lt n.permits at))
      (cases_lt at n.permits)

  place : (at : ℕ) → CertificatesPlace (brought_input b numbers) at → at ≡ n.permits
  place at p = first_where at (subst (λ t. MatchBool t (at ≡ most) (FirstWhere (length b.papers) (faulty numbers) at)) (le-ltb most (length b.papers) few) p)

  answer_is : (first day : ℕ) (answer : List ℕ) → ChainAnswer b numbers first day answer → answer ≡ rejection_text (rejection_number Certificates) n.permits
  answer_is first day _ (found row f) = absurd (not_taken first f.accepted)
  answer_is first day _ (none accepted f) = absurd (not_taken first accepted)
  answer_is first day _ (rejected why e at there) =
      let is = first_of (certificates_well (brought_input b numbers)) _ _ why not_well e in
      let here = place at (subst (λ r. RejectionPlace r (brought_input b numbers) first (lent b) at) is there) in
      λ i. rejection_text (rejection_number (is i)) (here i)

pub no_permit : NoPermitRejects
no_permit b numbers n less few first day answer a = answer_is b numbers n less few first day answer a
