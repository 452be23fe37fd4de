-- The numbers of permits, six by six.
use Rattle.std.proofs.Common.{◌≡◌, ℕ, ◌+◌, ◌*◌, ◌<◌, ◌≤◌, List, [], ◌++◌, length, get_or, sym, ap, ◌∙◌, subst, length-append, below_more, arith, ◌==◌}
use Rattle.std.proofs.lemmas.List.{get_or_append_left, get_or-append-add}
use Rattle.trust.specs.Chains.{Certificate}
use Rattle.chain.specs.Inputs.{certificate_at}
use Rattle.certificate.specs.Permits.{Permit}
use Rattle.session.specs.Books.{paper_at, Numbers}
use Rattle.session.specs.inner.Held.{SixNumbers}

-- the first k papers are permits, and the numbers are theirs
pub record Counted (papers : List (List ℕ)) (numbers : List ℕ) (k : ℕ) : Type 0 where
  pub size : length numbers ≡ 6 * k
  pub permit : (i : ℕ) → i < k → Permit (paper_at papers i) (certificate_at numbers i)
  pub flag : (i : ℕ) → i < k → get_or numbers (6 * i + 4) 0 ≤ 1

module _ (was part : List ℕ) (k : ℕ) (c : Certificate) (size : length was ≡ 6 * k) (six : SixNumbers part c) where
  before : (n : ℕ) → n < 6 * k → get_or (was ++ part) n 0 ≡ get_or was n 0
  before n h = get_or_append_left was part 0 n (omega arith)

  behind : (j : ℕ) → get_or (was ++ part) (6 * k + j) 0 ≡ get_or part j 0
  behind j = subst (λ n. get_or (was ++ part) (n + j) 0 ≡ get_or part j 0) size (get_or-append-add was part j 0)

  first_ones : (i : ℕ) → i < k → certificate_at was i ≡ certificate_at (was ++ part) i
  first_ones i h = λ x. record {
    subject = sym (before (6 * i) (omega arith)) x;
    issuer = sym (before (6 * i + 1) (omega arith)) x;
    not_before = sym (before (6 * i + 2) (omega arith)) x;
    not_after = sym (before (6 * i + 3) (omega arith)) x;
    may_issue = (sym (before (6 * i + 4) (omega arith)) x == 1);
    path_len = sym (before (6 * i + 5) (omega arith)) x;
  }

  same_place : certificate_at part 0 ≡ certificate_at (was ++ part) k
  same_place = let here : 6 * k ≡ 6 * k + 0 = omega arith in λ x. record {
    subject = sym (ap (λ n. get_or (was ++ part) n 0) here ∙ behind 0) x;
    issuer = sym (behind 1) x;
    not_before = sym (behind 2) x;
    not_after = sym (behind 3) x;
    may_issue = (sym (behind 4) x == 1);
    path_len = sym (behind 5) x;
  }

  last_one : c ≡ certificate_at (was ++ part) k
  last_one = sym six.certificate ∙ same_place

pub counted_none : (papers : List (List ℕ)) (numbers : List ℕ) → numbers ≡ [] → Counted papers numbers 0
counted_none papers numbers e = record { size = ap length e; permit = λ i h. absurd (omega arith); flag = λ i h. absurd (omega arith) }

pub counted_more : (papers : List (List ℕ)) (was is : List ℕ) (k : ℕ) (c : Certificate) → Counted papers was k → Permit (paper_at papers k) c → (part : List ℕ) × (is ≡ was ++ part) × SixNumbers part c → Counted papers is (k + 1)
counted_more papers was is k c h p (part, e, six) = subst (λ l. Counted papers l (k + 1)) (sym e) (record {
  size = length-append was part ∙ omega (arith, h.size, six.size);
  permit = below_more (λ i. Permit (paper_at papers i) (certificate_at (was ++ part) i)) k (λ i less. subst (Permit (paper_at papers i)) (first_ones was part k c h.size six i less) (h.permit i less)) (subst (Permit (paper_at papers k)) (last_one was part k c h.size six) p);
  flag = below_more (λ i. get_or (was ++ part) (6 * i + 4) 0 ≤ 1) k (λ i less. subst (λ n. n ≤ 1) (sym (before was part k c h.size six (6 * i + 4) (omega arith))) (h.flag i less)) (subst (λ n. n ≤ 1) (sym (behind was part k c h.size six 4)) six.flag);
})

pub counted_end : (papers : List (List ℕ)) (numbers : List ℕ) (k : ℕ) → Counted papers numbers k → k ≤ length papers → (k < length papers → (c : Certificate) → Permit (paper_at papers k) c → ⊥) → Numbers papers numbers
counted_end papers numbers k h within end = record { permits = k; within = within; size = h.size; permit = h.permit; flag = h.flag; end = end }
