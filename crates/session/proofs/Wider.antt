-- A question about a chain in a text that brings more.
use Rattle.std.proofs.Common.{◌≡◌, ℕ, ◌+◌, ◌*◌, ◌<◌, ◌≤◌, ltb, Bool, true, false, cond, List, [], ◌++◌, length, get_or, Some, None, Option, ◌⊎◌, inl, inr, sym, refl, ap, ◌∙◌, subst, length-append, arith}
use Rattle.std.specs.List.{All}
use Rattle.std.specs.Option.{option_or}
use Rattle.std.proofs.lemmas.Bool.{and_parts, and_from, lt-ltb, leb-true, eqb-true, eq-eqb}
use Rattle.std.proofs.lemmas.List.{get_or_append_left}
use Rattle.std.proofs.lemmas.List.Elements.{All-from_get_or}
use Rattle.trust.specs.Chains.{Chain, Extends}
use Rattle.trust.proofs.Means.{more_keeps}
use Rattle.certificate.proofs.Laws.{one_permit}
use Rattle.chain.specs.Inputs.{most, certificate_at}
use Rattle.chain.specs.Rejections.{certificates_well, marks_well}
use Rattle.chain.specs.declared.input.Rejection.{Rejection}
use Rattle.chain.specs.declared.input.Rejection.TheVariants.{Certificates, Marks}
use Rattle.text.specs.Meaning.{number_limit}
use Rattle.text.specs.Texts.{chain_text}
use Rattle.text.proofs.Told.{chain_told, no_chain}
use Rattle.certificate.specs.Permits.{Permit}
use Rattle.session.specs.Books.{Brought, brought, paper_at, Numbers}
use Rattle.session.specs.Answers.{brought_input, chain_rejection, pool_of, ChainFound, ChainAnswer, found, none, rejected}
use Rattle.session.specs.Promise.{BringsMore, AnsweredChain, AnsweredRejection, MoreBrought, MoreText, PoolOfPapers}

some_none : {r : Rejection} → Some r ≡ None → ⊥
some_none e = cc

-- what is not rejected has certificates that are well
well_of : (w m : Bool) (x : Option Rejection) → option_or (cond w (cond m None (Some Marks)) (Some Certificates)) x ≡ None → w ≡ true
well_of true m x e = refl
well_of false m x e = absurd (some_none e)

-- certificates that are well are six numbers for each paper, and not too many
pub six_each : (b : Brought) (numbers : List ℕ) → certificates_well (brought_input b numbers) ≡ true → length numbers ≡ 6 * length b.papers
six_each b numbers w = eqb-true (length numbers) (6 * length b.papers) (and_parts _ _ (and_parts _ _ (and_parts _ _ w).1).1).0

few_papers : (b : Brought) (numbers : List ℕ) → certificates_well (brought_input b numbers) ≡ true → length b.papers ≤ most
few_papers b numbers w = leb-true (length b.papers) most (and_parts _ _ (and_parts _ _ w).1).0

module _ (b : Brought) (numbers : List ℕ) (n : Numbers b.papers numbers) (first : ℕ) (accepted : chain_rejection b numbers first ≡ None) where
  well : certificates_well (brought_input b numbers) ≡ true
  well = well_of (certificates_well (brought_input b numbers)) (marks_well (brought_input b numbers)) _ accepted

  -- each paper is a permit
  pub all_permits : n.permits ≡ length b.papers
  all_permits = omega (arith, n.size, six_each b numbers well)

  pub permit_at : (i : ℕ) → i < length b.papers → Permit (paper_at b.papers i) (certificate_at numbers i)
  permit_at i h = n.permit i (omega (arith, all_permits))

pub pool_of_papers : PoolOfPapers
pool_of_papers b numbers n first accepted i h = permit_at b numbers n first accepted i h

module _ (a b : Brought) (more : BringsMore a b) (ns ms : List ℕ) (p : (i : ℕ) → i < length a.papers → Permit (paper_at a.papers i) (certificate_at ns i)) (q : (i : ℕ) → i < length b.papers → Permit (paper_at b.papers i) (certificate_at ms i)) where
  more_papers : length a.papers ≤ length b.papers
  more_papers = omega (arith, ap length more.papers, length-append a.papers more.more)

  same_paper : (i : ℕ) → i < length a.papers → paper_at b.papers i ≡ paper_at a.papers i
  same_paper i h = ap (λ ps. paper_at ps i) more.papers ∙ get_or_append_left a.papers more.more [] i h

  same_certificate : (i : ℕ) → i < length a.papers → certificate_at ms i ≡ certificate_at ns i
  same_certificate i h =
      let x = p i h in
      let y = q i (omega (arith, more_papers)) in
      one_permit (certificate_at ms i) (certificate_at ns i) y.range x.range (y.is ∙ same_paper i h ∙ sym x.is)

  signed : (i j : ℕ) → i < length a.papers → j < length a.papers → (pool_of a ns).signed i j ≡ true → (pool_of b ms).signed i j ≡ true
  signed i j li lj e =
      let n = length a.papers in
      let m = length b.papers in
      let s = and_parts (ltb j n) _ (and_parts (ltb i n) _ e).1 in
      and_from _ _ (lt-ltb i m (omega (arith, more_papers))) (and_from _ _ (lt-ltb j m (omega (arith, more_papers))) (eq-eqb (get_or b.seals (i * m + j) 0) 1 (more.seals i j li lj (eqb-true (get_or a.seals (i * n + j) 0) 1 s.1))))

  pub extends : Extends (pool_of a ns) (pool_of b ms)
  extends = record {
    counts = more_papers;
    same = same_certificate;
    signatures = signed;
    anchors = λ i h e. eq-eqb (get_or b.trusted i 0) 1 (more.trusted i h (eqb-true (get_or a.trusted i 0) 1 e));
  }

-- the papers of a chain are few, and so their numbers fit
small_row : (b : Brought) (numbers : List ℕ) (first day : ℕ) (row : List ℕ) → Numbers b.papers numbers → ChainFound b numbers first day row → All (λ i. i < number_limit) row
small_row b numbers first day row n f =
    All-from_get_or (λ i. i < number_limit) row 0
    (λ i h. let known = f.shortest.chain.known i h in let few = few_papers b numbers (well b numbers n first f.accepted) in omega (arith, known, few))

-- an answer that prints as a chain is that chain
known_chain : (b : Brought) (numbers : List ℕ) (first day : ℕ) (row : List ℕ) → Numbers b.papers numbers → All (λ i. i < number_limit) row → (said : List ℕ) → ChainAnswer b numbers first day said → said ≡ chain_text row → ChainFound b numbers first day row
known_chain b numbers first day row n small _ (found r f) e =
    subst (ChainFound b numbers first day) (chain_told r row [] [] (small_row b numbers first day r n f) small (ap (λ l. l ++ []) e)).0 f
known_chain b numbers first day row n small _ (none accepted f) e = absurd (no_chain row 110 _ small (omega arith) (sym e))
known_chain b numbers first day row n small _ (rejected why is place there) e = absurd (no_chain row 114 _ small (omega arith) (sym e))

-- the answer where more is brought
module _ (a b : Brought) (ns ms : List ℕ) (n : Numbers a.papers ns) (m : Numbers b.papers ms) (more : BringsMore a b) (first day : ℕ) (row : List ℕ) (known : ChainFound a ns first day row) where
  kept : chain_rejection b ms first ≡ None → Chain (pool_of b ms) day first row
  kept accepted = more_keeps _ _ day first row (extends a b more ns ms (permit_at a ns n first known.accepted) (permit_at b ms m first accepted)) known.shortest.chain

  answered : (said : List ℕ) → ChainAnswer b ms first day said → AnsweredChain b ms first day (length row) said ⊎ AnsweredRejection b ms first said
  answered _ (found r f) = inl (record { row = r; found = f; is = refl; count = f.shortest.least row (kept f.accepted) })
  answered _ (none accepted f) = absurd (f row (kept accepted))
  answered _ (rejected why e place there) = inr (record { why = why; applies = e; place = place; fault = there; is = refl })

pub more_brought : MoreBrought
more_brought a b ns ms n m more first day row known said h = answered a b ns ms n m more first day row known said h

pub more_text : MoreText
more_text text wider answer wider_answer more first day row small a said b =
    answered (brought text) (brought wider) a.numbers b.numbers a.numbered b.numbered more first day row (known_chain (brought text) a.numbers first day row a.numbered small (chain_text row) a.answered refl) said b.answered
