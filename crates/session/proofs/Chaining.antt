-- The answer to a question about a chain, from what the search answers.
use Rattle.std.proofs.Common.{◌≡◌, ℕ, ◌<◌, List, [], map, length, take, slice_index_or, vec_items, vec_len, Vec, Some, None, Ok, Err, Option, Result, sym, ap, ◌∙◌, subst, arith}
use Rattle.std.proofs.lemmas.List.{get_or-map, length-map}
use Rattle.chain.specs.Inputs.{Input}
use Rattle.chain.specs.Rejections.{rejection_number}
use Rattle.chain.specs.declared.input.Rejection.{Rejection}
use Rattle.shortest.specs.Answers as search
use Rattle.shortest.specs.Places.{RejectionPlace}
use Rattle.text.specs.Texts.{chain_text, none_text, rejection_text}
use Rattle.session.specs.Books.{Brought}
use Rattle.session.specs.Answers.{lent, brought_input, ChainAnswer, found, none, rejected}

-- there are as many papers as bytes of papers
pub papers_count : {Y Z : Type 0} (papers : Vec (Vec ℕ Y) Z) → vec_len papers ≡ length (map vec_items (vec_items papers))
papers_count papers = papers.ok.0 ∙ sym (length-map (vec_items papers) vec_items)

-- a paper that is looked up by its number is a paper in memory
pub paper_at : {Y Z : Type 0} (papers : Vec (Vec ℕ Y) Z) (i : ℕ) (paper : Vec ℕ Y) → i < vec_len papers → paper ≡ slice_index_or (vec_items papers) i paper → vec_items paper ≡ slice_index_or (map vec_items (vec_items papers)) i []
paper_at papers i paper less is = ap vec_items is ∙ sym (get_or-map vec_items (vec_items papers) i paper [] (omega (arith, papers.ok.0)))

module _ (b : Brought) (numbers : List ℕ) (first day : ℕ) (i : Input) (same : i ≡ brought_input b numbers) (old new : List ℕ) (long : length old ≡ lent b) where
  abbrev Said : Result (Option ℕ) Rejection → Type 0
  Said a = search.Answers i day first old new a

  -- what the search said, of the papers and marks
  of_book : (a : Result (Option ℕ) Rejection) → Said a → search.Answers (brought_input b numbers) day first old new a
  of_book a = subst (λ j. search.Answers j day first old new a) same

  accepted : (o : Option Rejection) → search.question_rejection (brought_input b numbers) first (length old) ≡ o → search.question_rejection (brought_input b numbers) first (lent b) ≡ o
  accepted o e = ap (search.question_rejection (brought_input b numbers) first) (sym long) ∙ e

  pub chain_found : (k : ℕ) → Said (Ok (Some k)) → ChainAnswer b numbers first day (chain_text (take k new))
  chain_found k a = let (ok, w) = of_book (Ok (Some k)) a in found (take k new) (record { accepted = accepted None ok; shortest = w.shortest })

  pub chain_none : Said (Ok None) → ChainAnswer b numbers first day none_text
  chain_none a = let (ok, (unchanged, f)) = of_book (Ok None) a in none (accepted None ok) f

  pub chain_rejected : (why : Rejection) → Said (Err why) → (place : ℕ) → RejectionPlace why i first (length new) place → ChainAnswer b numbers first day (rejection_text (rejection_number why) place)
  chain_rejected why a place there =
      let (is, unchanged) = of_book (Err why) a in
      rejected why (accepted (Some why) is) place (subst (λ size. RejectionPlace why (brought_input b numbers) first size place) (ap length unchanged ∙ long) (subst (λ j. RejectionPlace why j first (length new) place) same there))
