-- What is promised of texts, their questions and their answers; each law is the contract of a function in src/promise.rt.
use Rattle.std.specs.Prelude.{◌≡◌, ℕ, ◌+◌, ◌*◌, ◌<◌, ◌≤◌, ◌⊎◌, true, List, ◌∷◌, ◌++◌, length, Some, None, slice_index}
use Rattle.std.specs.List.{All}
use Rattle.format.specs.Elements.{Row, well_formed}
use Rattle.element.specs.Limits.{deepest, longest}
use Rattle.chain.specs.Inputs.{most}
use Rattle.chain.specs.Rejections.{rejection_number}
use Rattle.chain.specs.declared.input.Rejection.{Rejection}
use Rattle.chain.specs.declared.input.Rejection.TheVariants.{Certificates}
use Rattle.text.specs.Meaning.{Meaning, chain, meaning, number_limit}
use Rattle.text.specs.Texts.{chain_text, rejection_text, unreadable_number}
use Rattle.text.specs.Tokens.{lines}
use Rattle.certificate.specs.Permits.{Permit}
use Rattle.session.specs.Books.{Brought, brought, paper_at, Numbers}
use Rattle.shortest.specs.Places.{RejectionPlace}
use Rattle.session.specs.Answers.{lent, brought_input, chain_rejection, pool_of, ChainFound, ChainAnswer, AnsweredText, LineAnswered}
use Rattle.session.specs.Rows.{row_text}

-- b has all that a has: a's papers are its first ones, and among them each mark of 1 is a mark of 1 there, at its new place
pub record BringsMore (a b : Brought) : Type 0 where
  pub more : List (List ℕ)
  pub papers : b.papers ≡ a.papers ++ more
  pub seals : (i j : ℕ) → i < length a.papers → j < length a.papers → slice_index a.seals (i * length a.papers + j) ≡ 1 → slice_index b.seals (i * length b.papers + j) ≡ 1
  pub trusted : (i : ℕ) → i < length a.papers → slice_index a.trusted i ≡ 1 → slice_index b.trusted i ≡ 1

-- each line of an answered text that can be read has its part of the answer
abbrev pub EachLine : Type 0
EachLine =
    (text answer : List ℕ) → AnsweredText text answer → (front : List (List ℕ)) (line : List ℕ) (back : List (List ℕ)) → lines text ≡ front ++ line ∷ back
    → (m : Meaning) → meaning line ≡ Some m → (said : List ℕ) × (l : LineAnswered text answer m said) × (l.front ≡ front)

-- a question about a chain is answered with a chain of at most n certificates
pub record AnsweredChain (b : Brought) (numbers : List ℕ) (first day n : ℕ) (said : List ℕ) : Type 0 where
  pub row : List ℕ
  pub found : ChainFound b numbers first day row
  pub is : said ≡ chain_text row
  pub count : length row ≤ n

-- a question about a chain is answered with the first rejection that applies, and its place
pub record AnsweredRejection (b : Brought) (numbers : List ℕ) (first : ℕ) (said : List ℕ) : Type 0 where
  pub why : Rejection
  pub applies : chain_rejection b numbers first ≡ Some why
  pub place : ℕ
  pub fault : RejectionPlace why (brought_input b numbers) first (lent b) place
  pub is : said ≡ rejection_text (rejection_number why) place

-- where there is a chain among what is brought, the answer to that question where more is brought is a chain that is no longer, or a rejection
abbrev pub MoreBrought : Type 0
MoreBrought =
    (a b : Brought) (numbers more_numbers : List ℕ) → Numbers a.papers numbers → Numbers b.papers more_numbers → BringsMore a b
    → (first day : ℕ) (row : List ℕ) → ChainFound a numbers first day row
    → (said : List ℕ) → ChainAnswer b more_numbers first day said
    → AnsweredChain b more_numbers first day (length row) said ⊎ AnsweredRejection b more_numbers first said

-- where the answer of one text has a chain for a question, the answer to that question in a text that brings more and asks the same is a chain that is no longer, or a rejection
abbrev pub MoreText : Type 0
MoreText =
    (text wider answer wider_answer : List ℕ) → BringsMore (brought text) (brought wider)
    → (first day : ℕ) (row : List ℕ) → All (λ i. i < number_limit) row → LineAnswered text answer (chain first day) (chain_text row)
    → (said : List ℕ) (l : LineAnswered wider wider_answer (chain first day) said)
    → AnsweredChain (brought wider) l.numbers first day (length row) said ⊎ AnsweredRejection (brought wider) l.numbers first said

-- a question about a chain that is taken is about the certificates whose permits the papers are: certificate i of the pool is paper i's
abbrev pub PoolOfPapers : Type 0
PoolOfPapers =
    (b : Brought) (numbers : List ℕ) → Numbers b.papers numbers → (first : ℕ) → chain_rejection b numbers first ≡ None
    → (i : ℕ) → i < length b.papers → Permit (paper_at b.papers i) ((pool_of b numbers).certificate i)

-- two well-formed rows whose elements print alike are the same row
abbrev pub RowTells : Type 0
RowTells = (r s : Row) → well_formed deepest longest r ≡ true → well_formed deepest longest s ≡ true → row_text 0 r ≡ row_text 0 s → r ≡ s

-- where one of the papers, not more than are taken, is no permit, a question about a chain is rejected, at the first such paper
abbrev pub NoPermitRejects : Type 0
NoPermitRejects =
    (b : Brought) (numbers : List ℕ) (n : Numbers b.papers numbers) → n.permits < length b.papers → length b.papers ≤ most
    → (first day : ℕ) (answer : List ℕ) → ChainAnswer b numbers first day answer → answer ≡ rejection_text (rejection_number Certificates) n.permits

-- no rejection of a question has the number of a line that can't be read
abbrev pub OtherNumbers : Type 0
OtherNumbers = (r : Rejection) → rejection_number r ≡ unreadable_number → ⊥
