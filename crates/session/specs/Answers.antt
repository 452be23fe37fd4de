-- The answers to the lines of a text.
use Rattle.std.specs.Prelude.{◌≡◌, ℕ, suc, ◌<◌, ◌≤◌, min, List, [], ◌∷◌, ◌++◌, length, Some, None, Option}
use Rattle.format.specs.Elements.{Row, Reads}
use Rattle.format.specs.Viable.{IllAt}
use Rattle.element.specs.Limits.{deepest, longest}
use Rattle.element.specs.Located.{Piece}
use Rattle.trust.specs.Chains.{Pool, Chain, Shortest}
use Rattle.chain.specs.Rejections.{rejection_number}
use Rattle.chain.specs.Inputs.{most, Input, raw_input, pool}
use Rattle.chain.specs.declared.input.Rejection.{Rejection}
use Rattle.chain.specs.declared.input.Rejection.TheVariants.{Unknown}
use Rattle.shortest.specs.Answers.{question_rejection}
use Rattle.shortest.specs.Places.{RejectionPlace}
use Rattle.text.specs.Meaning.{Meaning, nothing, paper, seals, trusted, piece, chain, meaning}
use Rattle.text.specs.Texts.{bytes_text, chain_text, none_text, ill_text, rejection_text, unreadable_text}
use Rattle.text.specs.Tokens.{lines}
use Rattle.session.specs.Books.{Brought, brought, paper_at, Numbers}
use Rattle.session.specs.Rows.{row_text}

-- `paper HEX..`: the elements of the row that the bytes read as, or the place at which they are malformed
pub data PaperAnswer (bytes : List ℕ) : (answer : List ℕ) → Type 0 where
  well : (row : Row) → Reads deepest longest bytes row → PaperAnswer bytes (row_text 0 row)
  ill : (at : ℕ) → ((row : Row) → Reads deepest longest bytes row → ⊥) → IllAt deepest longest bytes at → PaperAnswer bytes (ill_text at)

-- the bytes of an element, or `none`
abbrev pub part_text : Option (List ℕ) → List ℕ
part_text (Some part) = bytes_text part
part_text None = none_text

-- `piece P W W ..`: the element of paper P by the path, or a rejection if there is no paper P
pub data PieceAnswer (papers : List (List ℕ)) (p : ℕ) (path : List ℕ) : (answer : List ℕ) → Type 0 where
  there : p < length papers → (part : Option (List ℕ)) → Piece (paper_at papers p) path part → PieceAnswer papers p path (part_text part)
  no_paper : length papers ≤ p → PieceAnswer papers p path (rejection_text (rejection_number Unknown) p)

-- the size of the output buffer that is lent: a number for each paper, up to the most that are taken
abbrev pub lent : Brought → ℕ
lent b = min (length b.papers) most

-- the papers and marks as the input of a pool: a certificate for each paper
abbrev pub brought_input : Brought → (numbers : List ℕ) → Input
brought_input b numbers = raw_input (length b.papers) numbers b.seals b.trusted

-- the first rejection that applies to a question about a chain, if any
abbrev pub chain_rejection : Brought → (numbers : List ℕ) → (first : ℕ) → Option Rejection
chain_rejection b numbers first = question_rejection (brought_input b numbers) first (lent b)

-- the pool of the certificates that the papers are, and of the marks
abbrev pub pool_of : Brought → (numbers : List ℕ) → Pool
pool_of b numbers = pool (brought_input b numbers)

-- the question is taken, and the row is a shortest chain
pub record ChainFound (b : Brought) (numbers : List ℕ) (first day : ℕ) (row : List ℕ) : Type 0 where
  pub accepted : chain_rejection b numbers first ≡ None
  pub shortest : Shortest (pool_of b numbers) day first row

-- `chain A day D`: a shortest chain, `none` if there is no chain, or the first rejection that applies and its place
pub data ChainAnswer (b : Brought) (numbers : List ℕ) (first day : ℕ) : (answer : List ℕ) → Type 0 where
  found : (row : List ℕ) → ChainFound b numbers first day row → ChainAnswer b numbers first day (chain_text row)
  none : chain_rejection b numbers first ≡ None → ((row : List ℕ) → Chain (pool_of b numbers) day first row → ⊥) → ChainAnswer b numbers first day none_text
  rejected : (why : Rejection) → chain_rejection b numbers first ≡ Some why → (place : ℕ) → RejectionPlace why (brought_input b numbers) first (lent b) place → ChainAnswer b numbers first day (rejection_text (rejection_number why) place)

-- the answer to line n, by what the line says
abbrev pub Answered : (b : Brought) → (numbers : List ℕ) → (n : ℕ) → Option Meaning → (answer : List ℕ) → Type 0
Answered b numbers n None answer = answer ≡ unreadable_text n
Answered b numbers n (Some nothing) answer = answer ≡ []
Answered b numbers n (Some (paper bytes)) answer = PaperAnswer bytes answer
Answered b numbers n (Some (seals marks)) answer = answer ≡ []
Answered b numbers n (Some (trusted marks)) answer = answer ≡ []
Answered b numbers n (Some (piece p path)) answer = PieceAnswer b.papers p path answer
Answered b numbers n (Some (chain first day)) answer = ChainAnswer b numbers first day answer

-- the answers of lines one after the other; the first of the lines has the number n
abbrev pub AnsweredLines : (b : Brought) → (numbers : List ℕ) → (n : ℕ) → List (List ℕ) → (answer : List ℕ) → Type 0
AnsweredLines b numbers n [] answer = answer ≡ []
AnsweredLines b numbers n (line ∷ ls) answer = (first rest : List ℕ) × Answered b numbers n (meaning line) first × AnsweredLines b numbers (suc n) ls rest × (answer ≡ first ++ rest)

-- the answer of a text: each line in turn, numbered from 0, is answered by what the whole text brings
pub record AnsweredText (text answer : List ℕ) : Type 0 where
  pub numbers : List ℕ
  pub numbered : Numbers (brought text).papers numbers
  pub answers : AnsweredLines (brought text) numbers 0 (lines text) answer

-- a line's part of the answer of a text: the line says m, `said` is its answer, and the answers of the other lines stand before and behind
pub record LineAnswered (text answer : List ℕ) (m : Meaning) (said : List ℕ) : Type 0 where
  pub numbers : List ℕ
  pub numbered : Numbers (brought text).papers numbers
  pub front : List (List ℕ)
  pub line : List ℕ
  pub back : List (List ℕ)
  pub split : lines text ≡ front ++ line ∷ back
  pub says : meaning line ≡ Some m
  pub before : List ℕ
  pub after : List ℕ
  pub parts : answer ≡ before ++ (said ++ after)
  pub front_answers : AnsweredLines (brought text) numbers 0 front before
  pub answered : Answered (brought text) numbers (length front) (Some m) said
  pub back_answers : AnsweredLines (brought text) numbers (suc (length front)) back after

-- the answers of the first lines of a text, whole
pub record AnsweredFront (text answer : List ℕ) : Type 0 where
  pub numbers : List ℕ
  pub numbered : Numbers (brought text).papers numbers
  pub front : List (List ℕ)
  pub back : List (List ℕ)
  pub split : lines text ≡ front ++ back
  pub answers : AnsweredLines (brought text) numbers 0 front answer
