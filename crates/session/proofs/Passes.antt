-- What is left of a text when one more line is answered.
use Rattle.std.proofs.Common.{◌≡◌, ℕ, Bool, true, IfOk, ◌+◌, ◌<◌, List, [], ◌∷◌, ◌++◌, length, Some, Option, Result, refl, sym, ap, ◌∙◌, subst, append_assoc, length-append, arith}
use Rattle.std.proofs.Math.Seq.{get_or-append_seam}
use Rattle.std.proofs.lemmas.List.Elements.{All-head, All-tail}
use Rattle.text.specs.Heads.{head_of, words_head}
use Rattle.text.specs.Meaning.{Meaning, nothing, paper, seals, trusted, piece, chain, meaning}
use Rattle.text.specs.Tokens.{words}
use Rattle.text.specs.declared.command.Head.{Head}
use Rattle.text.specs.declared.command.Head.TheVariants as head
use Rattle.session.specs.Books.{Brought, brings, brought_by, paper_at}
use Rattle.session.specs.Answers.{PaperAnswer, Answered}
use Rattle.session.specs.inner.Passing.{Left, Readable}
use Rattle.session.proofs.Gathered.{other_brings}

-- what a head says of a line that can be read
abbrev pub Says : Head → Option Meaning → Type 0
Says h o = (m : Meaning) → o ≡ Some m → h ≡ head_of m

-- a line of marks
marks_said : (m : Meaning) → head.Marks ≡ head_of m → ((brings (Some m)).papers ≡ []) × ((b : Brought) (numbers : List ℕ) (n : ℕ) → Answered b numbers n (Some m) [])
marks_said nothing e = absurd cc
marks_said (paper bytes) e = absurd cc
marks_said (seals marks) e = (refl, λ b numbers n. refl)
marks_said (trusted marks) e = (refl, λ b numbers n. refl)
marks_said (piece p path) e = absurd cc
marks_said (chain first day) e = absurd cc

-- a line of a paper
paper_said : (m : Meaning) → head.Paper ≡ head_of m → (bytes : List ℕ) × (m ≡ paper bytes)
paper_said nothing e = absurd cc
paper_said (paper bytes) e = (bytes, refl)
paper_said (seals marks) e = absurd cc
paper_said (trusted marks) e = absurd cc
paper_said (piece p path) e = absurd cc
paper_said (chain first day) e = absurd cc

module _ (papers : List (List ℕ)) (passed : ℕ) (line : List ℕ) (rest : List (List ℕ)) (l : Left papers passed (line ∷ rest)) where
  -- the line brings no paper
  left_none : (brings (meaning line)).papers ≡ [] → Left papers passed rest
  left_none none = record {
    before = l.before;
    count = l.count;
    papers_left = l.papers_left ∙ ap (λ ps. l.before ++ (ps ++ (brought_by rest).papers)) none;
    readable = All-tail Readable line rest l.readable;
  }

  -- it begins as one that brings nothing
  pub left_other : Says head.Other (meaning line) → Left papers passed rest
  left_other said = left_none (ap (λ b. b.papers) (other_brings (meaning line) said))

  module _ (is : head.Marks ≡ words_head (words line)) (said : Says head.Marks (meaning line)) where
    marks_read : (m : Meaning) × (meaning line ≡ Some m)
    marks_read = All-head Readable line rest l.readable (λ e. let h : head.Marks ≡ head.Other = is ∙ e in absurd cc)

    marks_here : ((brings (Some marks_read.0)).papers ≡ []) × ((b : Brought) (numbers : List ℕ) (n : ℕ) → Answered b numbers n (Some marks_read.0) [])
    marks_here = marks_said marks_read.0 (said marks_read.0 marks_read.1)

    -- it brings marks
    pub left_marks : Left papers passed rest
    left_marks = left_none (ap (λ o. (brings o).papers) marks_read.1 ∙ marks_here.0)

    pub marks_answer : (b : Brought) (numbers : List ℕ) (n : ℕ) → Answered b numbers n (meaning line) []
    marks_answer b numbers n = subst (λ o. Answered b numbers n o []) (sym marks_read.1) (marks_here.1 b numbers n)

  module _ (is : head.Paper ≡ words_head (words line)) (said : Says head.Paper (meaning line)) where
    -- it brings a paper
    pub paper_read : (bytes : List ℕ) × (meaning line ≡ Some (paper bytes))
    paper_read =
        let r = All-head Readable line rest l.readable (λ e. let h : head.Paper ≡ head.Other = is ∙ e in absurd cc) in
        let p = paper_said r.0 (said r.0 r.1) in
        (p.0, r.1 ∙ ap (λ m. Some m) p.1)

    these : papers ≡ l.before ++ (paper_read.0 ∷ (brought_by rest).papers)
    these = l.papers_left ∙ ap (λ o. l.before ++ ((brings o).papers ++ (brought_by rest).papers)) paper_read.1

    pub left_paper : Left papers (passed + 1) rest
    left_paper = record {
      before = l.before ++ paper_read.0 ∷ [];
      count = omega (arith, l.count, length-append l.before (paper_read.0 ∷ []));
      papers_left = these ∙ sym (append_assoc l.before (paper_read.0 ∷ []) (brought_by rest).papers);
      readable = All-tail Readable line rest l.readable;
    }

    pub paper_there : passed < length papers
    paper_there = omega (arith, l.count, ap length these, length-append l.before (paper_read.0 ∷ (brought_by rest).papers))

    pub paper_is : paper_at papers passed ≡ paper_read.0
    paper_is = ap (paper_at papers) l.count ∙ ap (λ ps. paper_at ps (length l.before)) these ∙ get_or-append_seam l.before paper_read.0 (brought_by rest).papers []

    pub paper_answer : (b : Brought) (numbers : List ℕ) (n : ℕ) (text : List ℕ) → PaperAnswer (paper_at papers passed) text → Answered b numbers n (meaning line) text
    paper_answer b numbers n text a = subst (λ o. Answered b numbers n o text) (sym paper_read.1) (subst (λ bytes. PaperAnswer bytes text) paper_is a)

-- p papers have been passed once a line is answered, if each line that brings something could be read
abbrev Goes : (b : Brought) (all_read : Bool) (passed : ℕ) (line : List ℕ) (p : ℕ) → Type 0
Goes b all_read passed line p = all_read ≡ true → (rest : List (List ℕ)) → Left b.papers passed (line ∷ rest) → Left b.papers p rest

-- so it is of a book that holds the same
pub passed_same : {E : Type 0} (was is : Brought) (old new : Bool) (passed : ℕ) (line : List ℕ) (r : Result ℕ E) → is ≡ was → new ≡ old → IfOk r (Goes is new passed line) → IfOk r (Goes was old passed line)
passed_same was is old new passed line r same read k = subst (λ b. IfOk r (Goes b old passed line)) same (subst (λ t. IfOk r (Goes is t passed line)) read k)
