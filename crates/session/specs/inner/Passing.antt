-- What a book has of a text, and what is left of the text while its lines are answered.
use Rattle.std.specs.Prelude.{◌≡◌, ◌↔◌, ℕ, List, ◌++◌, length, true, Some, vec_items}
use Rattle.std.specs.List.{All}
use Rattle.text.specs.Heads.{words_head}
use Rattle.text.specs.Meaning.{Meaning, meaning}
use Rattle.text.specs.Tokens.{lines, words}
use Rattle.text.specs.declared.command.Head.TheVariants as head
use Rattle.session.specs.declared.Book.{Book}
use Rattle.session.specs.Books.{brought_by, brought, Numbers}
use Rattle.session.specs.inner.Held.{IndexesOf, held}

-- a line can be read, if it begins as one that brings something
abbrev pub Readable : List ℕ → Type 0
Readable line = (words_head (words line) ≡ head.Other → ⊥) → (m : Meaning) × (meaning line ≡ Some m)

-- a book holds all that a text brings, the numbers of its papers, and whether each line that begins as one that brings something can be read
pub record BookOf (text : List ℕ) (b : Book) : Type 0 where
  pub whole : held b ≡ brought text
  pub numbers : Numbers (held b).papers (vec_items b.numbers)
  pub indexed : IndexesOf (held b).papers (vec_items b.indexes)
  pub readable : b.all_read ≡ true ↔ All Readable (lines text)

-- how many of a text's papers have been passed: the others are those of the lines that are left, which are readable
pub record Left (papers : List (List ℕ)) (passed : ℕ) (rest : List (List ℕ)) : Type 0 where
  pub before : List (List ℕ)
  pub count : passed ≡ length before
  pub papers_left : papers ≡ before ++ (brought_by rest).papers
  pub readable : All Readable rest
