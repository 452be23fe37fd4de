-- What a book in memory holds.
use Rattle.std.specs.Prelude.{◌≡◌, ℕ, ◌≤◌, List, ◌++◌, length, map, slice_index, slice_index_or, vec_items, None, Option, Box, IfSome, IsSome, ◌<◌}
use Rattle.element.specs.Indexed.{IndexOf}
use Rattle.trust.specs.Chains.{Certificate}
use Rattle.session.specs.declared.Book.{Book}
use Rattle.element.specs.declared.index.Index.{Index}
use Rattle.certificate.specs.Permits.{Permit}
use Rattle.chain.specs.Inputs.{certificate_at}
use Rattle.session.specs.Books.{Brought, paper_at}

-- what one brings, and another after it
abbrev pub added : Brought → Brought → Brought
added a b = record { papers = a.papers ++ b.papers; seals = a.seals ++ b.seals; trusted = a.trusted ++ b.trusted }

-- an index, if there is one, is that of the paper at its place
abbrev pub IndexesOf : {Z : Type 0} (papers : List (List ℕ)) → (indexes : List (Option (Box Index Z))) → Type 0
IndexesOf papers indexes = (i : ℕ) → i < length indexes → IfSome (slice_index_or indexes i None) (λ x. IndexOf (paper_at papers i) x.value)

-- the bytes of the papers in memory, and the marks
abbrev pub held : Book → Brought
held b = record { papers = map vec_items (vec_items b.papers); seals = vec_items b.seals; trusted = vec_items b.trusted }

-- each paper has its index
pub record AllIndexed (b : Book) : Type 0 where
  pub theirs : IndexesOf (held b).papers (vec_items b.indexes)
  pub each : (i : ℕ) → i < length (held b).papers → IsSome (slice_index_or (vec_items b.indexes) i None)

-- where each paper had its index, the indexes are those that they were
abbrev pub KeepsIndexes : (was is : Book) → Type 0
KeepsIndexes was is = AllIndexed was → vec_items is.indexes ≡ vec_items was.indexes

-- a book holds what it held, with the same numbers, and each index is that of its paper
pub record SameHeld (was is : Book) : Type 0 where
  pub indexed : IndexesOf (held is).papers (vec_items is.indexes)
  pub held : held is ≡ held was
  pub numbers : vec_items is.numbers ≡ vec_items was.numbers
  pub all_read : is.all_read ≡ was.all_read

-- six numbers as the input of a pool has them: they say this certificate, and the flag is 0 or 1
pub record SixNumbers (six : List ℕ) (c : Certificate) : Type 0 where
  pub size : length six ≡ 6
  pub certificate : certificate_at six 0 ≡ c
  pub flag : slice_index six 4 ≤ 1

-- there are no papers, or the first is no permit
abbrev pub NoFirstPermit : (papers : List (List ℕ)) → Type 0
NoFirstPermit papers = (c : Certificate) → Permit (paper_at papers 0) c → ⊥
