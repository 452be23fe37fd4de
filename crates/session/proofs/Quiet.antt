-- Texts whose lines bring and ask nothing.
use Rattle.std.proofs.Common.{◌≡◌, ℕ, zero, suc, List, [], ◌∷◌, ◌++◌, Some, None, Option, refl, ap, ◌∙◌, subst, arith}
use Rattle.std.specs.Option.{option_map}
use Rattle.std.specs.List.{All}
use Rattle.format.specs.Elements.{written, framed}
use Rattle.certificate.specs.Permits.{permit_row}
use Rattle.text.specs.Meaning.{Meaning, nothing, paper, seals, trusted, piece, chain, meaning}
use Rattle.text.specs.Reading.{StoresWords, stores_paper, stores_seals, stores_trusted, stores_path}
use Rattle.text.specs.Tokens.{words}
use Rattle.text.specs.inner.Figures.{both, numbers, all_of}
use Rattle.text.specs.inner.Saying.{words_say}
use Rattle.session.specs.Answers.{Answered}
use Rattle.session.specs.Books.{Brought, brought_by, brings, paper_at}
use Rattle.session.specs.Writing.{StoresNothing, says_nothing, no_seals, no_trusted}
use Rattle.session.specs.inner.Held.{NoFirstPermit}

abbrev pub Quiet : List (List ℕ) → Type 0
Quiet ls = All (λ line. StoresNothing (meaning line)) ls

-- the first line, and those behind it
pub first_quiet : (ls left : List (List ℕ)) (line : List ℕ) → ls ≡ line ∷ left → Quiet ls → StoresNothing (meaning line)
first_quiet ls left line e q = let r = subst Quiet e q in r zero line (omega arith)

pub rest_quiet : (ls left : List (List ℕ)) (line : List ℕ) → ls ≡ line ∷ left → Quiet ls → Quiet left
rest_quiet ls left line e q = let r = subst Quiet e q in λ k d h. r (suc k) d (omega arith)

-- what such a line says, case by case
StoredAs : Option Meaning → Type 0
StoredAs None = ⊥
StoredAs (Some nothing) = Unit {0}
StoredAs (Some (paper bytes)) = ⊥
StoredAs (Some (seals marks)) = marks ≡ []
StoredAs (Some (trusted marks)) = marks ≡ []
StoredAs (Some (piece p path)) = ⊥
StoredAs (Some (chain first day)) = ⊥

stored_as : (o : Option Meaning) → StoresNothing o → StoredAs o
unfolding StoredAs
stored_as _ says_nothing = tt
stored_as _ no_seals = refl
stored_as _ no_trusted = refl

some_bytes : (b : ℕ) (bs : List ℕ) → b ∷ bs ≡ [] → ⊥
some_bytes b bs e = cc

-- words that are stored are bytes, a path, or at least one mark
stored_bytes : (o : Option (List ℕ)) → StoredAs (option_map paper o) → ⊥
unfolding StoredAs
stored_bytes None k = k
stored_bytes (Some bs) k = k

stored_path : (o : Option ℕ) (p : Option (List ℕ)) → StoredAs (both piece o p) → ⊥
unfolding StoredAs
stored_path None p k = k
stored_path (Some n) None k = k
stored_path (Some n) (Some ns) k = k

stored_mark : (make : List ℕ → Meaning) → (StoredAs None → ⊥) → ((ms : List ℕ) → StoredAs (Some (make ms)) → ms ≡ []) → (o : Option ℕ) (p : Option (List ℕ)) → StoredAs (option_map make (both ◌∷◌ o p)) → ⊥
stored_mark make none h None p k = none k
stored_mark make none h (Some n) None k = none k
stored_mark make none h (Some n) (Some ns) k = some_bytes n ns (h (n ∷ ns) k)

stores_none : (ws : List (List ℕ)) → StoresWords ws → StoredAs (words_say ws) → ⊥
unfolding numbers all_of StoredAs
stores_none _ (stores_paper word ws) k = stored_bytes _ k
stores_none _ (stores_seals word ws) k = stored_mark seals (λ h. h) (λ ms h. h) _ _ k
stores_none _ (stores_trusted word ws) k = stored_mark trusted (λ h. h) (λ ms h. h) _ _ k
stores_none _ (stores_path p word ws) k = stored_path _ _ k

-- a line that stores words brings or asks something
pub stores_quiet : (line : List ℕ) → StoresWords (words line) → StoresNothing (meaning line) → ⊥
unfolding meaning
stores_quiet line s k = stores_none (words line) s (stored_as _ k)

-- so does a line that can't be read
pub unread_quiet : (line : List ℕ) → meaning line ≡ None → StoresNothing (meaning line) → ⊥
unfolding StoredAs
unread_quiet line e k = stored_as None (subst StoresNothing e k)

-- so does a line that says a paper or asks
pub paper_quiet : (o : Option Meaning) (bytes : List ℕ) → o ≡ Some (paper bytes) → StoresNothing o → ⊥
unfolding StoredAs
paper_quiet o bytes e k = stored_as (Some (paper bytes)) (subst StoresNothing e k)

pub piece_quiet : (o : Option Meaning) (p : ℕ) (path : List ℕ) → o ≡ Some (piece p path) → StoresNothing o → ⊥
unfolding StoredAs
piece_quiet o p path e k = stored_as (Some (piece p path)) (subst StoresNothing e k)

pub chain_quiet : (o : Option Meaning) (first day : ℕ) → o ≡ Some (chain first day) → StoresNothing o → ⊥
unfolding StoredAs
chain_quiet o first day e k = stored_as (Some (chain first day)) (subst StoresNothing e k)

-- its answer is empty
pub quiet_answer : (b : Brought) (numbers : List ℕ) (n : ℕ) (o : Option Meaning) (text : List ℕ) → StoresNothing o → Answered b numbers n o text → text ≡ []
quiet_answer b numbers n _ text says_nothing a = a
quiet_answer b numbers n _ text no_seals a = a
quiet_answer b numbers n _ text no_trusted a = a

no_papers : (o : Option Meaning) → StoresNothing o → (brings o).papers ≡ []
no_papers _ says_nothing = refl
no_papers _ no_seals = refl
no_papers _ no_trusted = refl

pub quiet_papers : (ls : List (List ℕ)) → Quiet ls → (brought_by ls).papers ≡ []
quiet_papers [] q = refl
quiet_papers (l ∷ ls) q = ap (λ ps. ps ++ (brought_by ls).papers) (no_papers (meaning l) (first_quiet (l ∷ ls) ls l refl q)) ∙ quiet_papers ls (rest_quiet (l ∷ ls) ls l refl q)

pub no_first_permit : (papers : List (List ℕ)) → papers ≡ [] → NoFirstPermit papers
unfolding permit_row written framed
no_first_permit papers e c p = some_bytes _ _ (p.is ∙ ap (λ l. paper_at l 0) e)
