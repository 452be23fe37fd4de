-- What the result of reading a line says.
use Rattle.std.specs.Prelude.{◌≡◌, ℕ, List, ◌∷◌, codes, Some, None, Option, Result, MatchResult}
use Rattle.text.specs.declared.error.LineError.{LineError}
use Rattle.text.specs.declared.error.LineError.TheVariants.{Unreadable, Memory}

-- the words of a line of which some are to be stored: bytes, marks or a path
pub data StoresWords : (words : List (List ℕ)) → Type 0 where
  stores_paper : (word : List ℕ) → (words : List (List ℕ)) → StoresWords (codes "paper" ∷ (word ∷ words))
  stores_seals : (word : List ℕ) → (words : List (List ℕ)) → StoresWords (codes "seals" ∷ (word ∷ words))
  stores_trusted : (word : List ℕ) → (words : List (List ℕ)) → StoresWords (codes "trusted" ∷ (word ∷ words))
  stores_path : (paper word : List ℕ) → (words : List (List ℕ)) → StoresWords (codes "piece" ∷ (paper ∷ (word ∷ words)))

-- why reading fails: the line can't be read, or memory ran out and some of its words were to be stored
abbrev pub FailsBy : {X : Type 0} → LineError → (said : Option X) → (stores : Type 0) → Type 0
FailsBy Unreadable said stores = said ≡ None
FailsBy (Memory e) said stores = stores

-- the value that is read shows what the words say, or reading fails for a reason
abbrev pub ReadsAs : {T X : Type 0} → (T → X) → Result T LineError → (said : Option X) → (stores : Type 0) → Type 0
ReadsAs shows r said stores = MatchResult r (λ x. said ≡ Some (shows x)) (λ e. FailsBy e said stores)
