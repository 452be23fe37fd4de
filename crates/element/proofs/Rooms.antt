-- The open rows, innermost first, as the array of what they need has them.
use Rattle.std.proofs.Common.{◌≡◌, ℕ, suc, ◌+◌, ◌<◌, List, [], ◌∷◌, length, get_or, drop, sym, refl, ap, ◌∙◌, arith}
use Rattle.std.proofs.lemmas.List.{drop_more, drop_all}
use Rattle.std.proofs.lemmas.Bool.{eq-eqb, ne_eqb}
use Rattle.element.specs.Limits.{deepest}
use Rattle.element.specs.Machine.{full}

-- an inner row, and the row around it
pub rows_two : (l : List ℕ) (k : ℕ) → k < deepest → length l ≡ deepest + 1 → drop k l ≡ get_or l k 0 ∷ (get_or l (k + 1) 0 ∷ drop (k + 1 + 1) l)
rows_two l k h e = drop_more l k 0 (omega arith) ∙ ap (λ r. get_or l k 0 ∷ r) (drop_more l (k + 1) 0 (omega arith))

-- the outermost row
pub rows_last : (l : List ℕ) (k : ℕ) → k ≡ deepest → length l ≡ deepest + 1 → drop k l ≡ get_or l k 0 ∷ []
rows_last l k h e = drop_more l k 0 (omega arith) ∙ ap (λ r. get_or l k 0 ∷ r) (drop_all (k + 1) l (omega arith))

-- a row that needs nothing more is one, with those around it
pub full_more : (l : List ℕ) (k : ℕ) → k < deepest → length l ≡ deepest + 1 → get_or l k 0 ≡ 0 → full (drop k l) ≡ suc (full (drop (k + 1) l))
full_more l k h e z = ap full (rows_two l k h e) ∙ rw (eq-eqb (get_or l k 0) 0 z) (ap (λ r. suc (full r)) (sym (drop_more l (k + 1) 0 (omega arith))))

-- a row that needs some bytes is none, nor is the outermost
pub full_some : (l : List ℕ) (k : ℕ) → k < deepest → length l ≡ deepest + 1 → (get_or l k 0 ≡ 0 → ⊥) → full (drop k l) ≡ 0
full_some l k h e n = ap full (rows_two l k h e) ∙ rw (ne_eqb (get_or l k 0) 0 n) refl

pub full_last : (l : List ℕ) (k : ℕ) → k ≡ deepest → length l ≡ deepest + 1 → full (drop k l) ≡ 0
full_last l k h e = ap full (rows_last l k h e)
