-- The printed elements of a row tell the row.
use Rattle.std.proofs.Common.{◌≡◌, ℕ, ◌+◌, ◌<◌, true, List, [], ◌∷◌, ◌++◌, length, Some, None, Option, sym, refl, ap, ◌∙◌, subst, append_assoc, length-append, arith}
use Rattle.std.specs.Option.{unwrap_or}
use Rattle.format.specs.Elements.{Row, empty, primitive, constructed, well_formed}
use Rattle.format.proofs.Rows.{primitive_parts, constructed_parts}
use Rattle.text.specs.Texts.{element_text, indent, bytes_text}
use Rattle.text.proofs.Told.{element_line}
use Rattle.session.specs.Rows.{row_text}
use Rattle.session.specs.Promise.{RowTells}

-- nothing, or an element's line of a level further out
data Outside (level : ℕ) : (rest : List ℕ) → Type 0 where
  nothing : Outside level []
  line : (l t : ℕ) (c : Option (List ℕ)) (more : List ℕ) → l < level → Outside level (element_text l t c ++ more)

some_text : (l t : ℕ) (c : Option (List ℕ)) → 0 < length (element_text l t c)
some_text l t c = omega (arith, length-append (indent l) (bytes_text (t ∷ unwrap_or c [])))

-- what stands outside is no element of the level
not_within : (level t : ℕ) (c : Option (List ℕ)) (more : List ℕ) {rest : List ℕ} → Outside level rest → rest ≡ element_text level t c ++ more → ⊥
not_within level t c more nothing e = omega (arith, some_text level t c, ap length e, length-append (element_text level t c) more)
not_within level t c more (line l u d behind less) e = let same = element_line l level u t d c behind more e in omega (arith, same.level, less)

further_out : (level : ℕ) {rest : List ℕ} → Outside level rest → Outside (level + 1) rest
further_out level nothing = nothing
further_out level (line l t c more less) = line l t c more (omega arith)

-- behind the elements within one stand those behind it, or what is outside
behind_row : (level : ℕ) (r : Row) (rest : List ℕ) → Outside level rest → Outside (level + 1) (row_text level r ++ rest)
unfolding row_text
behind_row level empty rest o = further_out level o
behind_row level (primitive t c r) rest o = subst (Outside (level + 1)) (sym (append_assoc (element_text level t (Some c)) (row_text level r) rest)) (line level t (Some c) (row_text level r ++ rest) (omega arith))
behind_row level (constructed t q r) rest o = subst (Outside (level + 1)) (sym (append_assoc (element_text level t None) (row_text (level + 1) q ++ row_text level r) rest)) (line level t None ((row_text (level + 1) q ++ row_text level r) ++ rest) (omega arith))

told : (d e m : ℕ) (r s : Row) → well_formed d m r ≡ true → well_formed e m s ≡ true → (level : ℕ) (a b : List ℕ) → Outside level a → Outside level b → row_text level r ++ a ≡ row_text level s ++ b → (r ≡ s) × (a ≡ b)
unfolding row_text
told d e m empty empty wr ws level a b oa ob h = (refl, h)
told d e m empty (primitive u x s) wr ws level a b oa ob h = absurd (not_within level u (Some x) (row_text level s ++ b) oa (h ∙ append_assoc (element_text level u (Some x)) (row_text level s) b))
told d e m empty (constructed u p s) wr ws level a b oa ob h = absurd (not_within level u None ((row_text (level + 1) p ++ row_text level s) ++ b) oa (h ∙ append_assoc (element_text level u None) (row_text (level + 1) p ++ row_text level s) b))
told d e m (primitive t c r) empty wr ws level a b oa ob h = absurd (not_within level t (Some c) (row_text level r ++ a) ob (sym h ∙ append_assoc (element_text level t (Some c)) (row_text level r) a))
told d e m (primitive t c r) (primitive u x s) wr ws level a b oa ob h =
    let same = element_line level level t u (Some c) (Some x) (row_text level r ++ a) (row_text level s ++ b) (sym (append_assoc (element_text level t (Some c)) (row_text level r) a) ∙ h ∙ append_assoc (element_text level u (Some x)) (row_text level s) b) in
    let row : t ∷ c ≡ u ∷ x = same.row in
    let tag : t ≡ u = cc in
    let contents : c ≡ x = cc in
    let behind = told d e m r s (primitive_parts d m t c r wr).rest (primitive_parts e m u x s ws).rest level a b oa ob same.rest in
    (λ i. primitive (tag i) (contents i) (behind.0 i), behind.1)
told d e m (primitive t c r) (constructed u p s) wr ws level a b oa ob h =
    let same = element_line level level t u (Some c) None (row_text level r ++ a) ((row_text (level + 1) p ++ row_text level s) ++ b) (sym (append_assoc (element_text level t (Some c)) (row_text level r) a) ∙ h ∙ append_assoc (element_text level u None) (row_text (level + 1) p ++ row_text level s) b) in
    let row : t ∷ c ≡ u ∷ [] = same.row in
    let tag : t ≡ u = cc in
    absurd (omega (arith, (primitive_parts d m t c r wr).low, (constructed_parts e m u p s ws).high))
told d e m (constructed t q r) empty wr ws level a b oa ob h = absurd (not_within level t None ((row_text (level + 1) q ++ row_text level r) ++ a) ob (sym h ∙ append_assoc (element_text level t None) (row_text (level + 1) q ++ row_text level r) a))
told d e m (constructed t q r) (primitive u x s) wr ws level a b oa ob h =
    let same = element_line level level t u None (Some x) ((row_text (level + 1) q ++ row_text level r) ++ a) (row_text level s ++ b) (sym (append_assoc (element_text level t None) (row_text (level + 1) q ++ row_text level r) a) ∙ h ∙ append_assoc (element_text level u (Some x)) (row_text level s) b) in
    let row : t ∷ [] ≡ u ∷ x = same.row in
    let tag : t ≡ u = cc in
    absurd (omega (arith, (constructed_parts d m t q r wr).high, (primitive_parts e m u x s ws).low))
told d e m (constructed t q r) (constructed u p s) wr ws level a b oa ob h =
    let same = element_line level level t u None None ((row_text (level + 1) q ++ row_text level r) ++ a) ((row_text (level + 1) p ++ row_text level s) ++ b) (sym (append_assoc (element_text level t None) (row_text (level + 1) q ++ row_text level r) a) ∙ h ∙ append_assoc (element_text level u None) (row_text (level + 1) p ++ row_text level s) b) in
    let row : t ∷ [] ≡ u ∷ [] = same.row in
    let tag : t ≡ u = cc in
    let x = constructed_parts d m t q r wr in
    let y = constructed_parts e m u p s ws in
    let inner = told x.less y.less m q p x.within y.within (level + 1) (row_text level r ++ a) (row_text level s ++ b) (behind_row level r a oa) (behind_row level s b ob) (sym (append_assoc (row_text (level + 1) q) (row_text level r) a) ∙ same.rest ∙ append_assoc (row_text (level + 1) p) (row_text level s) b) in
    let behind = told _ _ m r s x.rest y.rest level a b oa ob inner.1 in
    (λ i. constructed (tag i) (inner.0 i) (behind.0 i), behind.1)

pub row_tells : RowTells
row_tells r s wr ws e = (told _ _ _ r s wr ws 0 [] [] nothing nothing (ap (λ l. l ++ []) e)).0
