-- Elements at the front of bytes: where one stands it is one only, and whether one stands there is decided.
use Rattle.std.proofs.Common.{◌≡◌, ℕ, ◌≤◌, ◌⊎◌, List, [], ◌∷◌, ◌++◌, length, take, drop, sym, refl, ap, ◌∙◌, subst, inl, inr, ⊎_elim, append_assoc, arith, length-append, take-append-drop, length-take-le, take_at, drop_at}
use Rattle.std.proofs.lemmas.Bool.{cases_lt}
use Rattle.format.specs.Elements.{written_length, framed}
use Rattle.format.proofs.Lengths.{same_length, front_length}

-- an element with something behind it: tag, length, contents, the rest
pub framed_is : (t : ℕ) (c r : List ℕ) → framed t c ++ r ≡ t ∷ (written_length (length c) ++ (c ++ r))
unfolding framed
framed_is t c r = ap (λ l. t ∷ l) (append_assoc (written_length (length c)) c r)

-- parts of the same size of the same bytes
same_parts : (c e r s : List ℕ) → length c ≡ length e → c ++ r ≡ e ++ s → (c ≡ e) × (r ≡ s)
same_parts c e r s l h = (
  sym (take_at c r (length c) refl) ∙ ap (take (length c)) h ∙ take_at e s (length c) (sym l),
  sym (drop_at c r (length c) refl) ∙ ap (drop (length c)) h ∙ drop_at e s (length c) (sym l),
)

-- the element that begins bytes is one only
pub same_front : (t u : ℕ) (c e r s : List ℕ) → framed t c ++ r ≡ framed u e ++ s → (t ≡ u) × (c ≡ e) × (r ≡ s)
same_front t u c e r s h =
    let k : t ∷ (written_length (length c) ++ (c ++ r)) ≡ u ∷ (written_length (length e) ++ (e ++ s)) = sym (framed_is t c r) ∙ h ∙ framed_is u e s in
    let tags : t ≡ u = cc in
    let rests : written_length (length c) ++ (c ++ r) ≡ written_length (length e) ++ (e ++ s) = cc in
    let sizes = same_length (length c) (length e) (c ++ r) (e ++ s) rests in
    let parts = same_parts c e r s sizes.0 sizes.1 in
    (tags, parts.0, parts.1)

-- an element with contents of at most m bytes, at the front of bytes
pub record Front (m : ℕ) (b : List ℕ) : Type 0 where
  pub tag : ℕ
  pub contents : List ℕ
  pub behind : List ℕ
  pub fits : length contents ≤ m
  pub is : b ≡ framed tag contents ++ behind

-- a tag, a length and enough bytes behind it are an element
pub frame : (t n : ℕ) (r b : List ℕ) → n ≤ length r → b ≡ t ∷ (written_length n ++ r) → b ≡ framed t (take n r) ++ drop n r
frame t n r b h e =
    let l = length-take-le n r h in
    e ∙ ap (λ x. t ∷ (written_length n ++ x)) (sym (take-append-drop n r)) ∙ ap (λ x. t ∷ (written_length x ++ (take n r ++ drop n r))) (sym l) ∙ sym (framed_is t (take n r) (drop n r))

front_from : (m t n : ℕ) (r : List ℕ) → n ≤ m → n ≤ length r → (b : List ℕ) → b ≡ t ∷ (written_length n ++ r) → Front m b
front_from m t n r h k b e = record { tag = t; contents = take n r; behind = drop n r; fits = omega (arith, length-take-le n r k); is = frame t n r b k e }

-- a tag that has no length behind it begins no element
pub front_length_of : (m t : ℕ) (b : List ℕ) → (f : Front m (t ∷ b)) → b ≡ written_length (length f.contents) ++ (f.contents ++ f.behind)
front_length_of m t b f =
    let k : t ∷ b ≡ f.tag ∷ (written_length (length f.contents) ++ (f.contents ++ f.behind)) = f.is ∙ framed_is f.tag f.contents f.behind in
    cc

-- where a length stands behind the tag, it is that of the element
pub front_says : (m t n : ℕ) (r : List ℕ) → Front m (t ∷ (written_length n ++ r)) → (n ≤ m) × (n ≤ length r)
front_says m t n r f =
    let e = front_length_of m t (written_length n ++ r) f in
    let s = same_length n (length f.contents) r (f.contents ++ f.behind) e in
    let l = length-append f.contents f.behind in
    (omega (arith, s.0, f.fits), omega (arith, s.0, ap length s.1))

-- whether an element stands at the front of bytes is decided
pub front : (m : ℕ) (b : List ℕ) → Front m b ⊎ (Front m b → ⊥)
unfolding framed
front m [] = inr (λ f. let z : [] ≡ f.tag ∷ ((written_length (length f.contents) ++ f.contents) ++ f.behind) = f.is in let k = ap length z in omega arith)
front m (t ∷ b) =
    ⊎_elim
    (λ h. ⊎_elim
    (λ few. inr (λ f. omega (arith, (front_says m t h.0 h.1 (subst (λ x. Front m (t ∷ x)) h.2 f)).0)))
    (λ some. ⊎_elim (λ few. inr (λ f. omega (arith, (front_says m t h.0 h.1 (subst (λ x. Front m (t ∷ x)) h.2 f)).1))) (λ enough. inl (front_from m t h.0 h.1 some enough (t ∷ b) (ap (λ x. t ∷ x) h.2))) (cases_lt (length h.1) h.0))
    (cases_lt m h.0))
    (λ f. inr (λ g. f (length g.contents) (g.contents ++ g.behind) (front_length_of m t b g)))
    (front_length b)
