-- Lengths: the three shapes of a written one, that at most one is written at the front of bytes, and which bytes begin with one.
use Rattle.std.proofs.Common.{◌≡◌, ℕ, ◌+◌, ◌*◌, ◌/◌, ◌%◌, ◌<◌, ◌≤◌, ◌⊎◌, List, [], ◌∷◌, ◌++◌, length, get_or, drop, sym, refl, ap, ◌∙◌, subst, inl, inr, ⊎_elim, arith}
use Rattle.std.proofs.lemmas.Bool.{lt-ltb, le-ltb, cases_lt, cases_eq}
use Rattle.format.specs.Elements.{written_length}

pub short : (n : ℕ) → n < 128 → written_length n ≡ n ∷ []
short n h = rw (lt-ltb n 128 h)

pub middle : (n : ℕ) → 128 ≤ n → n < 256 → written_length n ≡ 129 ∷ (n ∷ [])
middle n h k = rw (le-ltb n 128 h, lt-ltb n 256 k)

pub long : (n : ℕ) → 256 ≤ n → written_length n ≡ 130 ∷ (n / 256 ∷ (n % 256 ∷ []))
long n h = let k : 128 ≤ n = omega arith in rw (le-ltb n 128 k, le-ltb n 256 h)

-- a written length is one of three shapes
pub data Shape : ℕ → List ℕ → Type 0 where
  is_short : {n : ℕ} → n < 128 → Shape n (n ∷ [])
  is_middle : {n : ℕ} → 128 ≤ n → n < 256 → Shape n (129 ∷ (n ∷ []))
  is_long : {n : ℕ} → 256 ≤ n → Shape n (130 ∷ (n / 256 ∷ (n % 256 ∷ [])))

pub shape : (n : ℕ) → Shape n (written_length n)
shape n =
    ⊎_elim (λ h. subst (Shape n) (sym (short n h)) (is_short h))
    (λ h. ⊎_elim (λ k. subst (Shape n) (sym (middle n h k)) (is_middle h k)) (λ k. subst (Shape n) (sym (long n k)) (is_long k)) (cases_lt n 256)) (cases_lt n 128)

shape_size : (n : ℕ) (s : List ℕ) → Shape n s → 1 ≤ length s
shape_size n s (is_short h) = omega arith
shape_size n s (is_middle h k) = omega arith
shape_size n s (is_long h) = omega arith

-- a length takes a byte at least
pub written_some : (n : ℕ) → 1 ≤ length (written_length n)
written_some n = shape_size n (written_length n) (shape n)

-- two shapes at the front of the same bytes
same_shape : (n k : ℕ) (s t x y : List ℕ) → Shape n s → Shape k t → s ++ x ≡ t ++ y → (n ≡ k) × (x ≡ y)
same_shape n k s t x y (is_short h) (is_short g) e = (cc, cc)
same_shape n k s t x y (is_short h) (is_middle g g') e = let z : n ≡ 129 = cc in absurd (omega arith)
same_shape n k s t x y (is_short h) (is_long g) e = let z : n ≡ 130 = cc in absurd (omega arith)
same_shape n k s t x y (is_middle h h') (is_short g) e = let z : k ≡ 129 = cc in absurd (omega arith)
same_shape n k s t x y (is_middle h h') (is_middle g g') e = (cc, cc)
same_shape n k s t x y (is_middle h h') (is_long g) e = let z : ◌≡◌ {A = ℕ} 129 130 = cc in absurd (omega arith)
same_shape n k s t x y (is_long h) (is_short g) e = let z : k ≡ 130 = cc in absurd (omega arith)
same_shape n k s t x y (is_long h) (is_middle g g') e = let z : ◌≡◌ {A = ℕ} 129 130 = cc in absurd (omega arith)
same_shape n k s t x y (is_long h) (is_long g) e = let q : n / 256 ≡ k / 256 = cc in let r : n % 256 ≡ k % 256 = cc in (omega arith, cc)

pub same_length : (n k : ℕ) (x y : List ℕ) → written_length n ++ x ≡ written_length k ++ y → (n ≡ k) × (x ≡ y)
same_length n k x y e = same_shape n k (written_length n) (written_length k) x y (shape n) (shape k) e

-- which length bytes begin with, by their first bytes
pub starts_short : (b : List ℕ) → 0 < length b → get_or b 0 0 < 128 → b ≡ written_length (get_or b 0 0) ++ drop 1 b
starts_short [] h k = absurd (omega arith)
starts_short (x ∷ b) h k = rw (short x k)

pub starts_middle : (b : List ℕ) → 1 < length b → get_or b 0 0 ≡ 129 → 128 ≤ get_or b 1 0 → get_or b 1 0 < 256 → b ≡ written_length (get_or b 1 0) ++ drop 2 b
starts_middle [] h e k k' = absurd (omega arith)
starts_middle (x ∷ []) h e k k' = absurd (omega arith)
starts_middle (x ∷ (y ∷ b)) h e k k' = rw (middle y k k', e)

pub starts_long : (b : List ℕ) → 2 < length b → get_or b 0 0 ≡ 130 → 0 < get_or b 1 0 → get_or b 2 0 < 256 → b ≡ written_length (256 * get_or b 1 0 + get_or b 2 0) ++ drop 3 b
starts_long [] h e k k' = absurd (omega arith)
starts_long (x ∷ []) h e k k' = absurd (omega arith)
starts_long (x ∷ (y ∷ [])) h e k k' = absurd (omega arith)
starts_long (x ∷ (y ∷ (z ∷ b))) h e k k' =
    let n = 256 * y + z in
    let big : 256 ≤ n = omega arith in
    let high : n / 256 ≡ y = omega arith in
    let low : n % 256 ≡ z = omega arith in
    rw (long n big, high, low, e)

-- no length stands at the front of the bytes
abbrev pub NoLength : List ℕ → Type 0
NoLength b = (n : ℕ) (r : List ℕ) → b ≡ written_length n ++ r → ⊥

-- what the first bytes are if a length stands there
pub record Begins (b : List ℕ) : Type 0 where
  pub some : 0 < length b
  pub form : (get_or b 0 0 < 128) ⊎ (((get_or b 0 0 ≡ 129) × (1 < length b) × (128 ≤ get_or b 1 0) × (get_or b 1 0 < 256)) ⊎ ((get_or b 0 0 ≡ 130) × (2 < length b) × (0 < get_or b 1 0) × (get_or b 2 0 < 256)))

begins_shape : (n : ℕ) (s r : List ℕ) → Shape n s → Begins (s ++ r)
begins_shape n s r (is_short h) = record { some = omega arith; form = inl h }
begins_shape n s r (is_middle h k) = record { some = omega arith; form = inr (inl (refl, omega arith, h, k)) }
begins_shape n s r (is_long h) = record { some = omega arith; form = inr (inr (refl, omega arith, omega arith, omega arith)) }

pub begins : (b : List ℕ) (n : ℕ) (r : List ℕ) → b ≡ written_length n ++ r → Begins b
begins b n r e = subst Begins (sym e) (begins_shape n (written_length n) r (shape n))

-- the length that the first bytes say
starts : (b : List ℕ) → Begins b → (n : ℕ) × (r : List ℕ) × (b ≡ written_length n ++ r)
starts b h =
    ⊎_elim (λ s. (get_or b 0 0, drop 1 b, starts_short b h.some s))
    (λ w. ⊎_elim (λ m. (get_or b 1 0, drop 2 b, starts_middle b m.1 m.0 m.2 m.3)) (λ l. (256 * get_or b 1 0 + get_or b 2 0, drop 3 b, starts_long b l.1 l.0 l.2 l.3)) w)
    h.form

begins? : (b : List ℕ) → Begins b ⊎ (Begins b → ⊥)
begins? b = ⊎_elim (λ some. ⊎_elim (λ h. inl (record { some = some; form = inl h })) (λ h. ⊎_elim (λ e. two some e) (λ e. ⊎_elim (λ f. three some f) (λ f. inr (λ g. ⊎_elim (λ x. omega arith) (λ y. ⊎_elim (λ z. e z.0) (λ z. f z.0) y) g.form)) (cases_eq (get_or b 0 0) 130)) (cases_eq (get_or b 0 0) 129)) (cases_lt (get_or b 0 0) 128)) (λ none. inr (λ g. omega (arith, g.some))) (cases_lt 0 (length b))
  where
    two : 0 < length b → get_or b 0 0 ≡ 129 → Begins b ⊎ (Begins b → ⊥)
    two some e =
        ⊎_elim (λ k. ⊎_elim (λ l. inr (λ g. omega (arith, g.form))) (λ l. ⊎_elim (λ m. inl (record { some = some; form = inr (inl (e, k, l, m)) })) (λ m. inr (λ g. omega (arith, g.form))) (cases_lt (get_or b 1 0) 256)) (cases_lt (get_or b 1 0) 128))
        (λ k. inr (λ g. omega (arith, g.form)))
        (cases_lt 1 (length b))

    three : 0 < length b → get_or b 0 0 ≡ 130 → Begins b ⊎ (Begins b → ⊥)
    three some e =
        ⊎_elim (λ k. ⊎_elim (λ l. ⊎_elim (λ m. inl (record { some = some; form = inr (inr (e, k, l, m)) })) (λ m. inr (λ g. omega (arith, g.form))) (cases_lt (get_or b 2 0) 256)) (λ l. inr (λ g. omega (arith, g.form))) (cases_lt 0 (get_or b 1 0)))
        (λ k. inr (λ g. omega (arith, g.form)))
        (cases_lt 2 (length b))

-- bytes begin with a length, or with none
pub front_length : (b : List ℕ) → ((n : ℕ) × (r : List ℕ) × (b ≡ written_length n ++ r)) ⊎ NoLength b
front_length b = ⊎_elim (λ h. inl (starts b h)) (λ f. inr (λ n r e. f (begins b n r e))) (begins? b)

-- what the first bytes are where a length is written, and how many they are
abbrev pub Says : List ℕ → ℕ → Type 0
Says b n =
    ((n < 128) × (1 ≤ length b) × (get_or b 0 0 ≡ n) × (length (written_length n) ≡ 1))
    ⊎ (((128 ≤ n) × (n < 256) × (2 ≤ length b) × (get_or b 0 0 ≡ 129) × (get_or b 1 0 ≡ n) × (length (written_length n) ≡ 2))
    ⊎ ((256 ≤ n) × (3 ≤ length b) × (get_or b 0 0 ≡ 130) × (get_or b 1 0 ≡ n / 256) × (get_or b 2 0 ≡ n % 256) × (length (written_length n) ≡ 3)))

pub says : (b : List ℕ) (n : ℕ) (r : List ℕ) → b ≡ written_length n ++ r → Says b n
says b n r e =
    ⊎_elim (λ h. let s = short n h in subst (λ l. Says l n) (sym (e ∙ ap (λ l. l ++ r) s)) (inl (h, omega arith, refl, ap length s)))
    (λ h. ⊎_elim (λ k. let s = middle n h k in subst (λ l. Says l n) (sym (e ∙ ap (λ l. l ++ r) s)) (inr (inl (h, k, omega arith, refl, refl, ap length s)))) (λ k. let s = long n k in subst (λ l. Says l n) (sym (e ∙ ap (λ l. l ++ r) s)) (inr (inr (k, omega arith, refl, refl, refl, ap length s)))) (cases_lt n 256)) (cases_lt n 128)
