-- When open rows can be completed: what a header that has begun asks of the room, rows that are full, and bytes that fill a row.
use Rattle.std.proofs.Common.{◌≡◌, ℕ, zero, suc, ◌+◌, ◌<◌, ◌≤◌, true, ◌⊎◌, List, [], ◌∷◌, ◌++◌, length, sym, refl, ap, ◌∙◌, subst, inl, inr, ⊎_elim, append-nil, arith, length-append}
use Rattle.std.proofs.lemmas.List.{nil_from_length}
use Rattle.format.specs.Elements.{first_constructed, Row, empty, written_length, framed, all_bytes, Reads, Readable}
use Rattle.format.proofs.Readings.{readable_none, reads_none, after_primitive}
use Rattle.format.proofs.Rests.{taken, Fills, Closes, room, deduct, headed, Inside, primitive_came, constructed_came}
use Rattle.format.proofs.Rows.{framed_size, as_primitive, as_constructed, has_front}

-- no row is one byte
pub never_one : (d m : ℕ) (b : List ℕ) (row : Row) → Reads d m b row → length b ≡ 1 → ⊥
never_one d m b row h e =
    let f = has_front d m b row h (omega arith) in
    omega (arith, ap length f.is, framed_size f.tag f.contents f.behind)

-- k bytes of the innermost row can be given to an element: they are there, and what is left is not one byte
abbrev pub Enough : List ℕ → ℕ → Type 0
Enough [] k = ⊥
Enough (r ∷ []) k = Unit {0}
Enough (r ∷ (s ∷ rs)) k = (k ≤ r) × (k + 1 ≡ r → ⊥)

-- a tag under which contents of n bytes may stand, with d levels left
abbrev pub Kind : (d t n : ℕ) → Type 0
Kind d t n = (t < first_constructed) ⊎ ((first_constructed ≤ t) × (t < 256) × (0 < d) × (n ≡ 1 → ⊥))

-- what a tag and the bytes behind it say, if they complete open rows
pub record Heading (d m : ℕ) (rows : List ℕ) (t : ℕ) (b : List ℕ) : Type 0 where
  pub n : ℕ
  pub fits : n ≤ m
  pub kind : Kind d t n
  pub enough : Enough rows (taken n)
  pub tail : List ℕ
  pub is : b ≡ written_length n ++ tail

enough_from : (d m k : ℕ) (rows x y : List ℕ) (row : Row) → Reads d m x row → Closes d m rows (k + length x) y → Enough rows k
enough_from d m k [] x y row h c = c
enough_from d m k (r ∷ []) x y row h c = tt
enough_from d m k (r ∷ (s ∷ rs)) x y row h c = (omega (arith, c.0), λ e. never_one d m x row h (omega (arith, c.0)))

pub heading : (d m : ℕ) (rows : List ℕ) (t : ℕ) (b : List ℕ) → 0 < room rows → Fills d m rows (t ∷ b) → Heading d m rows t b
heading d m rows t b some f =
    let h = headed d m rows t b some f in
    elim h.goes [
      | as_primitive x y z rest k ↦ record { n = length h.contents; fits = z; kind = inl x; enough = enough_from d m (taken (length h.contents)) rows h.behind h.outer rest k h.closes; tail = h.contents ++ (h.behind ++ h.outer); is = h.is }
      | as_constructed less x y z w q k rest l ↦ record {
        n = length h.contents;
        fits = w;
        kind = inr (y, z, omega arith, never_one less m h.contents q k);
        enough = enough_from d m (taken (length h.contents)) rows h.behind h.outer rest l h.closes;
        tail = h.contents ++ (h.behind ++ h.outer);
        is = h.is;
      }
    ]

-- a row that needs nothing more is closed
pub closed : (d m s : ℕ) (rs c : List ℕ) → Fills d m (0 ∷ (s ∷ rs)) c → Fills (suc d) m (s ∷ rs) c
unfolding Fills
closed d m s rs c f =
    let e : f.inner ≡ [] = nil_from_length f.inner f.closes.0 in
    subst (Fills (suc d) m (s ∷ rs)) (sym (f.is ∙ ap (λ l. l ++ f.outer) e)) f.closes.1

pub reopened : (d m s : ℕ) (rs c : List ℕ) → Fills (suc d) m (s ∷ rs) c → Fills d m (0 ∷ (s ∷ rs)) c
unfolding Fills
reopened d m s rs c f = record { inner = []; outer = c; is = refl; row = empty; reads = reads_none d m; closes = (refl, f) }

-- the outermost row ends with the bytes
pub outermost : (d m r : ℕ) (c : List ℕ) → Fills d m (r ∷ []) c → Readable d m c true
unfolding Fills
outermost d m r c f = (f.row, subst (λ l. Reads d m l f.row) (sym (f.is ∙ ap (λ l. f.inner ++ l) f.closes ∙ append-nil f.inner)) f.reads)

pub to_outermost : (d m r : ℕ) (c : List ℕ) → Readable d m c true → Fills d m (r ∷ []) c
unfolding Fills
to_outermost d m r c h = record { inner = c; outer = []; is = sym (append-nil c); row = h.0; reads = h.1; closes = refl }

-- no bytes do not complete a row that needs some
pub needs_some : (d m r s : ℕ) (rs : List ℕ) → 0 < r → Fills d m (r ∷ (s ∷ rs)) [] → ⊥
unfolding Fills
needs_some d m r s rs some f = omega (arith, f.closes.0, ap length f.is, length-append f.inner f.outer)

-- a row of any size but one, by elements of two and three bytes
pub record Filler (d m r : ℕ) : Type 0 where
  pub bytes : List ℕ
  pub row : Row
  pub reads : Reads d m bytes row
  pub size : length bytes ≡ r

two_more : (d m r : ℕ) → Filler d m r → Filler d m (suc (suc r))
unfolding framed all_bytes
two_more d m r f =
    let h = after_primitive d m 0 [] f.bytes (0 ∷ (0 ∷ f.bytes)) (omega arith) refl (omega arith) refl true (f.row, f.reads) in
    record { bytes = 0 ∷ (0 ∷ f.bytes); row = h.0; reads = h.1; size = ap (λ n. suc (suc n)) f.size }

three : (d m : ℕ) → 1 ≤ m → Filler d m 3
unfolding framed all_bytes
three d m some =
    let h = after_primitive d m 0 (0 ∷ []) [] (0 ∷ (1 ∷ (0 ∷ []))) (omega arith) refl some refl true (readable_none d m) in
    record { bytes = 0 ∷ (1 ∷ (0 ∷ [])); row = h.0; reads = h.1; size = refl }

pub filler : (d m r : ℕ) → 1 ≤ m → (r ≡ 1 → ⊥) → Filler d m r
filler d m zero some h = record { bytes = []; row = empty; reads = reads_none d m; size = refl }
filler d m (suc zero) some h = absurd (h refl)
filler d m (suc (suc zero)) some h = two_more d m 0 (record { bytes = []; row = empty; reads = reads_none d m; size = refl })
filler d m (suc (suc (suc zero))) some h = three d m some
filler d m (suc (suc (suc (suc r)))) some h = two_more d m (suc (suc r)) (filler d m (suc (suc r)) some (omega arith))

-- open rows, of which none but the outermost needs one byte
unfoldable pub Fillable : List ℕ → Type 0
Fillable [] = ⊥
Fillable (r ∷ []) = Unit {0}
Fillable (r ∷ (s ∷ rs)) = (r ≡ 1 → ⊥) × Fillable (s ∷ rs)

pub filling : (d m : ℕ) (rows : List ℕ) → 1 ≤ m → Fillable rows → (c : List ℕ) × Fills d m rows c
unfolding Fills Fillable
filling d m [] some h = absurd h
filling d m (r ∷ []) some h = ([], to_outermost d m r [] (readable_none d m))
filling d m (r ∷ (s ∷ rs)) some h =
    let f = filler d m r some h.0 in
    let g = filling (suc d) m (s ∷ rs) some h.1 in
    (f.bytes ++ g.0, record { inner = f.bytes; outer = g.0; is = refl; row = f.row; reads = f.reads; closes = (f.size, g.1) })

zeros : (n : ℕ) → (c : List ℕ) × (length c ≡ n) × (all_bytes c ≡ true)
unfolding all_bytes
zeros zero = ([], refl, refl)
zeros (suc n) = let z = zeros n in (0 ∷ z.0, ap suc z.1, z.2)

-- contents of n bytes, and behind them what completes the rows
pub filling_inside : (d m n : ℕ) (rows : List ℕ) → 1 ≤ m → Fillable rows → (c : List ℕ) × Inside n (Fills d m rows) c
filling_inside d m n rows some h =
    let z = zeros n in
    let g = filling d m rows some h in
    (z.0 ++ g.0, record { contents = z.0; behind = g.0; is = refl; size = z.1; bytes = z.2; rest = g.1 })

-- what is left of the rows once an element has its bytes
pub fillable_behind : (k : ℕ) (rows : List ℕ) → Enough rows k → Fillable rows → Fillable (deduct k rows)
unfolding Fillable
fillable_behind k [] e h = h
fillable_behind k (r ∷ []) e h = h
fillable_behind k (r ∷ (s ∷ rs)) e h = (λ o. e.1 (omega (arith, e.0)), h.1)

fillable_within : (n k : ℕ) (rows : List ℕ) → (n ≡ 1 → ⊥) → Fillable (deduct k rows) → Fillable (n ∷ deduct k rows)
unfolding Fillable
fillable_within n k [] h f = absurd f
fillable_within n k (r ∷ []) h f = (h, f)
fillable_within n k (r ∷ (s ∷ rs)) h f = (h, f)

-- a header that fits can be completed
pub filling_headed : (d m t n : ℕ) (rows : List ℕ) → 1 ≤ m → n ≤ m → taken n ≤ room rows → Kind d t n → Enough rows (taken n) → Fillable rows → (c : List ℕ) × Fills d m rows (t ∷ (written_length n ++ c))
filling_headed zero m t n rows some fits roomy kind enough h =
    let low : t < first_constructed = omega arith in
    let g = filling_inside zero m n (deduct (taken n) rows) some (fillable_behind (taken n) rows enough h) in
    (g.0, primitive_came zero m t n rows g.0 low fits roomy g.1)
filling_headed (suc d) m t n rows some fits roomy kind enough h =
    let behind = fillable_behind (taken n) rows enough h in
    ⊎_elim
    (λ low. let g = filling_inside (suc d) m n (deduct (taken n) rows) some behind in (g.0, primitive_came (suc d) m t n rows g.0 low fits roomy g.1))
    (λ k. let g = filling d m (n ∷ deduct (taken n) rows) some (fillable_within n (taken n) rows k.3 behind) in (g.0, constructed_came d m t n rows g.0 k.0 k.1 fits roomy g.1))
    kind
