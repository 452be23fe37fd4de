-- Where a reader rests, some bytes complete the rows, and no bytes do so only before a tag of the outermost row.
use Rattle.std.proofs.Common.{◌≡◌, ℕ, ◌+◌, ◌*◌, ◌<◌, ◌≤◌, List, [], ◌∷◌, ◌++◌, length, sym, refl, ap, subst, inl, inr, ⊎_elim, arith, length-append}
use Rattle.std.proofs.lemmas.Bool.{cases_eq}
use Rattle.format.specs.Elements.{written_length}
use Rattle.format.proofs.Lengths.{starts_long}
use Rattle.format.proofs.Rests.{Fills, room}
use Rattle.format.proofs.Fillings.{Kind, filling, filling_inside}
use Rattle.element.specs.Limits.{longest}
use Rattle.element.specs.Machine.{taken}
use Rattle.element.specs.declared.progress.position.Position.{Position}
use Rattle.element.specs.declared.progress.position.Position.TheVariants.{Tag, Length, OneByte, TwoBytes, LowByte, Header, Contents, Nowhere}
use Rattle.element.proofs.Standing.{Standing, fillable, asks, completed}
use Rattle.element.proofs.Positions.{Completes, Tagged, Ready, long_size, high_size}

-- a position from which bytes can help
abbrev pub Alive : Position → Type 0
Alive Tag = Unit {0}
Alive (Length t) = Unit {0}
Alive (OneByte t) = Unit {0}
Alive (TwoBytes t) = Unit {0}
Alive (LowByte t k) = Unit {0}
Alive (Header t n) = Unit {0}
Alive (Contents n) = Unit {0}
Alive Nowhere = ⊥

-- a position within an element
abbrev pub Inner : Position → Type 0
Inner Tag = ⊥
Inner (Length t) = Unit {0}
Inner (OneByte t) = Unit {0}
Inner (TwoBytes t) = Unit {0}
Inner (LowByte t k) = Unit {0}
Inner (Header t n) = Unit {0}
Inner (Contents n) = Unit {0}
Inner Nowhere = ⊥

kind_of : (d t n : ℕ) → Tagged d t → (n ≡ 1 → ⊥) → Kind d t n
kind_of d t n tagged o = ⊎_elim inl (λ k. inr (k.0, k.1, k.2, o)) tagged

module _ (d : ℕ) (rows : List ℕ) (h : Standing rows) where
  completes_length : (t : ℕ) → Ready (Length t) d (room rows) → (c : List ℕ) × Completes (Length t) d rows c
  completes_length t r =
      ⊎_elim
      (λ low. ⊎_elim (λ e. let f = completed d t 1 rows h (omega arith) (omega arith) (omega arith) (inl low) in (1 ∷ f.0, f.1)) (λ n. let f = completed d t 0 rows h (omega arith) (omega (arith, r.0)) (omega arith) (inl low) in (0 ∷ f.0, f.1)) (cases_eq (room rows) (taken 0 + 1)))
      (λ k. let f = completed d t 0 rows h (omega arith) (omega (arith, r.0)) (omega (arith, k.3)) (inr (k.0, k.1, k.2, omega arith)) in (0 ∷ f.0, f.1))
      r.1

  completes_one : (t : ℕ) → Ready (OneByte t) d (room rows) → (c : List ℕ) × Completes (OneByte t) d rows c
  completes_one t r =
      ⊎_elim (λ e. let f = completed d t 129 rows h (omega arith) (omega arith) (omega arith) (kind_of d t 129 r.1 (omega arith)) in (129 ∷ f.0, f.1))
      (λ n. let f = completed d t 128 rows h (omega arith) (omega (arith, r.0)) (omega arith) (kind_of d t 128 r.1 (omega arith)) in (128 ∷ f.0, f.1))
      (cases_eq (room rows) (taken 128 + 1))

  completes_two : (t : ℕ) → Ready (TwoBytes t) d (room rows) → (c : List ℕ) × Completes (TwoBytes t) d rows c
  completes_two t r =
      ⊎_elim (λ e. let f = completed d t 257 rows h (omega arith) (omega arith) (omega arith) (kind_of d t 257 r.1 (omega arith)) in (1 ∷ (1 ∷ f.0), f.1))
      (λ n. let f = completed d t 256 rows h (omega arith) (omega (arith, r.0)) (omega arith) (kind_of d t 256 r.1 (omega arith)) in (1 ∷ (0 ∷ f.0), f.1))
      (cases_eq (room rows) (taken 256 + 1))

  low_came : (t k x : ℕ) (c : List ℕ) → 0 < k → x < 256 → Fills d longest rows (t ∷ (written_length (256 * k + x) ++ c)) → Fills d longest rows (t ∷ (130 ∷ (k ∷ (x ∷ c))))
  low_came t k x c some byte f = subst (λ l. Fills d longest rows (t ∷ l)) (sym (starts_long (130 ∷ (k ∷ (x ∷ c))) (omega arith) refl some byte)) f

  completes_low : (t k : ℕ) → Ready (LowByte t k) d (room rows) → (c : List ℕ) × Completes (LowByte t k) d rows c
  completes_low t k r = let s = high_size k r.0 in ⊎_elim (λ e. with_low 1 (omega arith) (omega arith) (omega arith)) (λ n. with_low 0 (omega arith) (omega (arith, r.2)) (omega arith)) (cases_eq (room rows) (taken (256 * k) + 1))
    where
      with_low : (x : ℕ) → x < 256 → 4 + (256 * k + x) ≤ room rows → (4 + (256 * k + x) + 1 ≡ room rows → ⊥) → (c : List ℕ) × Completes (LowByte t k) d rows c
      with_low x byte l o =
          let s = long_size k x r.0 byte in
          let f = completed d t (256 * k + x) rows h (omega (arith, r.1)) (omega arith) (omega arith) (kind_of d t (256 * k + x) r.3 (omega (arith, r.0))) in
          (x ∷ f.0, low_came t k x f.0 r.0 byte f.1)

  -- some bytes complete the rows
  pub completable : (p : Position) → Ready p d (room rows) → Alive p → (c : List ℕ) × Completes p d rows c
  completable Tag r a = filling d longest rows (omega arith) (fillable rows h)
  completable (Length t) r a = completes_length t r
  completable (OneByte t) r a = completes_one t r
  completable (TwoBytes t) r a = completes_two t r
  completable (LowByte t k) r a = completes_low t k r
  completable (Header t n) r a = absurd r
  completable (Contents n) r a = filling_inside d longest n rows (omega arith) (fillable rows h)
  completable Nowhere r a = absurd a

  -- no bytes do not end an element
  pub unfinished : (p : Position) → Ready p d (room rows) → Inner p → Completes p d rows [] → ⊥
  unfinished Tag r i f = i
  unfinished (Length t) r i f = let a = asks d rows t [] h (omega (arith, r.0)) f in omega arith
  unfinished (OneByte t) r i f = let a = asks d rows t (129 ∷ []) h (omega (arith, r.0)) f in omega arith
  unfinished (TwoBytes t) r i f = let a = asks d rows t (130 ∷ []) h (omega (arith, r.0)) f in omega arith
  unfinished (LowByte t k) r i f = let a = asks d rows t (130 ∷ (k ∷ [])) h (omega (arith, r.2)) f in omega arith
  unfinished (Header t n) r i f = r
  unfinished (Contents n) r i f = omega (arith, f.size, ap length f.is, length-append f.contents f.behind)
  unfinished Nowhere r i f = f
