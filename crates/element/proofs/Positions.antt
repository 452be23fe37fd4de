-- What completes the rows from a position on, and that one more byte leads where the definition says.
use Rattle.std.proofs.Common.{◌≡◌, ℕ, zero, suc, ◌+◌, ◌-◌, ◌*◌, ◌<◌, ◌≤◌, true, false, cond, ◌&&◌, ◌||◌, eqb, ltb, leb, ◌⊎◌, List, [], ◌∷◌, ◌++◌, length, sym, refl, ap, ◌∙◌, subst, inl, inr, ⊎_elim, arith, length-append}
use Rattle.std.proofs.lemmas.Bool.{ltb-true, ltb-false, leb-true, eqb-true, eqb-false, lt-ltb, and_from, and_parts, and_cases, or_cases, or_parts, cond_both, leb-false}
use Rattle.format.specs.Elements.{first_constructed, written_length, all_bytes}
use Rattle.format.proofs.Lengths.{short, middle, starts_long}
use Rattle.format.proofs.Rests.{Fills, room, Inside}
use Rattle.element.specs.Limits.{longest}
use Rattle.element.specs.Machine.{taken, after_tag, after_first, after_high, next_position}
use Rattle.element.specs.declared.progress.position.Position.{Position}
use Rattle.element.specs.declared.progress.position.Position.TheVariants.{Tag, Length, OneByte, TwoBytes, LowByte, Header, Contents, Nowhere}
use Rattle.element.proofs.Standing.{Standing, Asks, asks}

-- a length from 256 on takes three bytes
pub long_size : (k x : ℕ) → 0 < k → x < 256 → length (written_length (256 * k + x)) ≡ 3
long_size k x some byte = omega (arith, ap length (starts_long (130 ∷ (k ∷ (x ∷ []))) (omega arith) refl some byte), length-append (written_length (256 * k + x)) [])

pub high_size : (k : ℕ) → 0 < k → length (written_length (256 * k)) ≡ 3
high_size k some = let same : 256 * k + 0 ≡ 256 * k = omega arith in ap (λ n. length (written_length n)) (sym same) ∙ long_size k 0 some (omega arith)

-- the bytes complete the rows: a header that has begun counts as still to come
abbrev pub Completes : Position → (d : ℕ) → (rows c : List ℕ) → Type 0
Completes Tag d rows c = Fills d longest rows c
Completes (Length t) d rows c = Fills d longest rows (t ∷ c)
Completes (OneByte t) d rows c = Fills d longest rows (t ∷ (129 ∷ c))
Completes (TwoBytes t) d rows c = Fills d longest rows (t ∷ (130 ∷ c))
Completes (LowByte t h) d rows c = Fills d longest rows (t ∷ (130 ∷ (h ∷ c)))
Completes (Header t n) d rows c = Fills d longest rows (t ∷ (written_length n ++ c))
Completes (Contents n) d rows c = Inside n (Fills d longest rows) c
Completes Nowhere d rows c = ⊥

-- a tag that may stand where d levels may open
abbrev pub Tagged : (d t : ℕ) → Type 0
Tagged d t = (t < first_constructed) ⊎ ((first_constructed ≤ t) × (t < 256) × (0 < d))

-- what holds at a position in a row that needs r bytes, if a reader rests there
abbrev pub Ready : Position → (d r : ℕ) → Type 0
Ready Tag d r = 2 ≤ r
Ready (Length t) d r = (2 ≤ r) × ((t < first_constructed) ⊎ ((first_constructed ≤ t) × (t < 256) × (0 < d) × (r ≡ taken 0 + 1 → ⊥)))
Ready (OneByte t) d r = (taken 128 ≤ r) × Tagged d t
Ready (TwoBytes t) d r = (taken 256 ≤ r) × Tagged d t
Ready (LowByte t h) d r = (0 < h) × (h < 256) × (taken (256 * h) ≤ r) × Tagged d t
Ready (Header t n) d r = ⊥
Ready (Contents n) d r = 0 < n
Ready Nowhere d r = Unit {0}

-- the same, with contents that may be at their end
abbrev pub Begun : Position → (d r : ℕ) → Type 0
Begun Tag d r = Unit {0}
Begun (Length t) d r = Ready (Length t) d r
Begun (OneByte t) d r = Ready (OneByte t) d r
Begun (TwoBytes t) d r = Ready (TwoBytes t) d r
Begun (LowByte t h) d r = Ready (LowByte t h) d r
Begun (Header t n) d r = ⊥
Begun (Contents n) d r = Unit {0}
Begun Nowhere d r = Unit {0}

-- the same, with headers that are whole
abbrev pub Moved : Position → (d r : ℕ) → Type 0
Moved (Header t n) d r = (2 ≤ r) × (n ≤ longest) × Tagged d t
Moved Tag d r = Unit {0}
Moved (Length t) d r = Ready (Length t) d r
Moved (OneByte t) d r = Ready (OneByte t) d r
Moved (TwoBytes t) d r = Ready (TwoBytes t) d r
Moved (LowByte t h) d r = Ready (LowByte t h) d r
Moved (Contents n) d r = Unit {0}
Moved Nowhere d r = Unit {0}

-- a byte leads from a position to a position
pub record LeadsTo (p : Position) (d : ℕ) (rows : List ℕ) (x : ℕ) (q : Position) : Type 0 where
  pub ready : Moved q d (room rows)
  pub to : (c : List ℕ) → Completes p d rows (x ∷ c) → Completes q d rows c
  pub from : (c : List ℕ) → Completes q d rows c → Completes p d rows (x ∷ c)

leads_nowhere : (p : Position) (d : ℕ) (rows : List ℕ) (x : ℕ) → ((c : List ℕ) → Completes p d rows (x ∷ c) → ⊥) → LeadsTo p d rows x Nowhere
leads_nowhere p d rows x h = record { ready = tt; to = h; from = λ c f. absurd f }

-- a byte of the contents
shorter_by : (n x : ℕ) (Behind : List ℕ → Type 0) (c u v : List ℕ) → x ∷ c ≡ u ++ v → length u ≡ suc n → all_bytes u ≡ true → Behind v → Inside n Behind c
unfolding all_bytes
shorter_by n x Behind c [] v e l a f = absurd (omega arith)
shorter_by n x Behind c (y ∷ u) v e l a f = record { contents = u; behind = v; is = cc; size = omega arith; bytes = (and_parts (ltb y 256) (all_bytes u) a).1; rest = f }

shorter : (n x : ℕ) (Behind : List ℕ → Type 0) (c : List ℕ) → Inside (suc n) Behind (x ∷ c) → Inside n Behind c
shorter n x Behind c f = shorter_by n x Behind c f.contents f.behind f.is f.size f.bytes f.rest

longer : (n x : ℕ) (Behind : List ℕ → Type 0) (c : List ℕ) → x < 256 → Inside n Behind c → Inside (suc n) Behind (x ∷ c)
unfolding all_bytes
longer n x Behind c byte f =
    record { contents = x ∷ f.contents; behind = f.behind; is = ap (λ l. x ∷ l) f.is; size = ap suc f.size; bytes = and_from (ltb x 256) (all_bytes f.contents) (lt-ltb x 256 byte) f.bytes; rest = f.rest }

module _ (d : ℕ) (rows : List ℕ) (x : ℕ) (h : Standing rows) (byte : x < 256) where
  -- the header with a length is the bytes of the header
  leads_header : (t n : ℕ) (b : List ℕ) → 2 ≤ room rows → n ≤ longest → Tagged d t → ((c : List ℕ) → b ++ (x ∷ c) ≡ written_length n ++ c) → (p : Position) → ((c : List ℕ) → Completes p d rows c ≡ Fills d longest rows (t ∷ (b ++ c))) → LeadsTo p d rows x (Header t n)
  leads_header t n b some fits tagged same p is =
      record {
        ready = (some, fits, tagged);
        to = λ c f. subst (λ l. Fills d longest rows (t ∷ l)) (same c) (subst (λ T. T) (is (x ∷ c)) f);
        from = λ c f. subst (λ T. T) (sym (is (x ∷ c))) (subst (λ l. Fills d longest rows (t ∷ l)) (sym (same c)) f);
      }

  leads_tag : 2 ≤ room rows → LeadsTo Tag d rows x (after_tag (room rows) d x)
  leads_tag some =
      cond_both (ltb x first_constructed) (Length x) (cond (eqb d 0 || eqb (room rows) (taken 0 + 1)) Nowhere (Length x)) (LeadsTo Tag d rows x)
      (λ low. record { ready = (some, inl (ltb-true x first_constructed low)); to = λ c f. f; from = λ c f. f })
      (λ high. cond_both (eqb d 0 || eqb (room rows) (taken 0 + 1)) Nowhere (Length x) (LeadsTo Tag d rows x)
      (λ e. leads_nowhere Tag d rows x (λ c f. let a = asks d rows x c h (omega arith) f in let l = ltb-false x first_constructed high in ⊎_elim (λ z. let k = eqb-true d 0 z in omega arith) (λ z. let k = eqb-true (room rows) (taken 0 + 1) z in omega arith) (or_cases (eqb d 0) (eqb (room rows) (taken 0 + 1)) e)))
      (λ e. let o = or_parts (eqb d 0) (eqb (room rows) (taken 0 + 1)) e in record { ready = (some, inr (ltb-false x first_constructed high, byte, omega (arith, eqb-false d 0 o.0), eqb-false (room rows) (taken 0 + 1) o.1)); to = λ c f. f; from = λ c f. f }))

  leads_first : (t : ℕ) → Ready (Length t) d (room rows) → LeadsTo (Length t) d rows x (after_first (room rows) t x)
  leads_first t ready =
      let tagged : Tagged d t = ⊎_elim inl (λ k. inr (k.0, k.1, k.2)) ready.1 in
      cond_both (ltb x 128) (Header t x) (cond (eqb x 129 && leb (taken 128) (room rows)) (OneByte t) (cond (eqb x 130 && leb (taken 256) (room rows)) (TwoBytes t) Nowhere)) (LeadsTo (Length t) d rows x)
      (λ low. let s = short x (ltb-true x 128 low) in leads_header t x [] ready.0 (omega arith) tagged (λ c. ap (λ l. l ++ c) (sym s)) (Length t) (λ c. refl))
      (λ high. let l = ltb-false x 128 high in cond_both (eqb x 129 && leb (taken 128) (room rows)) (OneByte t) (cond (eqb x 130 && leb (taken 256) (room rows)) (TwoBytes t) Nowhere) (LeadsTo (Length t) d rows x)
      (λ one. let p = and_parts (eqb x 129) (leb (taken 128) (room rows)) one in let e = eqb-true x 129 p.0 in
      record { ready = (leb-true (taken 128) (room rows) p.1, tagged); to = λ c f. subst (λ y. Fills d longest rows (t ∷ (y ∷ c))) e f; from = λ c f. subst (λ y. Fills d longest rows (t ∷ (y ∷ c))) (sym e) f })
      (λ not-one. cond_both (eqb x 130 && leb (taken 256) (room rows)) (TwoBytes t) Nowhere (LeadsTo (Length t) d rows x)
      (λ two. let p = and_parts (eqb x 130) (leb (taken 256) (room rows)) two in let e = eqb-true x 130 p.0 in
      record { ready = (leb-true (taken 256) (room rows) p.1, tagged); to = λ c f. subst (λ y. Fills d longest rows (t ∷ (y ∷ c))) e f; from = λ c f. subst (λ y. Fills d longest rows (t ∷ (y ∷ c))) (sym e) f })
      (λ not-two. leads_nowhere (Length t) d rows x (λ c f. let a = asks d rows t (x ∷ c) h (omega (arith, ready.0)) f in first_fails a l (and_cases (eqb x 129) (leb (taken 128) (room rows)) not-one) (and_cases (eqb x 130) (leb (taken 256) (room rows)) not-two)))))
    where
      first_fails : {c : List ℕ} → Asks d rows t (x ∷ c) → 128 ≤ x → (eqb x 129 ≡ false) ⊎ (leb (taken 128) (room rows) ≡ false) → (eqb x 130 ≡ false) ⊎ (leb (taken 256) (room rows) ≡ false) → ⊥
      first_fails a l u v =
          ⊎_elim (λ i. ⊎_elim (λ j. let p = eqb-false x 129 i in let q = eqb-false x 130 j in omega arith) (λ j. let p = eqb-false x 129 i in let q = leb-false (taken 256) (room rows) j in omega arith) v)
          (λ i. ⊎_elim (λ j. let p = leb-false (taken 128) (room rows) i in let q = eqb-false x 130 j in omega arith) (λ j. let p = leb-false (taken 128) (room rows) i in let q = leb-false (taken 256) (room rows) j in omega arith) v)
          u

  leads_one : (t : ℕ) → Ready (OneByte t) d (room rows) → LeadsTo (OneByte t) d rows x (cond (ltb x 128) Nowhere (Header t x))
  leads_one t ready =
      cond_both (ltb x 128) Nowhere (Header t x) (LeadsTo (OneByte t) d rows x)
      (λ low. leads_nowhere (OneByte t) d rows x (λ c f. let a = asks d rows t (129 ∷ (x ∷ c)) h (omega (arith, ready.0)) f in let l = ltb-true x 128 low in omega arith))
      (λ high. let s = middle x (ltb-false x 128 high) byte in leads_header t x (129 ∷ []) (omega (arith, ready.0)) (omega arith) ready.1 (λ c. ap (λ l. l ++ c) (sym s)) (OneByte t) (λ c. refl))

  leads_high : (t : ℕ) → Ready (TwoBytes t) d (room rows) → LeadsTo (TwoBytes t) d rows x (after_high (room rows) t x)
  leads_high t ready =
      cond_both (eqb x 0 || ltb (room rows) (taken (256 * x))) Nowhere (LowByte t x) (LeadsTo (TwoBytes t) d rows x)
      (λ e. leads_nowhere (TwoBytes t) d rows x (λ c f. let a = asks d rows t (130 ∷ (x ∷ c)) h (omega (arith, ready.0)) f in
      ⊎_elim (λ z. let k = eqb-true x 0 z in omega arith) (λ z. let k = ltb-true (room rows) (taken (256 * x)) z in let s = high_size x (omega arith) in omega arith) (or_cases (eqb x 0) (ltb (room rows) (taken (256 * x))) e)))
      (λ e. let o = or_parts (eqb x 0) (ltb (room rows) (taken (256 * x))) e in
      record { ready = (omega (arith, eqb-false x 0 o.0), byte, ltb-false (room rows) (taken (256 * x)) o.1, ready.1); to = λ c f. f; from = λ c f. f })

  leads_low : (t k : ℕ) → Ready (LowByte t k) d (room rows) → LeadsTo (LowByte t k) d rows x (Header t (256 * k + x))
  leads_low t k ready =
      let same : (c : List ℕ) → 130 ∷ (k ∷ (x ∷ c)) ≡ written_length (256 * k + x) ++ c = λ c. starts_long (130 ∷ (k ∷ (x ∷ c))) (omega arith) refl ready.0 byte in
      leads_header t (256 * k + x) (130 ∷ (k ∷ [])) (omega (arith, ready.2)) (omega (arith, ready.1)) ready.3 same (LowByte t k) (λ c. refl)

  leads_contents : (n : ℕ) → 0 < n → LeadsTo (Contents n) d rows x (Contents (n - 1))
  leads_contents zero some = absurd (omega arith)
  leads_contents (suc n) some =
      let e : suc n - 1 ≡ n = omega arith in
      record {
        ready = tt;
        to = λ c f. subst (λ k. Inside k (Fills d longest rows) c) (sym e) (shorter n x (Fills d longest rows) c f);
        from = λ c f. longer n x (Fills d longest rows) c byte (subst (λ k. Inside k (Fills d longest rows) c) e f);
      }

  -- from where a reader rests, the next byte leads to the next position
  pub leads : (p : Position) → Ready p d (room rows) → LeadsTo p d rows x (next_position (room rows) d p x)
  leads Tag r = leads_tag r
  leads (Length t) r = leads_first t r
  leads (OneByte t) r = leads_one t r
  leads (TwoBytes t) r = leads_high t r
  leads (LowByte t k) r = leads_low t k r
  leads (Header t n) r = absurd r
  leads (Contents n) r = leads_contents n r
  leads Nowhere r = leads_nowhere Nowhere d rows x (λ c f. f)
