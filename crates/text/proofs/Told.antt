-- Texts read back: each tells what it was written of, and what stands behind it.
use Rattle.std.proofs.Common.{◌≡◌, ℕ, ◌+◌, ◌*◌, ◌/◌, ◌%◌, ◌<◌, ◌≤◌, cond, List, [], ◌∷◌, ◌++◌, length, replicate, codes, decimal, zero, suc, sym, refl, ap, ◌∙◌, subst, ⊎_elim, ◌⊎◌, inl, inr, append_assoc, append-nil, arith}
use Rattle.std.specs.List.{flat_map, All}
use Rattle.std.specs.Char.{digit_char}
use Rattle.std.specs.Option.{unwrap_or}
use Rattle.std.proofs.lemmas.List.Elements.{All-head, All-tail}
use Rattle.std.proofs.lemmas.Fmt.{decimal_by_steps, decimal_nonempty, decimal_injective}
use Rattle.std.proofs.lemmas.Bool.{lt-ltb, le-ltb, cases_lt}
use Rattle.text.specs.Meaning.{number_limit}
use Rattle.text.specs.Texts.{line_feed, space_before, hex_text, spaced, indent, chain_text, rejection_text, ill_text, bytes_text}
use Rattle.text.specs.Promise.{ElementLine, figures, none, ill, rejection, TellsLine, AnswersStand}

-- neither a blank nor the end of a line
abbrev pub Solid : List ℕ → Type 0
Solid [] = Unit {0}
Solid (b ∷ bs) = (48 ≤ b) × Solid bs

-- a blank or the end of a line stands first
abbrev pub Breaks : List ℕ → Type 0
Breaks [] = ⊥
Breaks (b ∷ bs) = b < 48

-- texts up to the first break
pub split : (a b r s : List ℕ) → Solid a → Solid b → Breaks r → Breaks s → a ++ r ≡ b ++ s → (a ≡ b) × (r ≡ s)
split [] [] r s ha hb hr hs e = (refl, e)
split [] (d ∷ b) r s ha hb hr hs e = let low = subst Breaks e hr in absurd (omega (arith, low, hb.0))
split (c ∷ a) [] r s ha hb hr hs e = let low = subst Breaks (sym e) hs in absurd (omega (arith, low, ha.0))
split (c ∷ a) (d ∷ b) r s ha hb hr hs e =
    let head : c ≡ d = cc in
    let tail : a ++ r ≡ b ++ s = cc in
    let more = split a b r s ha.1 hb.1 hr hs tail in
    (λ i. head i ∷ more.0 i, more.1)

-- figures in a row, each of which tells its number
module _ (text : ℕ → List ℕ) (P : ℕ → Type 0) (solid : (n : ℕ) → P n → Solid (text n)) (some : (n : ℕ) → P n → 0 < length (text n)) (tells : (m n : ℕ) → P m → P n → text m ≡ text n → m ≡ n) where
  -- the figures behind the first
  behind : (ns r : List ℕ) → List ℕ
  behind ns r = flat_map (space_before text) ns ++ 10 ∷ r

  breaks : (ns r : List ℕ) → Breaks (behind ns r)
  unfolding behind
  breaks [] r = omega arith
  breaks (n ∷ ns) r = omega arith

  one_figure : (m n : ℕ) (ms ns r s : List ℕ) → P m → P n → text m ++ behind ms r ≡ text n ++ behind ns s → (m ≡ n) × (behind ms r ≡ behind ns s)
  one_figure m n ms ns r s hm hn e =
      let parts = split (text m) (text n) (behind ms r) (behind ns s) (solid m hm) (solid n hn) (breaks ms r) (breaks ns s) e in
      (tells m n hm hn parts.0, parts.1)

  figures_behind : (ms ns r s : List ℕ) → All P ms → All P ns → behind ms r ≡ behind ns s → (ms ≡ ns) × (r ≡ s)
  unfolding behind
  figures_behind [] [] r s hm hn e = (refl, cc)
  figures_behind [] (n ∷ ns) r s hm hn e = let z : ◌≡◌ {A = ℕ} 10 32 = cc in absurd (omega arith)
  figures_behind (m ∷ ms) [] r s hm hn e = let z : ◌≡◌ {A = ℕ} 32 10 = cc in absurd (omega arith)
  figures_behind (m ∷ ms) (n ∷ ns) r s hm hn e =
      let tail : (text m ++ flat_map (space_before text) ms) ++ 10 ∷ r ≡ (text n ++ flat_map (space_before text) ns) ++ 10 ∷ s = cc in
      let first = one_figure m n ms ns r s (All-head P m ms hm) (All-head P n ns hn) (sym (append_assoc (text m) _ (10 ∷ r)) ∙ tail ∙ append_assoc (text n) _ (10 ∷ s)) in
      let more = figures_behind ms ns r s (All-tail P m ms hm) (All-tail P n ns hn) first.1 in
      (λ i. first.0 i ∷ more.0 i, more.1)

  figures_told : (ms ns r s : List ℕ) → All P ms → All P ns → spaced text ms ++ 10 ∷ r ≡ spaced text ns ++ 10 ∷ s → (ms ≡ ns) × (r ≡ s)
  unfolding behind
  figures_told [] [] r s hm hn e = (refl, cc)
  figures_told [] (n ∷ ns) r s hm hn e =
      let h = All-head P n ns hn in
      let none = split [] (text n) (10 ∷ r) (behind ns s) tt (solid n h) (omega arith) (breaks ns s) (e ∙ append_assoc (text n) _ (10 ∷ s)) in
      absurd (omega (arith, some n h, ap length none.0))
  figures_told (m ∷ ms) [] r s hm hn e =
      let h = All-head P m ms hm in
      let none = split [] (text m) (10 ∷ s) (behind ms r) tt (solid m h) (omega arith) (breaks ms r) (sym e ∙ append_assoc (text m) _ (10 ∷ r)) in
      absurd (omega (arith, some m h, ap length none.0))
  figures_told (m ∷ ms) (n ∷ ns) r s hm hn e =
      let first = one_figure m n ms ns r s (All-head P m ms hm) (All-head P n ns hn) (sym (append_assoc (text m) _ (10 ∷ r)) ∙ e ∙ append_assoc (text n) _ (10 ∷ s)) in
      let more = figures_behind ms ns r s (All-tail P m ms hm) (All-tail P n ns hn) first.1 in
      (λ i. first.0 i ∷ more.0 i, more.1)

  -- a line of figures tells its numbers, and what stands behind it
  pub row_told : (ms ns r s : List ℕ) → All P ms → All P ns → (spaced text ms ++ line_feed) ++ r ≡ (spaced text ns ++ line_feed) ++ s → (ms ≡ ns) × (r ≡ s)
  row_told ms ns r s hm hn e = figures_told ms ns r s hm hn (sym (append_assoc (spaced text ms) line_feed r) ∙ e ∙ append_assoc (spaced text ns) line_feed s)

-- digits of base sixteen
digit_is : (d : ℕ) → ((d < 10) × (digit_char d ≡ 48 + d)) ⊎ ((10 ≤ d) × (digit_char d ≡ 87 + d))
digit_is d = ⊎_elim (λ l. inl (l, ap (λ t. cond t (48 + d) (87 + d)) (lt-ltb d 10 l))) (λ h. inr (h, ap (λ t. cond t (48 + d) (87 + d)) (le-ltb d 10 h))) (cases_lt d 10)

digit_high : (d : ℕ) → 48 ≤ digit_char d
digit_high d = elim (digit_is d) [ inl h ↦ omega arith | inr h ↦ omega arith ]

digit_told : (a b : ℕ) → digit_char a ≡ digit_char b → a ≡ b
digit_told a b e =
    elim (digit_is a) [
      | inl h ↦ elim (digit_is b) [ inl k ↦ omega arith | inr k ↦ omega arith ]
      | inr h ↦ elim (digit_is b) [ inl k ↦ omega arith | inr k ↦ omega arith ]
    ]

hex_told : (a b : ℕ) → hex_text a ≡ hex_text b → a ≡ b
hex_told a b e =
    let high : digit_char (a / 16) ≡ digit_char (b / 16) = cc in
    let low : digit_char (a % 16) ≡ digit_char (b % 16) = cc in
    omega (arith, digit_told _ _ high, digit_told _ _ low)

-- a line of bytes tells its bytes, whatever stands behind it
pub bytes_told : (bs cs r s : List ℕ) → (spaced hex_text bs ++ line_feed) ++ r ≡ (spaced hex_text cs ++ line_feed) ++ s → (bs ≡ cs) × (r ≡ s)
bytes_told bs cs r s = row_told hex_text (λ n. Unit {0}) (λ n h. (digit_high (n / 16), (digit_high (n % 16), tt))) (λ n h. omega arith) (λ m n h k. hex_told m n) bs cs r s (λ k d lt. tt) (λ k d lt. tt)

-- blanks up to a digit
blanks_told : (m n x y : ℕ) (r s : List ℕ) → 48 ≤ x → 48 ≤ y → replicate m 32 ++ x ∷ r ≡ replicate n 32 ++ y ∷ s → (m ≡ n) × (x ∷ r ≡ y ∷ s)
blanks_told zero zero x y r s hx hy e = (refl, e)
blanks_told zero (suc n) x y r s hx hy e = let z : x ≡ 32 = cc in absurd (omega arith)
blanks_told (suc m) zero x y r s hx hy e = let z : 32 ≡ y = cc in absurd (omega arith)
blanks_told (suc m) (suc n) x y r s hx hy e =
    let tail : replicate m 32 ++ x ∷ r ≡ replicate n 32 ++ y ∷ s = cc in
    let more = blanks_told m n x y r s hx hy tail in
    (ap (λ k. suc k) more.0, more.1)

pub element_line : ElementLine
element_line k l t u c d r s e =
    let row = bytes_text (t ∷ unwrap_or c []) in
    let row' = bytes_text (u ∷ unwrap_or d []) in
    let parts = blanks_told (2 * k) (2 * l) (digit_char (t / 16)) (digit_char (u / 16)) _ _ (digit_high (t / 16)) (digit_high (u / 16)) (sym (append_assoc (indent k) row r) ∙ e ∙ append_assoc (indent l) row' s) in
    let same = bytes_told (t ∷ unwrap_or c []) (u ∷ unwrap_or d []) r s parts.1 in
    record { level = omega (arith, parts.0); row = same.0; rest = same.1 }

-- its first byte is no first letter of a word
Low : List ℕ → Type 0
Low [] = ⊥
Low (b ∷ bs) = b < 105

low_front : (t u : List ℕ) → Low t → Low (t ++ u)
unfolding Low
low_front [] u h = absurd h
low_front (b ∷ t) u h = h

module _ (text : ℕ → List ℕ) (P : ℕ → Type 0) (low : (n : ℕ) → P n → Low (text n)) where
  row_low : (ns r : List ℕ) → All P ns → Low ((spaced text ns ++ line_feed) ++ r)
  unfolding Low
  row_low [] r h = omega arith
  row_low (n ∷ ns) r h = low_front _ r (low_front _ line_feed (low_front (text n) _ (low n (All-head P n ns h))))

-- a number in base ten
Numerals : List ℕ → Type 0
Numerals ds = Solid ds × Low ds

solid_push : (ds : List ℕ) (d : ℕ) → Solid ds → 48 ≤ d → Solid (ds ++ d ∷ [])
solid_push [] d h k = (k, tt)
solid_push (b ∷ ds) d h k = (h.0, solid_push ds d h.1 k)

numerals : (n : ℕ) → n < number_limit → Numerals (decimal n)
unfolding Numerals Low
numerals n lt = decimal_by_steps (λ m ds. Numerals ds) (λ m h. ((omega arith, tt), omega arith)) (λ m ds ten h. (solid_push ds (48 + m % 10) h.0 (omega arith), low_front ds _ h.1)) n lt

number_told : (m n : ℕ) (t u : List ℕ) → m < number_limit → n < number_limit → Breaks t → Breaks u → decimal m ++ t ≡ decimal n ++ u → (m ≡ n) × (t ≡ u)
unfolding Numerals
number_told m n t u hm hn ht hu e =
    let parts = split (decimal m) (decimal n) t u (numerals m hm).0 (numerals n hn).0 ht hu e in
    (decimal_injective m n hm hn parts.0, parts.1)

-- a number at the end of a line
last_told : (m n : ℕ) (r s : List ℕ) → m < number_limit → n < number_limit → (decimal m ++ line_feed) ++ r ≡ (decimal n ++ line_feed) ++ s → (m ≡ n) × (r ≡ s)
last_told m n r s hm hn e =
    let parts = number_told m n (10 ∷ r) (10 ∷ s) hm hn (omega arith) (omega arith) (sym (append_assoc (decimal m) line_feed r) ∙ e ∙ append_assoc (decimal n) line_feed s) in
    (parts.0, cc)

ill_told : (m n : ℕ) (r s : List ℕ) → m < number_limit → n < number_limit → ill_text m ++ r ≡ ill_text n ++ s → (m ≡ n) × (r ≡ s)
ill_told m n r s hm hn e = last_told m n r s hm hn cc

rejection_told : (k m l n : ℕ) (r s : List ℕ) → k < number_limit → m < number_limit → l < number_limit → n < number_limit → rejection_text k m ++ r ≡ rejection_text l n ++ s → (k ≡ l) × (m ≡ n) × (r ≡ s)
rejection_told k m l n r s hk hm hl hn e =
    let at_place = λ (p : ℕ). codes " at " ++ (decimal p ++ line_feed) in
    let after : (decimal k ++ at_place m) ++ r ≡ (decimal l ++ at_place n) ++ s = cc in
    let first = number_told k l (at_place m ++ r) (at_place n ++ s) hk hl (omega arith) (omega arith) (sym (append_assoc (decimal k) (at_place m) r) ∙ after ∙ append_assoc (decimal l) (at_place n) s) in
    let second = last_told m n r s hm hn (cc (first.1)) in
    (first.0, second.0, second.1)

module _ (limit : ℕ) (figures_text : List ℕ → List ℕ) (low : (ns r : List ℕ) → All (λ n. n < limit) ns → Low (figures_text ns ++ r)) (told : (ms ns r s : List ℕ) → All (λ n. n < limit) ms → All (λ n. n < limit) ns → figures_text ms ++ r ≡ figures_text ns ++ s → (ms ≡ ns) × (r ≡ s)) where
  -- a row is no word
  no_word : (ns r : List ℕ) (b : ℕ) (t : List ℕ) → All (λ n. n < limit) ns → 105 ≤ b → figures_text ns ++ r ≡ b ∷ t → ⊥
  unfolding Low
  no_word ns r b t h high e = let first = subst Low e (low ns r h) in omega (arith, first)

  line_told : TellsLine limit figures_text
  line_told (figures ms) (figures ns) r s ha hb e = let h = told ms ns r s ha hb e in (ap figures h.0, h.1)
  line_told (figures ms) none r s ha hb e = absurd (no_word ms r 110 _ ha (omega arith) e)
  line_told (figures ms) (ill at) r s ha hb e = absurd (no_word ms r 105 _ ha (omega arith) e)
  line_told (figures ms) (rejection number place) r s ha hb e = absurd (no_word ms r 114 _ ha (omega arith) e)
  line_told none (figures ns) r s ha hb e = absurd (no_word ns s 110 _ hb (omega arith) (sym e))
  line_told none none r s ha hb e = (refl, cc)
  line_told none (ill at) r s ha hb e = let z : ◌≡◌ {A = ℕ} 110 105 = cc in absurd (omega arith)
  line_told none (rejection number place) r s ha hb e = let z : ◌≡◌ {A = ℕ} 110 114 = cc in absurd (omega arith)
  line_told (ill at) (figures ns) r s ha hb e = absurd (no_word ns s 105 _ hb (omega arith) (sym e))
  line_told (ill at) none r s ha hb e = let z : ◌≡◌ {A = ℕ} 105 110 = cc in absurd (omega arith)
  line_told (ill m) (ill n) r s ha hb e = let h = ill_told m n r s ha hb e in (ap ill h.0, h.1)
  line_told (ill at) (rejection number place) r s ha hb e = let z : ◌≡◌ {A = ℕ} 105 114 = cc in absurd (omega arith)
  line_told (rejection number place) (figures ns) r s ha hb e = absurd (no_word ns s 114 _ hb (omega arith) (sym e))
  line_told (rejection number place) none r s ha hb e = let z : ◌≡◌ {A = ℕ} 114 110 = cc in absurd (omega arith)
  line_told (rejection number place) (ill at) r s ha hb e = let z : ◌≡◌ {A = ℕ} 114 105 = cc in absurd (omega arith)
  line_told (rejection k m) (rejection l n) r s ha hb e = let h = rejection_told k m l n r s ha.0 ha.1 hb.0 hb.1 e in (λ i. rejection (h.0 i) (h.1 i), h.2)

decimal_low : (n : ℕ) → n < number_limit → Low (decimal n)
unfolding Numerals
decimal_low n lt = (numerals n lt).1

hex_low : (b : ℕ) → b < 256 → Low (hex_text b)
unfolding Low
hex_low b lt = elim (digit_is (b / 16)) [ inl h ↦ omega arith | inr h ↦ omega arith ]

pub chain_told : (ms ns r s : List ℕ) → All (λ n. n < number_limit) ms → All (λ n. n < number_limit) ns → chain_text ms ++ r ≡ chain_text ns ++ s → (ms ≡ ns) × (r ≡ s)
unfolding Numerals
chain_told ms ns r s = row_told decimal (λ n. n < number_limit) (λ n h. (numerals n h).0) (λ n h. decimal_nonempty n h) (λ m n h k e. decimal_injective m n h k e) ms ns r s

chain_low : (ns r : List ℕ) → All (λ n. n < number_limit) ns → Low (chain_text ns ++ r)
chain_low ns r h = row_low decimal (λ n. n < number_limit) decimal_low ns r h

-- the papers of a chain print as no word
pub no_chain : (ns : List ℕ) (b : ℕ) (t : List ℕ) → All (λ n. n < number_limit) ns → 105 ≤ b → chain_text ns ≡ b ∷ t → ⊥
no_chain ns b t h high e = no_word number_limit chain_text chain_low chain_told ns [] b t h high (append-nil (chain_text ns) ∙ e)

pub answers_stand : AnswersStand
answers_stand = record {
  chains = line_told number_limit chain_text chain_low chain_told;
  bytes = line_told 256 bytes_text (λ ns r h. row_low hex_text (λ n. n < 256) hex_low ns r h) (λ ms ns r s h k e. bytes_told ms ns r s e);
  elements = element_line;
}
