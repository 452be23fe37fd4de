-- Which words are numbers and bytes.
use Rattle.std.proofs.Common.{◌≡◌, ℕ, ◌+◌, ◌-◌, ◌*◌, ◌^◌, ◌<◌, ◌≤◌, zero, suc, true, false, cond, ◌&&◌, leb, List, [], ◌∷◌, length, get_or, codes, Some, None, Option, ◌⊎◌, inl, inr, sym, refl, ap, ap₂, ◌∙◌, subst, ⊎_elim, arith}
use Rattle.std.specs.List.{All}
use Rattle.std.specs.Char.{digit_char}
use Rattle.std.proofs.lemmas.List.Elements.{All-nil, All-cons, All-head, All-tail}
use Rattle.std.proofs.lemmas.Bool.{and_from, and_right, lt-ltb, le-ltb, cases_lt, lt-leb, le-leb}
use Rattle.std.proofs.lemmas.Bool.Decides.{leb_tells}
use Rattle.std.proofs.Math.Nat.{pow-suc}
use Rattle.text.specs.inner.Figures.{both, digit, with_digit, decimal_after, below, number, hex_digit, word_bytes}
use Rattle.text.specs.Grammar.{Digit, digits_sum, IsNumber, HexDigit, HexWord, end, pair}
use Rattle.text.specs.Promise.{DigitsStand}
use Rattle.text.proofs.Values.{below_some, below_lt, from_below, number_some}
use Rattle.text.proofs.Again.{hex_again}

-- a byte within a range, or not
range_tells : (low high b : ℕ) → ((low ≤ b) × (b ≤ high) × ((leb low b && leb b high) ≡ true)) ⊎ ((leb low b && leb b high) ≡ false)
range_tells low high b =
    elim (leb_tells low b) [
      | inl h ↦ elim (leb_tells b high) [
        | inl k ↦ inl (h.1, k.1, and_from _ _ h.0 k.0)
        | inr k ↦ inr (and_right (leb low b) (leb b high) k.0)
      ]
      | inr h ↦ inr (ap (λ t. t && leb b high) h.0)
    ]

digit_tells : (b : ℕ) → (Digit b × (digit b ≡ Some (b - 48))) ⊎ (digit b ≡ None)
digit_tells b =
    elim (range_tells 48 57 b) [
      | inl h ↦ inl ((h.0, h.1), ap (λ t. cond t (Some (b - 48)) None) h.2)
      | inr h ↦ inr (ap (λ t. cond t (Some (b - 48)) None) h)
    ]

after_none : (bs : List ℕ) → decimal_after None bs ≡ None
unfolding decimal_after
after_none [] = refl
after_none (b ∷ bs) = after_none bs

-- digits only
with_none : (o : Option ℕ) (b : ℕ) → digit b ≡ None → with_digit o b ≡ None
with_none None b e = refl
with_none (Some n) b e = ap (both (λ n d. n * 10 + d) (Some n)) e

digits_from : (o : Option ℕ) (m : ℕ) (bs : List ℕ) → decimal_after o bs ≡ Some m → All Digit bs
unfolding decimal_after
digits_from o m [] e = All-nil Digit
digits_from o m (b ∷ bs) e =
    elim (digit_tells b) [
      | inl h ↦ All-cons Digit b bs h.0 (digits_from (with_digit o b) m bs e)
      | inr h ↦ let none : decimal_after (with_digit o b) bs ≡ None = ap (λ p. decimal_after p bs) (with_none o b h) ∙ after_none bs in absurd cc
    ]

one_more : (n d p v : ℕ) → (n * 10 + d) * p + v ≡ n * (p * 10) + (d * p + v)
one_more n d p v = omega arith

digit_of : (b : ℕ) → Digit b → digit b ≡ Some (b - 48)
digit_of b h = ap (λ t. cond t (Some (b - 48)) None) (and_from _ _ (le-leb 48 b h.0) (le-leb b 57 h.1))

sum_after : (n : ℕ) (bs : List ℕ) → All Digit bs → decimal_after (Some n) bs ≡ Some (n * 10 ^ length bs + digits_sum bs)
unfolding decimal_after
sum_after n [] h = ap Some (omega arith)
sum_after n (b ∷ bs) h =
    ap (λ o. decimal_after (both (λ n d. n * 10 + d) (Some n) o) bs) (digit_of b (All-head Digit b bs h))
    ∙ sum_after (n * 10 + (b - 48)) bs (All-tail Digit b bs h)
    ∙ ap Some (one_more n (b - 48) (10 ^ length bs) (digits_sum bs) ∙ ap (λ p. n * p + ((b - 48) * 10 ^ length bs + digits_sum bs)) (sym (pow-suc 10 (length bs))))

zero_times : (p s : ℕ) → 0 * p + s ≡ s
zero_times p s = omega arith

sum_from_start : (bs : List ℕ) → All Digit bs → decimal_after (Some 0) bs ≡ Some (digits_sum bs)
sum_from_start bs h = sum_after 0 bs h ∙ ap Some (zero_times (10 ^ length bs) (digits_sum bs))

pub decimal_is : (limit : ℕ) (w : List ℕ) (n : ℕ) → number limit w ≡ Some n → IsNumber limit w n
unfolding number
decimal_is limit [] n e = absurd cc
decimal_is limit (b ∷ bs) n e =
    let whole = from_below limit (decimal_after (Some 0) (b ∷ bs)) n (sym e) in
    let digits = digits_from (Some 0) n (b ∷ bs) whole in
    let sum = sum_from_start (b ∷ bs) digits in
    (record { some = omega arith; digits = digits; value = cc (whole, sum) }, below_lt limit (decimal_after (Some 0) (b ∷ bs)) n (sym e))

pub decimal_only : (limit : ℕ) (w : List ℕ) (n : ℕ) → IsNumber limit w n → number limit w ≡ Some n
decimal_only limit w n (h, lt) = number_some limit w h.some ∙ ap (below limit) (sum_from_start w h.digits ∙ ap Some (sym h.value)) ∙ below_some limit n lt

-- a list whose bytes are those of a rule
Runs : (ℕ → ℕ) → ℕ → List ℕ → Type 0
Runs f i [] = Unit {0}
Runs f i (x ∷ xs) = (x ≡ f i) × Runs f (i + 1) xs

at_run : (f : ℕ → ℕ) (i v : ℕ) (xs : List ℕ) → Runs f i xs → v < length xs → get_or xs v 0 ≡ f (i + v)
unfolding Runs
at_run f i v [] h lt = absurd (omega arith)
at_run f i zero (x ∷ xs) h lt = h.0 ∙ ap f (omega arith)
at_run f i (suc v) (x ∷ xs) h lt = at_run f (i + 1) v xs h.1 (omega arith) ∙ ap f (omega arith)

capital_char : ℕ → ℕ
capital_char d = cond (leb (suc d) 10) (48 + d) (55 + d)

small_at : (v : ℕ) → v < 16 → get_or (codes "0123456789abcdef") v 0 ≡ digit_char v
unfolding Runs
small_at v lt = at_run digit_char 0 v (codes "0123456789abcdef") (refl, (refl, (refl, (refl, (refl, (refl, (refl, (refl, (refl, (refl, (refl, (refl, (refl, (refl, (refl, (refl, tt)))))))))))))))) lt ∙ ap digit_char (omega arith)

capital_at : (v : ℕ) → v < 16 → get_or (codes "0123456789ABCDEF") v 0 ≡ capital_char v
unfolding Runs capital_char
capital_at v lt = at_run capital_char 0 v (codes "0123456789ABCDEF") (refl, (refl, (refl, (refl, (refl, (refl, (refl, (refl, (refl, (refl, (refl, (refl, (refl, (refl, (refl, (refl, tt)))))))))))))))) lt ∙ ap capital_char (omega arith)

capital_again : (d : ℕ) → d < 16 → hex_digit (capital_char d) ≡ Some d
unfolding capital_char
capital_again d lt = ⊎_elim low high (cases_lt d 10)
  where
    low : d < 10 → hex_digit (capital_char d) ≡ Some d
    low l = ap (λ t. hex_digit (cond t (48 + d) (55 + d))) (lt-ltb d 10 l) ∙ ap (λ t. hex_digit (cond t (48 + d) (87 + d))) (sym (lt-ltb d 10 l)) ∙ hex_again d lt

    high : 10 ≤ d → hex_digit (capital_char d) ≡ Some d
    high h =
        let back : 55 + d - 55 ≡ d = omega arith in
        ap (λ t. hex_digit (cond t (48 + d) (55 + d))) (le-ltb d 10 h)
        ∙ ap (λ t. cond t (Some (55 + d - 48)) (cond (leb 97 (55 + d) && leb (55 + d) 102) (Some (55 + d - 87)) (cond (leb 65 (55 + d) && leb (55 + d) 70) (Some (55 + d - 55)) None))) (and_right (leb 48 (55 + d)) (leb (55 + d) 57) (lt-leb (55 + d) 57 (omega arith)))
        ∙ ap (λ t. cond (t && leb (55 + d) 102) (Some (55 + d - 87)) (cond (leb 65 (55 + d) && leb (55 + d) 70) (Some (55 + d - 55)) None)) (lt-leb 97 (55 + d) (omega arith))
        ∙ ap (λ t. cond t (Some (55 + d - 55)) None) (and_from _ _ (le-leb 65 (55 + d) (omega arith)) (le-leb (55 + d) 70 (omega arith)))
        ∙ ap Some back

hex_is : (b v : ℕ) → HexDigit b v → hex_digit b ≡ Some v
hex_is b v (lt, inl e) = ap hex_digit (e ∙ small_at v lt) ∙ hex_again v lt
hex_is b v (lt, inr e) = ap hex_digit (e ∙ capital_at v lt) ∙ capital_again v lt

-- the digit of a value, or of a greater one in lower or upper case
small_digit : (v : ℕ) → 10 ≤ v → v < 16 → HexDigit (87 + v) v
small_digit v low high = (high, inl (sym (small_at v high ∙ ap (λ t. cond t (48 + v) (87 + v)) (le-ltb v 10 low))))

numeral : (v : ℕ) → v < 10 → HexDigit (48 + v) v
numeral v lt = (omega arith, inl (sym (small_at v (omega arith) ∙ ap (λ t. cond t (48 + v) (87 + v)) (lt-ltb v 10 lt))))

capital_digit : (v : ℕ) → 10 ≤ v → v < 16 → HexDigit (55 + v) v
unfolding capital_char
capital_digit v low high = (high, inr (sym (capital_at v high ∙ ap (λ t. cond t (48 + v) (55 + v)) (le-ltb v 10 low))))

-- a byte is a digit of base sixteen, or has no value
hex_tells : (b : ℕ) → ((v : ℕ) × HexDigit b v × (hex_digit b ≡ Some v)) ⊎ (hex_digit b ≡ None)
hex_tells b =
    elim (range_tells 48 57 b) [
      | inl h ↦ let d = subst (λ c. HexDigit c (b - 48)) (omega arith) (numeral (b - 48) (omega arith)) in inl (b - 48, d, hex_is b _ d)
      | inr n ↦ elim (range_tells 97 102 b) [
        | inl h ↦ let d = subst (λ c. HexDigit c (b - 87)) (omega arith) (small_digit (b - 87) (omega arith) (omega arith)) in inl (b - 87, d, hex_is b _ d)
        | inr m ↦ elim (range_tells 65 70 b) [
          | inl h ↦ let d = subst (λ c. HexDigit c (b - 55)) (omega arith) (capital_digit (b - 55) (omega arith) (omega arith)) in inl (b - 55, d, hex_is b _ d)
          | inr k ↦ inr (
              ap (λ t. cond t (Some (b - 48)) (cond (leb 97 b && leb b 102) (Some (b - 87)) (cond (leb 65 b && leb b 70) (Some (b - 55)) None))) n
              ∙ ap (λ t. cond t (Some (b - 87)) (cond (leb 65 b && leb b 70) (Some (b - 55)) None)) m
              ∙ ap (λ t. cond t (Some (b - 55)) None) k)
        ]
      ]
    ]

pair_sum : (h l : ℕ) → h * 16 + l ≡ 16 * h + l
pair_sum h l = omega arith

-- a word of pairs of digits
pub word_only : (w bs : List ℕ) → HexWord w bs → word_bytes w ≡ Some bs
unfolding word_bytes
word_only w bs end = refl
word_only w bs (pair {word} {bytes} b c high low hb hc more) =
    ap₂ (both ◌∷◌) (ap₂ (both (λ h l. h * 16 + l)) (hex_is b high hb) (hex_is c low hc) ∙ ap Some (pair_sum high low)) (word_only word bytes more)

pair_of : (b c high low : ℕ) (w bs : List ℕ) (o : Option (List ℕ)) → word_bytes w ≡ o → HexDigit b high → HexDigit c low → ((cs : List ℕ) → word_bytes w ≡ Some cs → HexWord w cs) → both ◌∷◌ (Some (high * 16 + low)) o ≡ Some bs → HexWord (b ∷ (c ∷ w)) bs
pair_of b c high low w bs None is hb hc more e = absurd cc
pair_of b c high low w bs (Some cs) is hb hc more e =
    let same : (high * 16 + low) ∷ cs ≡ bs = cc in
    subst (HexWord (b ∷ (c ∷ w))) (ap (λ n. n ∷ cs) (sym (pair_sum high low)) ∙ same) (pair b c high low hb hc (more cs is))

pair_is : (b c : ℕ) (w bs : List ℕ) → ((cs : List ℕ) → word_bytes w ≡ Some cs → HexWord w cs) → word_bytes (b ∷ (c ∷ w)) ≡ Some bs → HexWord (b ∷ (c ∷ w)) bs
unfolding word_bytes
pair_is b c w bs more e =
    elim (hex_tells b) [
      | inl h ↦ elim (hex_tells c) [
        | inl k ↦ pair_of b c h.0 k.0 w bs (word_bytes w) refl h.1 k.1 more (sym (ap₂ (λ m n. both ◌∷◌ (both (λ h l. h * 16 + l) m n) (word_bytes w)) h.2 k.2) ∙ e)
        | inr k ↦ let none : word_bytes (b ∷ (c ∷ w)) ≡ None = ap₂ (λ m n. both ◌∷◌ (both (λ h l. h * 16 + l) m n) (word_bytes w)) h.2 k in absurd cc
      ]
      | inr h ↦ let none : word_bytes (b ∷ (c ∷ w)) ≡ None = ap (λ m. both ◌∷◌ (both (λ h l. h * 16 + l) m (hex_digit c)) (word_bytes w)) h in absurd cc
    ]

pub word_is : (w bs : List ℕ) → word_bytes w ≡ Some bs → HexWord w bs
unfolding word_bytes
word_is [] bs e = let same : [] ≡ bs = cc in subst (HexWord []) same end
word_is (b ∷ []) bs e = absurd cc
word_is (b ∷ (c ∷ w)) bs e = pair_is b c w bs (λ cs. word_is w cs) e

pub digits_stand : DigitsStand
digits_stand = record {
  numbers = λ limit w n. (decimal_is limit w n, decimal_only limit w n);
  bytes = λ w bs. (word_is w bs, word_only w bs);
}
