-- Numbers and their bytes: each number below 2^32 has bytes of its own.
use Rattle.std.proofs.Common.{◌≡◌, ℕ, ◌-◌, ◌*◌, ◌/◌, ◌%◌, ◌^◌, ◌<◌, ◌≤◌, true, ltb, List, [], ◌∷◌, length, get_or, take, drop, Some, sym, refl, ap, ◌∙◌, ⊎_elim, w32, arith}
use Rattle.std.specs.Int.{from_be_bytes}
use Rattle.std.proofs.Math.Nat.{mul-le-mul_right, pow-le-pow_right, pow-suc}
use Rattle.std.proofs.lemmas.List.{take_rest}
use Rattle.std.proofs.lemmas.Bool.{lt-ltb, le-ltb, cases_lt, and_from}
use Rattle.format.specs.Elements.{all_bytes}
use Rattle.format.proofs.Bytes.{all_bytes_parts}
use Rattle.certificate.specs.Numbers.{big_endian, number_size, number_bytes, bytes_value}
use Rattle.certificate.specs.inner.Fields.{Numbered}
use Rattle.certificate.specs.Promise.{NumberBytes}

-- all four bytes of a number, the higher first
abbrev pub four_bytes : ℕ → List ℕ
four_bytes n = n / 2 ^ 24 % 256 ∷ (n / 2 ^ 16 % 256 ∷ (n / 2 ^ 8 % 256 ∷ (n % 256 ∷ [])))

-- the bytes of a number, by how many they are
module _ (P : ℕ → List ℕ → Type 0) (n : ℕ) where
  by_size : n < 2 ^ 32
      → (n < 2 ^ 8 → P 1 (n % 256 ∷ []))
      → (2 ^ 8 ≤ n → n < 2 ^ 16 → P 2 (n / 256 % 256 ∷ (n % 256 ∷ [])))
      → (2 ^ 16 ≤ n → n < 2 ^ 24 → P 3 (n / 256 / 256 % 256 ∷ (n / 256 % 256 ∷ (n % 256 ∷ []))))
      → (2 ^ 24 ≤ n → P 4 (n / 256 / 256 / 256 % 256 ∷ (n / 256 / 256 % 256 ∷ (n / 256 % 256 ∷ (n % 256 ∷ [])))))
      → P (number_size n) (number_bytes n)
  unfolding number_bytes big_endian
  by_size range one two three four =
      ⊎_elim (λ h. rw (lt-ltb n (2 ^ 8) h) (one h))
      (λ a. ⊎_elim (λ h. rw (le-ltb n (2 ^ 8) a, lt-ltb n (2 ^ 16) h) (two a h))
      (λ b. ⊎_elim (λ h. rw (le-ltb n (2 ^ 8) a, le-ltb n (2 ^ 16) b, lt-ltb n (2 ^ 24) h) (three b h))
      (λ d. rw (le-ltb n (2 ^ 8) a, le-ltb n (2 ^ 16) b, le-ltb n (2 ^ 24) d) (four d)) (cases_lt n (2 ^ 24))) (cases_lt n (2 ^ 16))) (cases_lt n (2 ^ 8))

value_back : (n : ℕ) → n < 2 ^ 32 → bytes_value (number_bytes n) ≡ n
value_back n h = by_size (λ k b. bytes_value b ≡ n) n h (λ j. omega arith) (λ i j. omega arith) (λ i j. omega arith) (λ i. omega arith)

pub same_number : (n k : ℕ) → n < 2 ^ 32 → k < 2 ^ 32 → number_bytes n ≡ number_bytes k → n ≡ k
same_number n k h g e = sym (value_back n h) ∙ ap bytes_value e ∙ value_back k g

-- a number has from one to four bytes, and the first of several is not 0
pub record Shaped (b : List ℕ) : Type 0 where
  pub some : 1 ≤ length b
  pub few : length b ≤ 4
  pub least : 1 < length b → 0 < get_or b 0 0

pub shaped : (n : ℕ) → n < 2 ^ 32 → Shaped (number_bytes n)
shaped n h = by_size (λ k b. Shaped b) n h
    (λ j. record { some = omega arith; few = omega arith; least = λ l. omega arith })
    (λ i j. record { some = omega arith; few = omega arith; least = λ l. omega arith })
    (λ i j. record { some = omega arith; few = omega arith; least = λ l. omega arith })
    (λ i. record { some = omega arith; few = omega arith; least = λ l. omega arith })

pub few_bytes : (n : ℕ) → n < 2 ^ 32 → length (number_bytes n) ≤ 4
few_bytes n h = (shaped n h).few

all_more : (x : ℕ) (b : List ℕ) → x < 256 → all_bytes b ≡ true → all_bytes (x ∷ b) ≡ true
unfolding all_bytes
all_more x b h e = and_from (ltb x 256) (all_bytes b) (lt-ltb x 256 h) e

all_one : (x : ℕ) → x < 256 → all_bytes (x ∷ []) ≡ true
unfolding all_bytes
all_one x h = all_more x [] h refl

pub bytes_all : (n : ℕ) → n < 2 ^ 32 → all_bytes (number_bytes n) ≡ true
bytes_all n h =
    let a = all_one (n % 256) (omega arith) in
    let b = all_more (n / 256 % 256) (n % 256 ∷ []) (omega arith) a in
    let d = all_more (n / 256 / 256 % 256) (n / 256 % 256 ∷ (n % 256 ∷ [])) (omega arith) b in
    by_size (λ k l. all_bytes l ≡ true) n h (λ j. a) (λ i j. b) (λ i j. d) (λ i. all_more (n / 256 / 256 / 256 % 256) (n / 256 / 256 % 256 ∷ (n / 256 % 256 ∷ (n % 256 ∷ []))) (omega arith) d)

-- bytes have less than the value that one byte more could have
value_below : (b : List ℕ) → all_bytes b ≡ true → bytes_value b < 256 ^ length b
value_below [] h = omega arith
value_below (x ∷ b) h =
    let p = all_bytes_parts x b h in
    let below = value_below b p.1 in
    let most : x * 256 ^ length b ≤ 255 * 256 ^ length b = mul-le-mul_right (256 ^ length b) (omega (arith, p.0)) in
    let more : 256 ^ length (x ∷ b) ≡ 256 ^ length b * 256 = pow-suc 256 (length b) in
    omega arith

-- bytes whose value is at least 256^k are more than k
value_size : (k : ℕ) (b : List ℕ) → all_bytes b ≡ true → 256 ^ k ≤ bytes_value b → k < length b
value_size k b h l =
    ⊎_elim (λ e. e) (λ e. absurd (omega (arith, value_below b h, pow-le-pow_right {n = 256} (omega arith) e))) (cases_lt k (length b))

pub number_bytes_fewest : NumberBytes
number_bytes_fewest n h = record {
  each = bytes_all n h;
  value = value_back n h;
  some = (shaped n h).some;
  fewest = λ b each e some. by_size (λ k l. length l ≤ length b) n h
      (λ j. some)
      (λ i j. value_size 1 b each (omega arith))
      (λ i j. value_size 2 b each (omega arith))
      (λ i. value_size 3 b each (omega arith));
}

-- the last of all four bytes are those of the number
last_bytes : (n : ℕ) → n < 2 ^ 32 → drop (4 - number_size n) (four_bytes n) ≡ number_bytes n
last_bytes n h =
    let b : n / 2 ^ 16 % 256 ≡ n / 256 / 256 % 256 = omega arith in
    let a : n / 2 ^ 24 % 256 ≡ n / 256 / 256 / 256 % 256 = omega arith in
    by_size (λ k l. drop (4 - k) (four_bytes n) ≡ l) n h (λ j. refl) (λ i j. refl) (λ i j. ap (λ x. x ∷ (n / 256 % 256 ∷ (n % 256 ∷ []))) b) (λ i. λ z. a z ∷ (b z ∷ (n / 256 % 256 ∷ (n % 256 ∷ []))))

pub number_part : (n size : ℕ) (bytes : List ℕ) → n < 2 ^ 32 → size ≡ number_size n → bytes ≡ four_bytes n → take (4 - (4 - size)) (drop (4 - size) bytes) ≡ number_bytes n
number_part n size bytes h e f =
    (λ i. take (4 - (4 - e i)) (drop (4 - e i) (f i))) ∙ take_rest (four_bytes n) (4 - number_size n) ∙ last_bytes n h

-- bytes that are a number's are those of what they count to
module _ (x y z w : ℕ) (hx : x < 256) (hy : y < 256) (hz : z < 256) (hw : w < 256) where
  one_back : number_bytes (bytes_value (x ∷ [])) ≡ x ∷ []
  unfolding number_bytes big_endian
  one_back =
      let n = bytes_value (x ∷ []) in
      let a : n % 256 ≡ x = omega arith in
      rw (lt-ltb n (2 ^ 8) (omega arith)) (ap (λ k. k ∷ []) a)

  two_back : 0 < x → number_bytes (bytes_value (x ∷ (y ∷ []))) ≡ x ∷ (y ∷ [])
  unfolding number_bytes big_endian
  two_back some =
      let n = bytes_value (x ∷ (y ∷ [])) in
      let a : n / 256 % 256 ≡ x = omega arith in
      let b : n % 256 ≡ y = omega arith in
      rw (le-ltb n (2 ^ 8) (omega arith), lt-ltb n (2 ^ 16) (omega arith)) (λ i. a i ∷ (b i ∷ []))

  three_back : 0 < x → number_bytes (bytes_value (x ∷ (y ∷ (z ∷ [])))) ≡ x ∷ (y ∷ (z ∷ []))
  unfolding number_bytes big_endian
  three_back some =
      let n = bytes_value (x ∷ (y ∷ (z ∷ []))) in
      let a : n / 256 / 256 % 256 ≡ x = omega arith in
      let b : n / 256 % 256 ≡ y = omega arith in
      let d : n % 256 ≡ z = omega arith in
      rw (le-ltb n (2 ^ 8) (omega arith), le-ltb n (2 ^ 16) (omega arith), lt-ltb n (2 ^ 24) (omega arith)) (λ i. a i ∷ (b i ∷ (d i ∷ [])))

  four_back : 0 < x → number_bytes (bytes_value (x ∷ (y ∷ (z ∷ (w ∷ []))))) ≡ x ∷ (y ∷ (z ∷ (w ∷ [])))
  unfolding number_bytes big_endian
  four_back some =
      let n = bytes_value (x ∷ (y ∷ (z ∷ (w ∷ [])))) in
      let a : n / 256 / 256 / 256 % 256 ≡ x = omega arith in
      let b : n / 256 / 256 % 256 ≡ y = omega arith in
      let d : n / 256 % 256 ≡ z = omega arith in
      let e : n % 256 ≡ w = omega arith in
      rw (le-ltb n (2 ^ 8) (omega arith), le-ltb n (2 ^ 16) (omega arith), le-ltb n (2 ^ 24) (omega arith)) (λ i. a i ∷ (b i ∷ (d i ∷ (e i ∷ []))))

-- bytes of each size, and what they are read as
module _ (n : ℕ) where
  pub one_number : (b : List ℕ) → ((i : ℕ) → get_or b i 0 < 256) → length b ≡ 1 → n ≡ get_or b 0 0 → Numbered b (Some n)
  one_number [] h l e = absurd (omega arith)
  one_number (x ∷ []) h l e =
      let same : n ≡ bytes_value (x ∷ []) = omega arith in
      (omega (arith, h 0), ap number_bytes same ∙ one_back x 0 0 0 (h 0) (omega arith) (omega arith) (omega arith))
  one_number (x ∷ (y ∷ b)) h l e = absurd (omega arith)

  pub two_number : (b : List ℕ) → ((i : ℕ) → get_or b i 0 < 256) → length b ≡ 2 → 0 < get_or b 0 0 → n ≡ from_be_bytes w32 (0 ∷ (0 ∷ (get_or b 0 0 ∷ (get_or b 1 0 ∷ [])))) → Numbered b (Some n)
  two_number [] h l f e = absurd (omega arith)
  two_number (x ∷ []) h l f e = absurd (omega arith)
  two_number (x ∷ (y ∷ [])) h l f e =
      let same : n ≡ bytes_value (x ∷ (y ∷ [])) = omega arith in
      (omega (arith, h 0, h 1), ap number_bytes same ∙ two_back x y 0 0 (h 0) (h 1) (omega arith) (omega arith) f)
  two_number (x ∷ (y ∷ (z ∷ b))) h l f e = absurd (omega arith)

  pub three_number : (b : List ℕ) → ((i : ℕ) → get_or b i 0 < 256) → length b ≡ 3 → 0 < get_or b 0 0 → n ≡ from_be_bytes w32 (0 ∷ (get_or b 0 0 ∷ (get_or b 1 0 ∷ (get_or b 2 0 ∷ [])))) → Numbered b (Some n)
  three_number [] h l f e = absurd (omega arith)
  three_number (x ∷ []) h l f e = absurd (omega arith)
  three_number (x ∷ (y ∷ [])) h l f e = absurd (omega arith)
  three_number (x ∷ (y ∷ (z ∷ []))) h l f e =
      let same : n ≡ bytes_value (x ∷ (y ∷ (z ∷ []))) = omega arith in
      (omega (arith, h 0, h 1, h 2), ap number_bytes same ∙ three_back x y z 0 (h 0) (h 1) (h 2) (omega arith) f)
  three_number (x ∷ (y ∷ (z ∷ (w ∷ b)))) h l f e = absurd (omega arith)

  pub four_number : (b : List ℕ) → ((i : ℕ) → get_or b i 0 < 256) → length b ≡ 4 → 0 < get_or b 0 0 → n ≡ from_be_bytes w32 (get_or b 0 0 ∷ (get_or b 1 0 ∷ (get_or b 2 0 ∷ (get_or b 3 0 ∷ [])))) → Numbered b (Some n)
  four_number [] h l f e = absurd (omega arith)
  four_number (x ∷ []) h l f e = absurd (omega arith)
  four_number (x ∷ (y ∷ [])) h l f e = absurd (omega arith)
  four_number (x ∷ (y ∷ (z ∷ []))) h l f e = absurd (omega arith)
  four_number (x ∷ (y ∷ (z ∷ (w ∷ [])))) h l f e =
      let same : n ≡ bytes_value (x ∷ (y ∷ (z ∷ (w ∷ [])))) = omega arith in
      (omega (arith, h 0, h 1, h 2, h 3), ap number_bytes same ∙ four_back x y z w (h 0) (h 1) (h 2) (h 3) f)
  four_number (x ∷ (y ∷ (z ∷ (w ∷ (v ∷ b))))) h l f e = absurd (omega arith)
