-- What is written is read again as it was.
use Rattle.std.proofs.Common.{◌≡◌, ℕ, ◌+◌, ◌-◌, ◌*◌, ◌/◌, ◌%◌, ◌^◌, ◌<◌, ◌≤◌, true, false, cond, ◌&&◌, leb, List, [], ◌∷◌, ◌++◌, Some, None, decimal, Option, refl, ap, ◌∙◌, ap₂, ⊎_elim, arith}
use Rattle.std.specs.List.{flat_map, All}
use Rattle.std.proofs.lemmas.List.Elements.{All-head, All-tail}
use Rattle.std.specs.Char.{digit_char as digitChar}
use Rattle.std.proofs.lemmas.Fmt.{decimal_by_steps, decimal_nonempty}
use Rattle.std.proofs.lemmas.Bool.{le-leb, lt-leb, lt-ltb, le-ltb, ne_eqb, and_from, and_right, or_from, cases_lt}
use Rattle.text.specs.Tokens.{blank, words}
use Rattle.text.specs.inner.Figures.{both, number, digit, with_digit, decimal_after, below, hex_digit, word_bytes, bytes_of}
use Rattle.text.specs.Meaning.{number_limit}
use Rattle.text.specs.Texts.{space_before, hex_text, spaced}
use Rattle.text.specs.Promise.{WordEnds}
use Rattle.text.proofs.Cuts.{words_nil}
use Rattle.text.proofs.Laws.{none_tested, one_tested, past_blank, word_in_front}
use Rattle.text.proofs.Values.{below_some, number_some}

-- a digit more behind
after_push : (o : Option ℕ) (ds : List ℕ) (x : ℕ) → decimal_after o (ds ++ x ∷ []) ≡ with_digit (decimal_after o ds) x
unfolding decimal_after
after_push o [] x = refl
after_push o (d ∷ ds) x = after_push (with_digit o d) ds x

in_range : (low high b : ℕ) → low ≤ b → b ≤ high → (leb low b && leb b high) ≡ true
in_range low high b l h = and_from _ _ (le-leb low b l) (le-leb b high h)

digit_char : (d : ℕ) → d < 10 → digit (48 + d) ≡ Some d
digit_char d lt =
    let back : 48 + d - 48 ≡ d = omega arith in
    ap (λ t. cond t (Some (48 + d - 48)) None) (in_range 48 57 (48 + d) (omega arith) (omega arith)) ∙ ap Some back

number_again : (n : ℕ) → n < 2 ^ 64 → decimal_after (Some 0) (decimal n) ≡ Some n
unfolding decimal_after
number_again n lt =
    decimal_by_steps (λ m ds. decimal_after (Some 0) ds ≡ Some m)
    (λ m low. ap (both (λ k d. k * 10 + d) (Some 0)) (digit_char m low) ∙ ap Some (one m))
    (λ m ds ten e. after_push (Some 0) ds (48 + m % 10) ∙ ap₂ (both (λ k d. k * 10 + d)) e (digit_char (m % 10) (omega arith)) ∙ ap Some (all m))
    n lt
  where
    one : (m : ℕ) → 0 * 10 + m ≡ m
    one m = omega arith

    all : (m : ℕ) → m / 10 * 10 + m % 10 ≡ m
    all m = omega arith

-- a digit of base sixteen is no blank, and is read again
pub hex_again : (d : ℕ) → d < 16 → hex_digit (digitChar d) ≡ Some d
hex_again d lt = ⊎_elim low high (cases_lt d 10)
  where
    low : d < 10 → hex_digit (digitChar d) ≡ Some d
    low l =
        let back : 48 + d - 48 ≡ d = omega arith in
        ap (λ t. hex_digit (cond t (48 + d) (87 + d))) (lt-ltb d 10 l)
        ∙ ap (λ t. cond t (Some (48 + d - 48)) (cond (leb 97 (48 + d) && leb (48 + d) 102) (Some (48 + d - 87)) (cond (leb 65 (48 + d) && leb (48 + d) 70) (Some (48 + d - 55)) None))) (in_range 48 57 (48 + d) (omega arith) (omega arith))
        ∙ ap Some back

    high : 10 ≤ d → hex_digit (digitChar d) ≡ Some d
    high h =
        let back : 87 + d - 87 ≡ d = omega arith in
        ap (λ t. hex_digit (cond t (48 + d) (87 + d))) (le-ltb d 10 h)
        ∙ ap (λ t. cond t (Some (87 + d - 48)) (cond (leb 97 (87 + d) && leb (87 + d) 102) (Some (87 + d - 87)) (cond (leb 65 (87 + d) && leb (87 + d) 70) (Some (87 + d - 55)) None))) (and_right (leb 48 (87 + d)) (leb (87 + d) 57) (lt-leb (87 + d) 57 (omega arith)))
        ∙ ap (λ t. cond t (Some (87 + d - 87)) (cond (leb 65 (87 + d) && leb (87 + d) 70) (Some (87 + d - 55)) None)) (in_range 97 102 (87 + d) (omega arith) (omega arith))
        ∙ ap Some back

not_blank : (b : ℕ) → 48 ≤ b → blank b ≡ false
not_blank b h = or_from _ _ (ne_eqb b 32 (λ e. omega arith)) (or_from _ _ (ne_eqb b 9 (λ e. omega arith)) (ne_eqb b 13 (λ e. omega arith)))

hex_solid : (d : ℕ) → blank (digitChar d) ≡ false
hex_solid d = ⊎_elim (λ l. ap (λ t. blank (cond t (48 + d) (87 + d))) (lt-ltb d 10 l) ∙ not_blank (48 + d) (omega arith)) (λ h. ap (λ t. blank (cond t (48 + d) (87 + d))) (le-ltb d 10 h) ∙ not_blank (87 + d) (omega arith)) (cases_lt d 10)

byte_again : (b : ℕ) → b < 256 → word_bytes (hex_text b) ≡ Some (b ∷ [])
unfolding word_bytes
byte_again b lt =
    let back : b / 16 * 16 + b % 16 ≡ b = omega arith in
    ap (λ o. both ◌∷◌ o (Some [])) (ap₂ (both (λ h l. h * 16 + l)) (hex_again (b / 16) (omega arith)) (hex_again (b % 16) (omega arith)) ∙ ap Some back)

-- bytes behind one another
word_then : (b : ℕ) (rest bs : List ℕ) → b < 256 → WordEnds rest → bytes_of (words rest) ≡ Some bs → bytes_of (words (hex_text b ++ rest)) ≡ Some (b ∷ bs)
unfolding bytes_of
word_then b rest bs lt end e =
    ap bytes_of (word_in_front (hex_text b) rest (omega arith) (one_tested blank false (digitChar (b / 16)) (digitChar (b % 16) ∷ []) (hex_solid (b / 16)) (one_tested blank false (digitChar (b % 16)) [] (hex_solid (b % 16)) (none_tested blank false))) end) ∙ ap₂ (both ◌++◌) (byte_again b lt) e

blank_first : (bs : List ℕ) → WordEnds (flat_map (space_before hex_text) bs)
blank_first [] = tt
blank_first (b ∷ bs) = refl

row_again : (bs : List ℕ) → All (λ b. b < 256) bs → bytes_of (words (flat_map (space_before hex_text) bs)) ≡ Some bs
unfolding bytes_of
row_again [] h = ap bytes_of words_nil
row_again (b ∷ bs) h = ap bytes_of (past_blank 32 (hex_text b ++ flat_map (space_before hex_text) bs) refl) ∙ word_then b _ bs (All-head (λ b. b < 256) b bs h) (blank_first bs) (row_again bs (All-tail (λ b. b < 256) b bs h))

pub bytes_again : (bs : List ℕ) → All (λ b. b < 256) bs → bytes_of (words (spaced hex_text bs)) ≡ Some bs
unfolding bytes_of
bytes_again [] h = ap bytes_of words_nil
bytes_again (b ∷ bs) h = word_then b (flat_map (space_before hex_text) bs) bs (All-head (λ b. b < 256) b bs h) (blank_first bs) (row_again bs (All-tail (λ b. b < 256) b bs h))

pub printed_again : (n : ℕ) → n < number_limit → number number_limit (decimal n) ≡ Some n
printed_again n lt = number_some number_limit (decimal n) (decimal_nonempty n lt) ∙ ap (below number_limit) (number_again n lt) ∙ below_some number_limit n lt
