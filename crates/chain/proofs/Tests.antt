-- Tests over all numbers below a bound, and over all marks.
use Rattle.std.proofs.Common.{◌≡◌, ℕ, zero, suc, ◌+◌, ◌*◌, ◌/◌, ◌<◌, min, max, Bool, true, false, ◌&&◌, ◌||◌, eqb, leb, ltb, List, [], ◌∷◌, length, get_or, take, drop, sym, refl, ap, ◌∙◌, ⊎_elim, arith}
use Rattle.std.proofs.lemmas.List.{get_or-take, get_or-drop, length-take-le}
use Rattle.std.proofs.lemmas.Bool.{eq-eqb, ne_eqb, and_left, and_right, and_from, not_from_true, not_from_false, cases_eq, cases_lt, le-ltb}
use Rattle.std.proofs.lemmas.Bool.Decides.{nat_tests}
use Rattle.std.specs.List.{fold}
use Rattle.std.specs.Simd.{first_chunks}
use Rattle.chain.specs.Places.{FirstWhere}
use Rattle.chain.specs.Rejections.{above_one, none_below, all_marks, faulty}

-- a test that fails below n holds nowhere below n
none_from : (n : ℕ) (test : ℕ → Bool) → ((i : ℕ) → i < n → test i ≡ false) → none_below n test ≡ true
unfolding none_below
none_from zero test h = refl
none_from (suc n) test h = and_from _ _ (none_from n test (λ i l. h i (omega arith))) (not_from_false _ (h n (omega arith)))

-- one place below n at which it holds
some_from : (n : ℕ) (test : ℕ → Bool) (i : ℕ) → i < n → test i ≡ true → none_below n test ≡ false
unfolding none_below
some_from zero test i l h = absurd (omega arith)
some_from (suc n) test i l h =
    ⊎_elim
    (λ e. and_right _ _ (not_from_true _ (ap test (sym e) ∙ h)))
    (λ ne. and_left _ _ (some_from n test i (omega arith) h))
    (cases_eq i n)

-- the first place is n exactly if the test holds nowhere below n
pub first_decides : (n : ℕ) (test : ℕ → Bool) (r : ℕ) → FirstWhere n test r → eqb r n ≡ none_below n test
first_decides n test r f =
    ⊎_elim
    (λ e. eq-eqb r n e ∙ sym (none_from n test (λ i l. f.before i (omega arith))))
    (λ ne. let l : r < n = omega (arith, f.within) in ne_eqb r n ne ∙ sym (some_from n test r l (f.found l)))
    (cases_eq r n)

-- the largest mark is at most 1 exactly if each is
pub largest_decides : (a : ℕ) (xs : List ℕ) → leb (fold max a xs) 1 ≡ (leb a 1 && all_marks xs)
unfolding all_marks
largest_decides a [] = grind (arith, nat_tests)
largest_decides a (x ∷ xs) = largest_decides (max a x) xs ∙ grind (arith, nat_tests)

-- a number of the six that begin at 6 i
pub in_six : (k : ℕ) (xs : List ℕ) (i j : ℕ) → i < k → j < 6 → get_or (get_or (first_chunks 6 k xs) i []) j 0 ≡ get_or xs (6 * i + j) 0
in_six zero xs i j l m = absurd (omega arith)
in_six (suc k) xs zero j l m = get_or-take 6 xs j 0 m ∙ ap (λ n. get_or xs n 0) (omega arith)
in_six (suc k) xs (suc i) j l m = in_six k (drop 6 xs) i j (omega arith) m ∙ get_or-drop 6 xs (6 * i + j) 0 ∙ ap (λ n. get_or xs n 0) (omega arith)

-- the first certificate with a may_issue above 1 among those there whole, of n at most, is the first faulty one below n
pub first_of_sixes : (n : ℕ) (xs : List ℕ) (sixes : List (List ℕ)) (there r : ℕ) → sixes ≡ first_chunks 6 (length xs / 6) xs → length sixes ≡ length xs / 6 → there ≡ min n (length sixes) → FirstWhere (length (take there sixes)) (λ i. above_one (get_or (take there sixes) i []) 4) r → FirstWhere n (faulty xs) r
first_of_sixes n xs sixes there r e l t f =
    record {
      within = omega (arith, f.within, long);
      before = λ i u. sym (same i (omega (arith, f.within, long))) ∙ f.before i u;
      found = λ u. ⊎_elim
          (λ m. sym (same r m) ∙ f.found (omega (arith, long)))
          (λ m. grind (arith, nat_tests, m, l, t, u))
          (cases_lt r there);
    }
  where
    long : length (take there sixes) ≡ there
    long = length-take-le there sixes (omega arith)

    same : (i : ℕ) → i < there → above_one (get_or (take there sixes) i []) 4 ≡ faulty xs i
    same i u =
        let k = length xs / 6 in
        let whole : ltb (length xs) (6 * i + 6) ≡ false = le-ltb (length xs) (6 * i + 6) (omega arith) in
        ap (λ six. leb 2 (get_or six 4 0)) (get_or-take there sixes i [] u ∙ ap (λ ys. get_or ys i []) e) ∙ ap (λ n. leb 2 n) (in_six k xs i 4 (omega arith) (omega arith)) ∙ ap (λ t. t || leb 2 (get_or xs (6 * i + 4) 0)) (sym whole)
