-- Numbers and bytes, one word, digit or byte at a time.
use Rattle.std.proofs.Common.{◌≡◌, ℕ, ◌+◌, ◌-◌, ◌*◌, ◌<◌, ◌≤◌, Bool, true, false, cond, ◌&&◌, ltb, leb, List, [], ◌∷◌, ◌++◌, length, get_or, drop, Some, None, Option, Ok, Err, Result, sym, refl, ap, ◌∙◌, subst, append_assoc, append-nil, arith}
use Rattle.std.specs.Option.{option_map}
use Rattle.std.specs.Result.{IsErrAnd}
use Rattle.std.proofs.lemmas.List.{at_drop_more, at_drop_all}
use Rattle.std.proofs.lemmas.Bool.{le-ltb, lt-ltb, ltb-true, ltb-false}
use Rattle.text.specs.declared.error.LineError.{LineError}
use Rattle.text.specs.declared.error.LineError.TheVariants.{Unreadable, Memory}
use Rattle.text.specs.Reading.{FailsBy, ReadsAs}
use Rattle.text.specs.inner.Figures.{both, with_digit, decimal_after, below, number, hex_pair, word_bytes, bytes_of, all_of}

module _ (limit : ℕ) where
  -- a number that has reached the limit stays there
  pub below_none : (n : ℕ) → limit ≤ n → below limit (Some n) ≡ None
  below_none n le = rw (le-ltb n limit le)

  pub below_some : (n : ℕ) → n < limit → below limit (Some n) ≡ Some n
  below_some n lt = rw (lt-ltb n limit lt)

  -- what is below a limit is there
  pub from_below : (o : Option ℕ) (m : ℕ) → Some m ≡ below limit o → o ≡ Some m
  from_below None m e = cc
  from_below (Some n) m e = go (ltb n limit) e
    where
      go : (t : Bool) → Some m ≡ cond t (Some n) None → Some n ≡ Some m
      go true e = sym e
      go false e = cc

  pub below_lt : (o : Option ℕ) (m : ℕ) → Some m ≡ below limit o → m < limit
  below_lt None m e = let z : ◌≡◌ {A = ℕ} 0 1 = cc in absurd (omega arith)
  below_lt (Some n) m e = go (ltb n limit) refl e
    where
      go : (t : Bool) → ltb n limit ≡ t → Some m ≡ cond t (Some n) None → m < limit
      go true is e = let same : m ≡ n = cc in omega (arith, ltb-true n limit is)
      go false is e = let z : ◌≡◌ {A = ℕ} 0 1 = cc in absurd (omega arith)

  at_least : (n : ℕ) → None ≡ below limit (Some n) → limit ≤ n
  at_least n e = go (ltb n limit) refl e
    where
      go : (t : Bool) → ltb n limit ≡ t → None ≡ cond t (Some n) None → limit ≤ n
      go true is e = let z : ◌≡◌ {A = ℕ} 0 1 = cc in omega arith
      go false is e = ltb-false n limit is

  digit_high : (o : Option ℕ) (b : ℕ) → None ≡ below limit o → None ≡ below limit (with_digit o b)
  digit_high None b e = refl
  digit_high (Some n) b e = go (leb 48 b && leb b 57) (at_least n e)
    where
      go : (t : Bool) → limit ≤ n → None ≡ below limit (both (λ n d. n * 10 + d) (Some n) (cond t (Some (b - 48)) None))
      go true le = sym (below_none (n * 10 + (b - 48)) (omega arith))
      go false le = refl

  stays_high : (o : Option ℕ) (bs : List ℕ) → None ≡ below limit o → None ≡ below limit (decimal_after o bs)
  unfolding decimal_after
  stays_high o [] e = e
  stays_high o (b ∷ bs) e = stays_high (with_digit o b) bs (digit_high o b e)

  pub number_nil : (bs : List ℕ) → length bs ≡ 0 → number limit bs ≡ None
  unfolding number
  number_nil [] e = refl
  number_nil (b ∷ bs) e = absurd (omega arith)

  pub number_some : (bs : List ℕ) → 0 < length bs → number limit bs ≡ below limit (decimal_after (Some 0) bs)
  unfolding number
  number_some [] lt = absurd (omega arith)
  number_some (b ∷ bs) lt = refl

-- one digit on
decimal_more : (o : Option ℕ) (bs : List ℕ) (i : ℕ) → i < length bs → decimal_after o (drop i bs) ≡ decimal_after (with_digit o (get_or bs i 0)) (drop (i + 1) bs)
unfolding decimal_after
decimal_more o bs i lt = at_drop_more (decimal_after o) bs i 0 lt

module _ (limit : ℕ) (bs : List ℕ) (i n : ℕ) where
  pub digit_read : (m : ℕ) → i < length bs → Some m ≡ below limit (with_digit (Some n) (get_or bs i 0)) → (below limit (decimal_after (Some n) (drop i bs)) ≡ below limit (decimal_after (Some m) (drop (i + 1) bs))) × (m < limit)
  digit_read m lt e =
      let next = with_digit (Some n) (get_or bs i 0) in
      (ap (below limit) (decimal_more (Some n) bs i lt ∙ ap (λ o. decimal_after o (drop (i + 1) bs)) (from_below limit next m e)), below_lt limit next m e)

  pub digit_fails : i < length bs → None ≡ below limit (with_digit (Some n) (get_or bs i 0)) → below limit (decimal_after (Some n) (drop i bs)) ≡ None
  digit_fails lt e = ap (below limit) (decimal_more (Some n) bs i lt) ∙ sym (stays_high limit _ (drop (i + 1) bs) e)

  pub digits_end : length bs ≤ i → n < limit → below limit (decimal_after (Some n) (drop i bs)) ≡ Some n
  unfolding decimal_after
  digits_end le lt = ap (below limit) (at_drop_all (decimal_after (Some n)) bs i le) ∙ below_some limit n lt

-- a number below a lower limit
below_both : (small big : ℕ) (o : Option ℕ) → small ≤ big → below small o ≡ below small (below big o)
below_both small big None le = refl
below_both small big (Some n) le = go (ltb n big) refl
  where
    go : (t : Bool) → ltb n big ≡ t → below small (Some n) ≡ below small (cond t (Some n) None)
    go true is = refl
    go false is = below_none small n (omega (arith, ltb-false n big is))

pub number_lower : (small big : ℕ) (w : List ℕ) → small ≤ big → number small w ≡ below small (number big w)
unfolding number
number_lower small big [] le = refl
number_lower small big (b ∷ bs) le = below_both small big (decimal_after (Some 0) (b ∷ bs)) le

-- what is read, behind what is read before
abbrev pub onto : {X : Type 0} → List X → Option (List X) → Option (List X)
onto xs o = option_map (λ ys. xs ++ ys) o

onto_end : {X : Type 0} (xs : List X) → onto xs (Some []) ≡ Some xs
onto_end xs = ap Some (append-nil xs)

onto_push : {X : Type 0} (xs : List X) (x : X) (o : Option (List X)) → onto xs (both ◌∷◌ (Some x) o) ≡ onto (xs ++ x ∷ []) o
onto_push xs x None = refl
onto_push xs x (Some ys) = ap Some (sym (append_assoc xs (x ∷ []) ys))

onto_append : {X : Type 0} (xs ys : List X) (o : Option (List X)) → onto xs (both ◌++◌ (Some ys) o) ≡ onto (xs ++ ys) o
onto_append xs ys None = refl
onto_append xs ys (Some zs) = ap Some (sym (append_assoc xs ys zs))

-- words: one more, one that can't be read, none left
module _ {X : Type 0} (value : List ℕ → Option X) (xs : List X) (ws : List (List ℕ)) where
  pub all_more : (w : List ℕ) (rest : List (List ℕ)) (x : X) (ys : List X) → ws ≡ w ∷ rest → value w ≡ Some x → ys ≡ xs ++ x ∷ [] → onto xs (all_of value ws) ≡ onto ys (all_of value rest)
  unfolding all_of
  all_more w rest x ys is e more = ap (λ l. onto xs (all_of value l)) is ∙ ap (λ o. onto xs (both ◌∷◌ o (all_of value rest))) e ∙ onto_push xs x (all_of value rest) ∙ ap (λ l. onto l (all_of value rest)) (sym more)

  pub all_fail : (w : List ℕ) (rest : List (List ℕ)) → ws ≡ w ∷ rest → value w ≡ None → onto xs (all_of value ws) ≡ None
  unfolding all_of
  all_fail w rest is e = ap (λ l. onto xs (all_of value l)) is ∙ ap (λ o. onto xs (both ◌∷◌ o (all_of value rest))) e

  pub all_end : ws ≡ [] → onto xs (all_of value ws) ≡ Some xs
  unfolding all_of
  all_end is = ap (λ l. onto xs (all_of value l)) is ∙ onto_end xs

module _ (xs : List ℕ) (ws : List (List ℕ)) where
  pub bytes_more : (w : List ℕ) (rest : List (List ℕ)) (ys : List ℕ) → ws ≡ w ∷ rest → onto xs (word_bytes w) ≡ Some ys → onto xs (bytes_of ws) ≡ onto ys (bytes_of rest)
  unfolding bytes_of
  bytes_more w rest ys is e = ap (λ l. onto xs (bytes_of l)) is ∙ go (word_bytes w) e
    where
      go : (o : Option (List ℕ)) → onto xs o ≡ Some ys → onto xs (both ◌++◌ o (bytes_of rest)) ≡ onto ys (bytes_of rest)
      go None e = cc
      go (Some bs) e = let same : xs ++ bs ≡ ys = cc in onto_append xs bs (bytes_of rest) ∙ ap (λ l. onto l (bytes_of rest)) same

  pub bytes_fail : (w : List ℕ) (rest : List (List ℕ)) → ws ≡ w ∷ rest → onto xs (word_bytes w) ≡ None → onto xs (bytes_of ws) ≡ None
  unfolding bytes_of
  bytes_fail w rest is e = ap (λ l. onto xs (bytes_of l)) is ∙ go (word_bytes w) e
    where
      go : (o : Option (List ℕ)) → onto xs o ≡ None → onto xs (both ◌++◌ o (bytes_of rest)) ≡ None
      go None e = refl
      go (Some bs) e = cc

  pub bytes_end : ws ≡ [] → onto xs (bytes_of ws) ≡ Some xs
  unfolding bytes_of
  bytes_end is = ap (λ l. onto xs (bytes_of l)) is ∙ onto_end xs

-- the bytes of a word: a pair of digits on, a pair that writes no byte, one digit alone, and at the end
pub pair_more : (xs w p rest ys : List ℕ) (b : ℕ) → w ≡ p ++ rest → length p ≡ 2 → Some b ≡ hex_pair (get_or p 0 0) (get_or p 1 0) → ys ≡ xs ++ b ∷ [] → onto xs (word_bytes w) ≡ onto ys (word_bytes rest)
unfolding word_bytes
pair_more xs w [] rest ys b is two e more = absurd (omega arith)
pair_more xs w (h ∷ []) rest ys b is two e more = absurd (omega arith)
pair_more xs w (h ∷ (l ∷ [])) rest ys b is two e more =
    ap (λ v. onto xs (word_bytes v)) is ∙ ap (λ o. onto xs (both ◌∷◌ o (word_bytes rest))) (sym e) ∙ onto_push xs b (word_bytes rest) ∙ ap (λ ls. onto ls (word_bytes rest)) (sym more)
pair_more xs w (h ∷ (l ∷ (x ∷ p))) rest ys b is two e more = absurd (omega arith)

pub pair_fail : (xs w p rest : List ℕ) → w ≡ p ++ rest → length p ≡ 2 → None ≡ hex_pair (get_or p 0 0) (get_or p 1 0) → onto xs (word_bytes w) ≡ None
unfolding word_bytes
pair_fail xs w [] rest is two e = absurd (omega arith)
pair_fail xs w (h ∷ []) rest is two e = absurd (omega arith)
pair_fail xs w (h ∷ (l ∷ [])) rest is two e = ap (λ v. onto xs (word_bytes v)) is ∙ ap (λ o. onto xs (both ◌∷◌ o (word_bytes rest))) (sym e)
pair_fail xs w (h ∷ (l ∷ (x ∷ p))) rest is two e = absurd (omega arith)

pub digit_alone : (xs w : List ℕ) → length w ≡ 1 → onto xs (word_bytes w) ≡ None
unfolding word_bytes
digit_alone xs [] one = absurd (omega arith)
digit_alone xs (h ∷ []) one = refl
digit_alone xs (h ∷ (l ∷ w)) one = absurd (omega arith)

pub pairs_end : (xs w : List ℕ) → length w ≡ 0 → onto xs (word_bytes w) ≡ Some xs
unfolding word_bytes
pairs_end xs [] none = onto_end xs
pairs_end xs (h ∷ w) none = absurd (omega arith)

module _ {T X : Type 0} (shows : T → X) (r : Result T LineError) (said : Option X) (stores : Type 0) (e : LineError) where
  -- an error that is handed on
  fails_by : (r : Result T LineError) → IsErrAnd r (λ f. f ≡ e) → FailsBy e said stores → ReadsAs shows r said stores
  fails_by (Ok x) is h = absurd is
  fails_by (Err f) is h = subst (λ g. FailsBy g said stores) (sym is) h

  pub unreadable : IsErrAnd r (λ f. f ≡ e) → e ≡ Unreadable → said ≡ None → ReadsAs shows r said stores
  unreadable is same none = fails_by r is (subst (λ g. FailsBy g said stores) (sym same) none)

  pub fails_within : {Y : Type 0} (part : Option Y) (some : Type 0) → IsErrAnd r (λ f. f ≡ e) → FailsBy e part some → (part ≡ None → said ≡ None) → (some → stores) → ReadsAs shows r said stores
  fails_within part some is h none more = fails_by r is (elim e as (λ g. FailsBy g part some → FailsBy g said stores) [ Unreadable ↦ none | Memory a ↦ more ] h)

-- the same of what is to be stored
pub reads_more : {T X : Type 0} (shows : T → X) (r : Result T LineError) (said : Option X) (some stores : Type 0) → (some → stores) → ReadsAs shows r said some → ReadsAs shows r said stores
reads_more shows (Ok x) said some stores more h = h
reads_more shows (Err Unreadable) said some stores more h = h
reads_more shows (Err (Memory e)) said some stores more h = more h
