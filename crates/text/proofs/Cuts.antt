-- The first segment of some bytes, and the first word of a line.
use Rattle.std.proofs.Common.{◌≡◌, ℕ, zero, suc, ◌+◌, ◌<◌, Bool, true, false, cond, List, [], ◌∷◌, length, take, drop, Some, None, Option, MatchOption, Bor, Iter, sym, refl, ap, ◌∙◌, subst, add-one, arith}
use Rattle.std.specs.List.{AllWithin, HoldsAt}
use Rattle.std.specs.Fn.{ComputesKey, Called, Mut}
use Rattle.std.specs.Iterator.{FindsPosition}
use Rattle.std.proofs.lemmas.Iterator.{IsFirst-from_position, YieldsList-from_slice}
use Rattle.std.proofs.lemmas.Fn.{fronts}
use Rattle.text.specs.Tokens.{blank, lengthened, segments, some_of, words, lines}

module _ (ends : ℕ → Bool) where
  -- one byte of a segment, and an end
  pub on_segment : (b : ℕ) (bs : List ℕ) → ends b ≡ false → segments ends (b ∷ bs) ≡ lengthened b (segments ends bs)
  unfolding segments
  on_segment b bs off = ap (λ t. cond t ([] ∷ segments ends bs) (lengthened b (segments ends bs))) off

  pub on_end : (b : ℕ) (bs : List ℕ) → ends b ≡ true → segments ends (b ∷ bs) ≡ [] ∷ segments ends bs
  unfolding segments
  on_end b bs on = ap (λ t. cond t ([] ∷ segments ends bs) (lengthened b (segments ends bs))) on

  -- the segment before the first end, at place n
  before_end : (bs : List ℕ) (n : ℕ) → n < length bs → HoldsAt (λ b. ends b ≡ true) bs n → AllWithin (λ b. ends b ≡ false) bs 0 n → segments ends bs ≡ take n bs ∷ segments ends (drop (suc n) bs)
  before_end [] n lt on off = absurd (omega arith)
  before_end (b ∷ bs) zero lt on off = on_end b bs (on 0)
  before_end (b ∷ bs) (suc n) lt on off =
      on_segment b bs (off 0 0 (omega arith) (omega arith)) ∙ ap (lengthened b) (before_end bs n (omega arith) on (λ k d l u. off (suc k) d (omega arith) (omega arith)))

  -- the place of the first end, if there is one
  abbrev pub FirstEnd : List ℕ → Option ℕ → Type 0
  FirstEnd bs r = MatchOption r (AllWithin (λ b. ends b ≡ false) bs 0 (length bs)) (λ n. (n < length bs) × HoldsAt (λ b. ends b ≡ true) bs n × AllWithin (λ b. ends b ≡ false) bs 0 n)

  pub cut_at_end : (bs : List ℕ) (r : Option ℕ) (n : ℕ) → r ≡ Some n → FirstEnd bs r → segments ends bs ≡ take n bs ∷ segments ends (drop (n + 1) bs)
  cut_at_end bs r n is h =
      let end = subst (FirstEnd bs) is h in
      before_end bs n end.0 end.1 end.2 ∙ ap (λ k. take n bs ∷ segments ends (drop k bs)) (sym (add-one n))

  -- a last segment, with no end behind it
  last_segment : (b : ℕ) (bs : List ℕ) → AllWithin (λ b. ends b ≡ false) (b ∷ bs) 0 (length (b ∷ bs)) → segments ends (b ∷ bs) ≡ (b ∷ bs) ∷ []
  unfolding segments
  last_segment b [] off = on_segment b [] (off 0 0 (omega arith) (omega arith))
  last_segment b (c ∷ bs) off =
      on_segment b (c ∷ bs) (off 0 0 (omega arith) (omega arith)) ∙ ap (lengthened b) (last_segment c bs (λ k d l u. off (suc k) d (omega arith) (omega arith)))

  pub cut_whole : (bs : List ℕ) (r : Option ℕ) → 0 < length bs → r ≡ None → FirstEnd bs r → segments ends bs ≡ bs ∷ segments ends []
  unfolding segments
  cut_whole [] r lt is h = absurd (omega arith)
  cut_whole (b ∷ bs) r lt is h = last_segment b bs (subst (FirstEnd (b ∷ bs)) is h)

  -- what `position` finds, where each call says whether a byte is an end and leaves the closure as it was
  pub first_end : {F : Type 0} (g : Mut F (Bor ℕ × Unit {0}) Bool) (s u : Iter ℕ) (f : F) (bs : List ℕ) (r : Option ℕ) → FindsPosition fronts g s f r u → s.rest.now ≡ bs → ComputesKey g ends f → ((a : Bor ℕ × Unit {0}) (t : Bool) (q : F) → Called g f a t q → q ≡ f) → FirstEnd bs r
  first_end g s u f bs r ran rest tells stays =
      IsFirst-from_position u f r (λ b. ends b ≡ true) (λ b. ends b ≡ false) ran (YieldsList-from_slice bs rest) (λ x q k. sym (tells.at ((x, tt) ∷ []) true q k).0) (λ x q k. (stays (x, tt) false q k, sym (tells.at ((x, tt) ∷ []) false q k).0))

pub lines_nil : lines [] ≡ []
unfolding lines segments
lines_nil = refl

pub words_nil : words [] ≡ []
unfolding words segments
words_nil = refl

pub one_word : (w : List ℕ) (ps : List (List ℕ)) → 0 < length w → some_of (w ∷ ps) ≡ w ∷ some_of ps
one_word [] ps lt = absurd (omega arith)
one_word (b ∷ w) ps lt = refl

-- the words of a line without its first segment, which is a word unless it is empty
pub first_word : (line word left : List ℕ) → segments blank line ≡ word ∷ segments blank left → 0 < length word → words line ≡ word ∷ words left
unfolding words
first_word line word left h lt = ap some_of h ∙ one_word word (segments blank left) lt

pub no_word : (line word left : List ℕ) → segments blank line ≡ word ∷ segments blank left → length word ≡ 0 → words line ≡ words left
unfolding words
no_word line [] left h none = ap some_of h
no_word line (b ∷ word) left h none = absurd (omega arith)
