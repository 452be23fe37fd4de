-- The lines of a text and the words of a line, by what stands before and behind them.
use Rattle.std.proofs.Common.{◌≡◌, ℕ, ◌<◌, Bool, true, false, cond, List, [], ◌∷◌, ◌++◌, length, sym, refl, ap, ◌∙◌, subst, inl, inr, append-nil, arith}
use Rattle.text.specs.Tokens.{blank, line_end, lengthened, segments, some_of, words, lines}
use Rattle.std.specs.List.{All}
use Rattle.std.proofs.lemmas.List.Elements.{All-nil, All-cons, All-head, All-tail}
use Rattle.text.specs.Promise.{SegmentsOf, LinesStand, WordEnds, WordsOf, WordsStand}
use Rattle.text.proofs.Cuts.{on_segment, on_end, one_word}

-- a test has the same answer at every byte
abbrev Every : (ℕ → Bool) → Bool → List ℕ → Type 0
Every test t bs = All (λ b. test b ≡ t) bs

pub none_tested : (test : ℕ → Bool) (t : Bool) → Every test t []
none_tested test t = All-nil (λ b. test b ≡ t)

pub one_tested : (test : ℕ → Bool) (t : Bool) (b : ℕ) (bs : List ℕ) → test b ≡ t → Every test t bs → Every test t (b ∷ bs)
one_tested test t b bs = All-cons (λ b. test b ≡ t) b bs

first_tested : (test : ℕ → Bool) (t : Bool) (b : ℕ) (bs : List ℕ) → Every test t (b ∷ bs) → test b ≡ t
first_tested test t b bs = All-head (λ b. test b ≡ t) b bs

others_tested : (test : ℕ → Bool) (t : Bool) (b : ℕ) (bs : List ℕ) → Every test t (b ∷ bs) → Every test t bs
others_tested test t b bs = All-tail (λ b. test b ≡ t) b bs

module _ (ends : ℕ → Bool) where
  -- a byte more in front of the first segment
  longer : (b : ℕ) (bs : List ℕ) (ps : List (List ℕ)) → ends b ≡ false → SegmentsOf ends bs ps → SegmentsOf ends (b ∷ bs) (lengthened b ps)
  longer b bs [] off e = (one_tested ends false b [] off (none_tested ends false), inr (record { some = omega arith; whole = ap (λ l. b ∷ l) e; last = refl }))
  longer b bs (p ∷ ps) off (h, inl (rest, e, more)) = (one_tested ends false b p off h, inl (rest, record { end = e.end; at_end = e.at_end; cut = ap (λ l. b ∷ l) e.cut }, more))
  longer b bs (p ∷ ps) off (h, inr e) = (one_tested ends false b p off h, inr (record { some = omega arith; whole = ap (λ l. b ∷ l) e.whole; last = e.last }))

  segments_are : (bs : List ℕ) → SegmentsOf ends bs (segments ends bs)
  unfolding segments
  segments_are [] = refl
  segments_are (b ∷ bs) = go (ends b) refl (segments_are bs)
    where
      go : (t : Bool) → ends b ≡ t → SegmentsOf ends bs (segments ends bs) → SegmentsOf ends (b ∷ bs) (cond t ([] ∷ segments ends bs) (lengthened b (segments ends bs)))
      go true on h = (none_tested ends false, inl (bs, record { end = b; at_end = on; cut = refl }, h))
      go false off h = longer b bs (segments ends bs) off h

  segment_and_end : (p : List ℕ) (b : ℕ) (rest : List ℕ) → Every ends false p → ends b ≡ true → segments ends (p ++ b ∷ rest) ≡ p ∷ segments ends rest
  segment_and_end [] b rest h on = on_end ends b rest on
  segment_and_end (c ∷ p) b rest h on = on_segment ends c (p ++ b ∷ rest) (first_tested ends false c p h) ∙ ap (lengthened c) (segment_and_end p b rest (others_tested ends false c p h) on)

  last_alone : (p : List ℕ) → 0 < length p → Every ends false p → segments ends p ≡ p ∷ []
  unfolding segments
  last_alone [] lt h = absurd (omega arith)
  last_alone (c ∷ []) lt h = on_segment ends c [] (first_tested ends false c [] h)
  last_alone (c ∷ (d ∷ p)) lt h = on_segment ends c (d ∷ p) (first_tested ends false c (d ∷ p) h) ∙ ap (lengthened c) (last_alone (d ∷ p) (omega arith) (others_tested ends false c (d ∷ p) h))

  segments_only : (ps : List (List ℕ)) (bs : List ℕ) → SegmentsOf ends bs ps → segments ends bs ≡ ps
  unfolding segments
  segments_only [] bs e = ap (segments ends) e
  segments_only (p ∷ ps) bs (h, inl (rest, e, more)) = ap (segments ends) e.cut ∙ segment_and_end p e.end rest h e.at_end ∙ ap (λ l. p ∷ l) (segments_only ps rest more)
  segments_only (p ∷ ps) bs (h, inr e) = ap (segments ends) e.whole ∙ last_alone p e.some h ∙ ap (λ l. p ∷ l) (sym e.last)

pub lines_stand : LinesStand
unfolding lines
lines_stand text ls = (λ e. subst (SegmentsOf line_end text) e (segments_are line_end text), segments_only line_end ls text)

-- a blank more in front
one_blank : (b : ℕ) (line : List ℕ) (ws : List (List ℕ)) → blank b ≡ true → WordsOf line ws → WordsOf (b ∷ line) ws
one_blank b line [] on h = one_tested blank true b line on h
one_blank b line (w ∷ ws) on (rest, h, more) =
    (rest, record { gap = b ∷ h.gap; cut = ap (λ l. b ∷ l) h.cut; blanks = one_tested blank true b h.gap on h.blanks; some = h.some; solid = h.solid; ends = h.ends }, more)

words_from : (ps : List (List ℕ)) (line : List ℕ) → SegmentsOf blank line ps → WordsOf line (some_of ps)
words_from [] line e = subst (Every blank true) (sym e) (none_tested blank true)
words_from ([] ∷ ps) line (h, inl (rest, e, more)) = subst (λ l. WordsOf l (some_of ps)) (sym e.cut) (one_blank e.end rest (some_of ps) e.at_end (words_from ps rest more))
words_from ([] ∷ ps) line (h, inr e) = absurd (omega (arith, e.some))
words_from ((c ∷ p) ∷ ps) line (h, inl (rest, e, more)) =
    (e.end ∷ rest, record { gap = []; cut = e.cut; blanks = none_tested blank true; some = omega arith; solid = h; ends = e.at_end }, one_blank e.end rest (some_of ps) e.at_end (words_from ps rest more))
words_from ((c ∷ p) ∷ ps) line (h, inr e) =
    ([], record { gap = []; cut = e.whole ∙ sym (append-nil (c ∷ p)); blanks = none_tested blank true; some = omega arith; solid = h; ends = tt }, subst (λ l. WordsOf [] (some_of l)) (sym e.last) (none_tested blank true))

pub past_blank : (b : ℕ) (line : List ℕ) → blank b ≡ true → words (b ∷ line) ≡ words line
unfolding words
past_blank b line on = ap some_of (on_end blank b line on)

past_gap : (gap line : List ℕ) → Every blank true gap → words (gap ++ line) ≡ words line
past_gap [] line h = refl
past_gap (b ∷ gap) line h = past_blank b (gap ++ line) (first_tested blank true b gap h) ∙ past_gap gap line (others_tested blank true b gap h)

none_in_gap : (gap : List ℕ) → Every blank true gap → words gap ≡ []
unfolding words segments
none_in_gap [] h = refl
none_in_gap (b ∷ gap) h = past_blank b gap (first_tested blank true b gap h) ∙ none_in_gap gap (others_tested blank true b gap h)

pub word_in_front : (w rest : List ℕ) → 0 < length w → Every blank false w → WordEnds rest → words (w ++ rest) ≡ w ∷ words rest
unfolding words segments
word_in_front w [] lt h end = ap words (append-nil w) ∙ ap some_of (last_alone blank w lt h) ∙ one_word w [] lt
word_in_front w (b ∷ rest) lt h end = ap some_of (segment_and_end blank w b rest h end) ∙ one_word w (segments blank rest) lt ∙ ap (λ l. w ∷ l) (sym (past_blank b rest end))

words_only : (ws : List (List ℕ)) (line : List ℕ) → WordsOf line ws → words line ≡ ws
words_only [] line h = none_in_gap line h
words_only (w ∷ ws) line (rest, h, more) = ap words h.cut ∙ past_gap h.gap (w ++ rest) h.blanks ∙ word_in_front w rest h.some h.solid h.ends ∙ ap (λ l. w ∷ l) (words_only ws rest more)

pub words_stand : WordsStand
unfolding words
words_stand line ws = (λ e. subst (WordsOf line) e (words_from (segments blank line) line (segments_are blank line)), words_only ws line)
