-- What lines say, by the grammar.
use Rattle.std.proofs.Common.{◌≡◌, ℕ, ◌<◌, Bool, true, false, cond, List, [], ◌∷◌, ◌++◌, length, codes, Some, None, Option, sym, refl, ap, ◌∙◌, ap₂, subst, arith}
use Rattle.std.specs.List.{AllZip}
use Rattle.std.specs.Option.{option_map}
use Rattle.std.specs.Str.{bytes_eq}
use Rattle.std.proofs.lemmas.Bool.{eqb-true}
use Rattle.std.proofs.lemmas.Slice.Eq.{bytes_eq-Decides}
use Rattle.text.specs.inner.Figures.{both, number, numbers, word_bytes, bytes_of, all_of}
use Rattle.text.specs.Grammar.{IsNumber, HexWords, no_word, word, LineMeans, blank_line, comment_line, paper_line, seals_line, trusted_line, piece_line, chain_line}
use Rattle.text.specs.Heads.{head_of, words_head}
use Rattle.text.specs.Meaning.{Meaning, nothing, paper, seals, trusted, piece, chain, mark_limit, number_limit, meaning}
use Rattle.text.specs.inner.Saying.{comment, key_of, only_number, day_of, chain_of, piece_of, rest_says, words_say}
use Rattle.text.specs.Promise.{MeaningStand}
use Rattle.text.specs.Reading.{StoresWords, stores_paper, stores_seals, stores_trusted, stores_path}
use Rattle.text.specs.Tokens.{words}
use Rattle.text.specs.declared.command.Key.{Key}
use Rattle.text.specs.declared.command.Key.TheVariants.{Comment, Paper, Seals, Trusted, Piece, Chain, Other}
use Rattle.text.proofs.Digits.{decimal_is, decimal_only, word_is, word_only}

-- words of bytes
bytes_only : (ws : List (List ℕ)) (bs : List ℕ) → HexWords ws bs → bytes_of ws ≡ Some bs
unfolding bytes_of
bytes_only ws bs no_word = refl
bytes_only ws bs (word {word = w} {bytes = cs} {more = ds} {words = vs} h tail) = ap₂ (both ◌++◌) (word_only w cs h) (bytes_only vs ds tail)

bytes_join : (w : List ℕ) (ws : List (List ℕ)) (bs : List ℕ) (o p : Option (List ℕ)) → word_bytes w ≡ o → ((ds : List ℕ) → p ≡ Some ds → HexWords ws ds) → both ◌++◌ o p ≡ Some bs → HexWords (w ∷ ws) bs
bytes_join w ws bs None p is more e = absurd cc
bytes_join w ws bs (Some cs) None is more e = absurd cc
bytes_join w ws bs (Some cs) (Some ds) is more e =
    let same : cs ++ ds ≡ bs = cc in
    subst (HexWords (w ∷ ws)) same (word (word_is w cs is) (more ds refl))

pub bytes_are : (ws : List (List ℕ)) (bs : List ℕ) → bytes_of ws ≡ Some bs → HexWords ws bs
unfolding bytes_of
bytes_are [] bs e = let same : [] ≡ bs = cc in subst (HexWords []) same no_word
bytes_are (w ∷ ws) bs e = bytes_join w ws bs (word_bytes w) (bytes_of ws) refl (λ ds. bytes_are ws ds) e

-- words of numbers
module _ (limit : ℕ) where
  numbers_only : (ws : List (List ℕ)) (ns : List ℕ) → AllZip (IsNumber limit) ws ns → numbers limit ws ≡ Some ns
  unfolding numbers all_of
  numbers_only [] [] h = refl
  numbers_only [] (n ∷ ns) h = absurd h
  numbers_only (w ∷ ws) [] h = absurd h
  numbers_only (w ∷ ws) (n ∷ ns) h = ap₂ (both ◌∷◌) (decimal_only limit w n h.0) (numbers_only ws ns h.1)

  numbers_join : (w : List ℕ) (ws : List (List ℕ)) (ns : List ℕ) (o : Option ℕ) (p : Option (List ℕ)) → number limit w ≡ o → ((ms : List ℕ) → p ≡ Some ms → AllZip (IsNumber limit) ws ms) → both ◌∷◌ o p ≡ Some ns → AllZip (IsNumber limit) (w ∷ ws) ns
  numbers_join w ws ns None p is more e = absurd cc
  numbers_join w ws ns (Some m) None is more e = absurd cc
  numbers_join w ws ns (Some m) (Some ms) is more e =
      let same : m ∷ ms ≡ ns = cc in
      subst (AllZip (IsNumber limit) (w ∷ ws)) same (decimal_is limit w m is, more ms refl)

  numbers_are : (ws : List (List ℕ)) (ns : List ℕ) → numbers limit ws ≡ Some ns → AllZip (IsNumber limit) ws ns
  unfolding numbers all_of
  numbers_are [] ns e = let same : [] ≡ ns = cc in subst (AllZip (IsNumber limit) []) same tt
  numbers_are (w ∷ ws) ns e = numbers_join w ws ns (number limit w) (all_of (number limit) ws) refl (λ ms. numbers_are ws ms) e

-- the first word of a line, by the kind of the line
data KeyWord : List ℕ → Key → Type 0 where
  a_comment : (text : List ℕ) → KeyWord (codes "#" ++ text) Comment
  a_paper : KeyWord (codes "paper") Paper
  some_seals : KeyWord (codes "seals") Seals
  some_trusted : KeyWord (codes "trusted") Trusted
  a_piece : KeyWord (codes "piece") Piece
  a_chain : KeyWord (codes "chain") Chain
  another : (w : List ℕ) → KeyWord w Other

is_comment : (w : List ℕ) → comment w ≡ true → KeyWord w Comment
is_comment [] e = absurd cc
is_comment (b ∷ w) e = subst (λ c. KeyWord (c ∷ w) Comment) (sym (eqb-true b 35 e)) (a_comment w)

-- a word that is one of the text's, or goes on to the next
one_of : (w text : List ℕ) (this other : Key) → KeyWord text this → KeyWord w other → KeyWord w (cond (bytes_eq w text) this other)
one_of w text this other h k = go (bytes_eq w text) refl
  where
    go : (t : Bool) → bytes_eq w text ≡ t → KeyWord w (cond t this other)
    go true is = subst (λ v. KeyWord v this) (sym ((bytes_eq-Decides w text).0 is)) h
    go false is = k

key_word : (w : List ℕ) → KeyWord w (key_of w)
key_word w = go (comment w) refl
  where
    words_next : KeyWord w (cond (bytes_eq w (codes "paper")) Paper (cond (bytes_eq w (codes "seals")) Seals (cond (bytes_eq w (codes "trusted")) Trusted (cond (bytes_eq w (codes "piece")) Piece (cond (bytes_eq w (codes "chain")) Chain Other)))))
    words_next = one_of w (codes "paper") Paper _ a_paper (one_of w (codes "seals") Seals _ some_seals (one_of w (codes "trusted") Trusted _ some_trusted (one_of w (codes "piece") Piece _ a_piece (one_of w (codes "chain") Chain _ a_chain (another w)))))

    go : (t : Bool) → comment w ≡ t → KeyWord w (cond t Comment (cond (bytes_eq w (codes "paper")) Paper (cond (bytes_eq w (codes "seals")) Seals (cond (bytes_eq w (codes "trusted")) Trusted (cond (bytes_eq w (codes "piece")) Piece (cond (bytes_eq w (codes "chain")) Chain Other))))))
    go true is = is_comment w is
    go false is = words_next

-- what a value was made of
record Mapped {X Y : Type 0} (f : X → Y) (o : Option X) (y : Y) : Type 0 where
  value : X
  there : o ≡ Some value
  is : f value ≡ y

mapped : {X Y : Type 0} (f : X → Y) (o : Option X) (y : Y) → option_map f o ≡ Some y → Mapped f o y
mapped f None y e = absurd cc
mapped f (Some x) y e = record { value = x; there = refl; is = cc }

record Joined {X Y Z : Type 0} (f : X → Y → Z) (o : Option X) (p : Option Y) (z : Z) : Type 0 where
  first : X
  second : Y
  one : o ≡ Some first
  two : p ≡ Some second
  is : f first second ≡ z

joined : {X Y Z : Type 0} (f : X → Y → Z) (o : Option X) (p : Option Y) (z : Z) → both f o p ≡ Some z → Joined f o p z
joined f None p z e = absurd cc
joined f (Some x) None z e = absurd cc
joined f (Some x) (Some y) z e = record { first = x; second = y; one = refl; two = refl; is = cc }

piece_means : (ws : List (List ℕ)) (m : Meaning) → piece_of ws ≡ Some m → LineMeans (codes "piece" ∷ ws) m
piece_means [] m e = absurd cc
piece_means (p ∷ ws) m e =
    let h = joined piece (number number_limit p) (numbers number_limit ws) m e in
    subst (LineMeans (codes "piece" ∷ (p ∷ ws))) h.is (piece_line (decimal_is number_limit p h.first h.one) (numbers_are number_limit ws h.second h.two))

-- the word `day` and one number
record DayWords (ws : List (List ℕ)) (day : ℕ) : Type 0 where
  d : List ℕ
  are : ws ≡ codes "day" ∷ (d ∷ [])
  number : IsNumber number_limit d day

day_words : (ws : List (List ℕ)) (day : ℕ) → day_of ws ≡ Some day → DayWords ws day
day_words [] day e = absurd cc
day_words (w ∷ ws) day e = go (bytes_eq w (codes "day")) refl e
  where
    only : (vs : List (List ℕ)) → w ≡ codes "day" → only_number vs ≡ Some day → DayWords (w ∷ vs) day
    only [] is e = absurd cc
    only (d ∷ []) is e = record { d = d; are = ap (λ v. v ∷ (d ∷ [])) is; number = decimal_is number_limit d day e }
    only (d ∷ (v ∷ vs)) is e = absurd cc

    go : (t : Bool) → bytes_eq w (codes "day") ≡ t → cond t (only_number ws) None ≡ Some day → DayWords (w ∷ ws) day
    go true is e = only ws ((bytes_eq-Decides w (codes "day")).0 is) e
    go false is e = absurd cc

chain_means : (ws : List (List ℕ)) (m : Meaning) → chain_of ws ≡ Some m → LineMeans (codes "chain" ∷ ws) m
chain_means [] m e = absurd cc
chain_means (a ∷ ws) m e =
    let h = joined chain (number number_limit a) (day_of ws) m e in
    let day = day_words ws h.second h.two in
    subst (LineMeans (codes "chain" ∷ (a ∷ ws))) h.is (subst (λ vs. LineMeans (codes "chain" ∷ (a ∷ vs)) (chain h.first h.second)) (sym day.are) (chain_line (decimal_is number_limit a h.first h.one) day.number))

line_means : (w : List ℕ) (ws : List (List ℕ)) (m : Meaning) (k : Key) → KeyWord w k → rest_says k ws ≡ Some m → LineMeans (w ∷ ws) m
line_means w ws m k (a_comment text) e = let same : nothing ≡ m = cc in subst (LineMeans ((35 ∷ text) ∷ ws)) same (comment_line text ws)
line_means w ws m k a_paper e = let h = mapped paper (bytes_of ws) m e in subst (LineMeans (codes "paper" ∷ ws)) h.is (paper_line (bytes_are ws h.value h.there))
line_means w ws m k some_seals e = let h = mapped seals (numbers mark_limit ws) m e in subst (LineMeans (codes "seals" ∷ ws)) h.is (seals_line (numbers_are mark_limit ws h.value h.there))
line_means w ws m k some_trusted e = let h = mapped trusted (numbers mark_limit ws) m e in subst (LineMeans (codes "trusted" ∷ ws)) h.is (trusted_line (numbers_are mark_limit ws h.value h.there))
line_means w ws m k a_piece e = piece_means ws m e
line_means w ws m k a_chain e = chain_means ws m e
line_means w ws m k (another v) e = absurd cc

words_mean : (ws : List (List ℕ)) (m : Meaning) → words_say ws ≡ Some m → LineMeans ws m
words_mean [] m e = let same : nothing ≡ m = cc in subst (LineMeans []) same blank_line
words_mean (w ∷ ws) m e = line_means w ws m (key_of w) (key_word w) e

words_only_say : (ws : List (List ℕ)) (m : Meaning) → LineMeans ws m → words_say ws ≡ Some m
words_only_say ws m blank_line = refl
words_only_say ws m (comment_line text vs) = refl
words_only_say ws m (paper_line {words = vs} {bytes = bs} h) = ap (option_map paper) (bytes_only vs bs h)
words_only_say ws m (seals_line {words = vs} {marks = ns} h) = ap (option_map seals) (numbers_only mark_limit vs ns h)
words_only_say ws m (trusted_line {words = vs} {marks = ns} h) = ap (option_map trusted) (numbers_only mark_limit vs ns h)
words_only_say ws m (piece_line {p = p} {words = vs} {paper = n} {path = ns} h k) = ap₂ (both piece) (decimal_only number_limit p n h) (numbers_only number_limit vs ns k)
words_only_say ws m (chain_line {a = a} {d = d} {first = n} {day = k} h i) = ap₂ (both chain) (decimal_only number_limit a n h) (decimal_only number_limit d k i)

-- behind a first word of this kind stand words to be stored
abbrev StoredBehind : Key → List (List ℕ) → Type 0
StoredBehind Comment ws = ⊥
StoredBehind Paper ws = 0 < length ws
StoredBehind Seals ws = 0 < length ws
StoredBehind Trusted ws = 0 < length ws
StoredBehind Piece ws = 1 < length ws
StoredBehind Chain ws = ⊥
StoredBehind Other ws = ⊥

stores : (w : List ℕ) (ws : List (List ℕ)) (k : Key) → KeyWord w k → StoredBehind k ws → StoresWords (w ∷ ws)
stores w ws k (a_comment text) h = absurd h
stores w [] k a_paper h = absurd (omega arith)
stores w (v ∷ ws) k a_paper h = stores_paper v ws
stores w [] k some_seals h = absurd (omega arith)
stores w (v ∷ ws) k some_seals h = stores_seals v ws
stores w [] k some_trusted h = absurd (omega arith)
stores w (v ∷ ws) k some_trusted h = stores_trusted v ws
stores w [] k a_piece h = absurd (omega arith)
stores w (p ∷ []) k a_piece h = absurd (omega arith)
stores w (p ∷ (v ∷ ws)) k a_piece h = stores_path p v ws
stores w ws k a_chain h = absurd h
stores w ws k (another v) h = absurd h

-- a line by its first word
module _ (line ws : List (List ℕ)) (w : List ℕ) (k : Key) (is : line ≡ w ∷ ws) (key : key_of w ≡ k) where
  pub said_behind : words_say line ≡ rest_says k ws
  said_behind = ap words_say is ∙ ap (λ j. rest_says j ws) key

  pub stored_behind : StoredBehind k ws → StoresWords line
  stored_behind h = subst StoresWords (sym is) (stores w ws k (subst (KeyWord w) key (key_word w)) h)

pub meaning_stand : MeaningStand
unfolding meaning
meaning_stand line m = (words_mean (words line) m, words_only_say (words line) m)

-- the head of a line that can be read
heads_say : (ws : List (List ℕ)) (m : Meaning) → LineMeans ws m → words_head ws ≡ head_of m
heads_say ws m blank_line = refl
heads_say ws m (comment_line text vs) = refl
heads_say ws m (paper_line h) = refl
heads_say ws m (seals_line h) = refl
heads_say ws m (trusted_line h) = refl
heads_say ws m (piece_line h k) = refl
heads_say ws m (chain_line h i) = refl

pub head_said : (line : List ℕ) (m : Meaning) → meaning line ≡ Some m → words_head (words line) ≡ head_of m
unfolding meaning
head_said line m e = heads_say (words line) m (words_mean (words line) m e)
