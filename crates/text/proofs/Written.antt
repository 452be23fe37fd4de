-- Texts put one behind the other.
use Rattle.std.proofs.Common.{◌≡◌, ℕ, ◌+◌, ◌-◌, ◌*◌, ◌<◌, ◌≤◌, true, List, [], ◌∷◌, ◌++◌, length, take, drop, get_or, replicate, is_err, Ok, Err, Result, refl, sym, ap, ◌∙◌, subst, append_assoc, append-nil, arith}
use Rattle.std.specs.List.{flat_map}
use Rattle.std.proofs.lemmas.List.{take-append-drop, take_all, drop_more, flat_map_more, replicate-append-replicate}
use Rattle.std.proofs.lemmas.Grind.{take_at_read, flat_map-append}
use Rattle.std.proofs.lemmas.Result.{MatchResult-from_err}
use Rattle.text.specs.Texts.{line_feed, space_before, spaced, indent, AppendsFront, AppendsText}

-- a front of a text, behind another that is there already and before what follows
front_within : (a t b u v c : List ℕ) → b ≡ a ++ t → AppendsFront b u c → AppendsFront a (t ++ (u ++ v)) c
front_within a t b u v c e (part, rest, is, new) =
    (t ++ part, rest ++ v, ap (λ l. t ++ l) (ap (λ l. l ++ v) is ∙ append_assoc part rest v) ∙ sym (append_assoc t part (rest ++ v)), new ∙ ap (λ l. l ++ part) e ∙ append_assoc a t part)

-- memory fails within a text, behind what is there of it
pub fails_behind : {T E : Type 0} (r : Result T E) (a t b u v text c : List ℕ) → is_err r ≡ true → text ≡ t ++ (u ++ v) → b ≡ a ++ t → AppendsFront b u c → AppendsText r a text c
fails_behind r a t b u v text c err is e h = MatchResult-from_err r (λ _. c ≡ a ++ text) (λ _. AppendsFront a text c) err (λ _. subst (λ l. AppendsFront a l c) (sym is) (front_within a t b u v c e h))

-- memory fails within the first part of a text
pub fails_first : {T E : Type 0} (r : Result T E) (a u v c : List ℕ) → is_err r ≡ true → AppendsFront a u c → AppendsText r a (u ++ v) c
fails_first r a u v c err h = fails_behind r a [] a u v (u ++ v) c err refl (sym (append-nil a)) h

-- a text behind one that is there already
pub behind : {T E : Type 0} (r : Result T E) (a t b u c : List ℕ) → b ≡ a ++ t → AppendsText r b u c → AppendsText r a (t ++ u) c
behind (Ok x) a t b u c e h = h ∙ ap (λ l. l ++ u) e ∙ append_assoc a t u
behind {T = T} {E = E} (Err y) a t b u c e h = fails_behind {T = T} {E = E} (Err y) a t b u [] (t ++ u) c refl (ap (λ l. t ++ l) (sym (append-nil u))) e h

-- a whole row of texts with a space before each, and the end of its line
pub row_end : {T E X : Type 0} (text : X → List ℕ) (xs : List X) (i : ℕ) (r : Result T E) (old start was new : List ℕ) (first : X) → length xs ≤ i → start ≡ old ++ text first → was ≡ start ++ flat_map (space_before text) (take i xs) → AppendsText r was line_feed new → AppendsText r old (spaced text (first ∷ xs) ++ line_feed) new
row_end text xs i r old start was new first le e read h =
    behind r old (spaced text (first ∷ xs)) was line_feed new
    (read ∙ ap (λ l. start ++ flat_map (space_before text) l) (take_all i xs le) ∙ ap (λ l. l ++ flat_map (space_before text) xs) e ∙ append_assoc old (text first) _) h

-- the indent of a level above another
pub indent_parts : (i level : ℕ) → i < level → indent level ≡ indent i ++ ((32 ∷ (32 ∷ [])) ++ replicate (2 * (level - i) - 2) 32)
indent_parts i level lt =
    let more = 2 * (level - i) - 2 in
    let back : 2 * i + (2 + more) ≡ 2 * level = omega arith in
    sym (ap (λ l. indent i ++ l) (replicate-append-replicate 2 more 32) ∙ replicate-append-replicate (2 * i) (2 + more) 32 ∙ ap (λ k. replicate k 32) back)

-- one level more
pub indent_more : (old was new : List ℕ) (i : ℕ) → was ≡ old ++ indent i → new ≡ was ++ 32 ∷ (32 ∷ []) → new ≡ old ++ indent (i + 1)
indent_more old was new i e more =
    let two : 2 * i + 2 ≡ 2 * (i + 1) = omega arith in
    more ∙ ap (λ l. l ++ 32 ∷ (32 ∷ [])) e ∙ append_assoc old (indent i) (32 ∷ (32 ∷ [])) ∙ ap (λ l. old ++ l) (replicate-append-replicate (2 * i) 2 32 ∙ ap (λ k. replicate k 32) two)

-- one figure more behind those that are there
pub row_more : {X : Type 0} (text : X → List ℕ) (xs : List X) (i : ℕ) (d : X) (start was new : List ℕ) → i < length xs → was ≡ start ++ flat_map text (take i xs) → new ≡ was ++ text (get_or xs i d) → new ≡ start ++ flat_map text (take (i + 1) xs)
row_more text xs i d start was new within e more =
    more ∙ ap (λ l. l ++ text (get_or xs i d)) e ∙ flat_map_more text start (take i xs) (get_or xs i d) ∙ ap (λ l. start ++ flat_map text l) (sym (take_at_read xs i d within).1)

-- a row of figures up to one of them, and behind it
pub row_parts : {X : Type 0} (text : X → List ℕ) (first : X) (xs : List X) (i : ℕ) (d : X) → i < length xs → spaced text (first ∷ xs) ++ line_feed ≡ (text first ++ flat_map (space_before text) (take i xs)) ++ (space_before text (get_or xs i d) ++ (flat_map (space_before text) (drop (i + 1) xs) ++ line_feed))
row_parts text first xs i d lt =
    let f = space_before text in
    let front = text first ++ flat_map f (take i xs) in
    let x = f (get_or xs i d) in
    let rest = flat_map f (drop (i + 1) xs) in
    let whole : flat_map f xs ≡ flat_map f (take i xs) ++ (x ++ rest) = ap (flat_map f) (sym (take-append-drop i xs)) ∙ flat_map-append f (take i xs) (drop i xs) ∙ ap (λ l. flat_map f (take i xs) ++ flat_map f l) (drop_more xs i d lt) in
    ap (λ l. (text first ++ l) ++ line_feed) whole ∙ ap (λ l. l ++ line_feed) (sym (append_assoc (text first) (flat_map f (take i xs)) (x ++ rest))) ∙ append_assoc front (x ++ rest) line_feed ∙ ap (λ l. front ++ l) (append_assoc x rest line_feed)
