-- What is written of a text's answer, when one more line is answered or it fails.
use Rattle.std.proofs.Common.{◌≡◌, ℕ, suc, List, [], ◌∷◌, ◌++◌, true, vec_items, Ok, Err, Option, Result, inl, inr, sym, ap, ◌∙◌, subst, append-nil}
use Rattle.std.specs.Result.{IsErrAnd}
use Rattle.std.specs.Io.KnownBytes.{Appends}
use Rattle.std.specs.declared.alloc.AllocError.{AllocError}
use Rattle.text.specs.Meaning.{meaning}
use Rattle.text.specs.Tokens.{lines}
use Rattle.session.specs.declared.Book.{Book}
use Rattle.session.specs.declared.error.AnswerError.{AnswerError}
use Rattle.session.specs.declared.error.AnswerError.TheVariants.{Memory, Write}
use Rattle.session.specs.Books.{Brought, brought, Numbers}
use Rattle.session.specs.Answers.{Answered}
use Rattle.session.specs.Writing.{WritesAnswer}
use Rattle.session.specs.inner.Held.{IndexesOf, SameHeld, held}
use Rattle.session.specs.inner.Passing.{BookOf, Left}
use Rattle.session.specs.inner.Puts.{WritesOne}
use Rattle.session.proofs.Known.{appends_nothing, appends_more, appends_same, keeps_same}
use Rattle.session.proofs.Telling.{Told, told_none, told_more, text_answered, front_answered, cut_answered}

-- the answers to the first n lines are written, and those left are to be answered
abbrev pub SoFar : (text numbers : List ℕ) (n : ℕ) (left : List (List ℕ)) (old new : Option (List ℕ)) → Type 0
SoFar text numbers n left old new = (written : List ℕ) × Told (brought text) numbers (lines text) written n left × Appends old new written

module _ (text numbers : List ℕ) (book : Brought) (same : book ≡ brought text) (n : ℕ) (line : List ℕ) (left : List (List ℕ)) where
  answer_of : (t : List ℕ) → Answered book numbers n (meaning line) t → Answered (brought text) numbers n (meaning line) t
  answer_of t = subst (λ b. Answered b numbers n (meaning line) t) same

  so_far : {T : Type 0} (x : T) (a b c : Option (List ℕ)) → SoFar text numbers n (line ∷ left) a b → WritesOne (Answered book numbers n (meaning line)) (Ok x) b c → SoFar text numbers (suc n) left a c
  so_far x a b c s w = (s.0 ++ w.0, told_more (brought text) numbers (lines text) s.0 w.0 n line left s.1 (answer_of w.0 w.1), appends_more a b c s.0 w.0 s.2 w.2)

  cut_short : (T : Type 0) (permits : Numbers (brought text).papers numbers) (e : AnswerError) (a b c : Option (List ℕ)) → SoFar text numbers n (line ∷ left) a b → WritesOne {T = T} (Answered book numbers n (meaning line)) (Err e) b c → WritesAnswer text a c (Err e)
  cut_short T permits (Memory e) a b c s w =
      inr (s.0, front_answered text numbers permits s.0 n (line ∷ left) s.1, subst (Appends a c) (append-nil s.0) (appends_more a b c s.0 [] s.2 (appends_nothing b c w)))
  cut_short T permits (Write e) a b c s w =
      (s.0 ++ w.0, w.1, cut_answered text numbers permits s.0 w.0 w.1 n line left s.1 (answer_of (w.0 ++ w.1) w.2), appends_more a b c s.0 w.0 s.2 w.3)

  failed : (T : Type 0) (permits : Numbers (brought text).papers numbers) (r : Result Unit AnswerError) (e : AnswerError) (a b c : Option (List ℕ)) → IsErrAnd r (λ x. x ≡ e) → SoFar text numbers n (line ∷ left) a b → WritesOne {T = T} (Answered book numbers n (meaning line)) (Err e) b c → WritesAnswer text a c r
  failed T permits (Ok u) e a b c h s w = absurd h
  failed T permits (Err x) e a b c h s w = subst (λ y. WritesAnswer text a c (Err y)) (sym h) (cut_short T permits e a b c s w)

-- a book of the text, what is left of it, and what has been written
pub record Turn (text : List ℕ) (book : Book) (passed : ℕ) (n : ℕ) (rest : List (List ℕ)) (old now : Option (List ℕ)) : Type 0 where
  pub whole : held book ≡ brought text
  pub numbers : Numbers (held book).papers (vec_items book.numbers)
  pub indexed : IndexesOf (held book).papers (vec_items book.indexes)
  pub left : book.all_read ≡ true → Left (held book).papers passed rest
  pub said : SoFar text (vec_items book.numbers) n rest old now

pub first_turn : (text : List ℕ) (book : Book) (passed : ℕ) (n : ℕ) (rest : List (List ℕ)) (old : Option (List ℕ)) → BookOf text book → passed ≡ 0 → n ≡ 0 → rest ≡ lines text → Turn text book passed n rest old old
first_turn text book passed n rest old b p z e =
    subst (λ k. Turn text book passed k rest old old) (sym z)
    (subst (λ l. Turn text book passed 0 l old old) (sym e) (record {
      whole = b.whole;
      numbers = b.numbers;
      indexed = b.indexed;
      left = λ t. record { before = []; count = p; papers_left = ap (λ h. h.papers) b.whole; readable = b.readable.0 t };
      said = ([], told_none text (vec_items book.numbers), appends_same old);
    }))

module _ (text : List ℕ) (was : Book) (passed : ℕ) (n : ℕ) (rest : List (List ℕ)) (old now : Option (List ℕ)) (t : Turn text was passed n rest old now) (line : List ℕ) (left : List (List ℕ)) (e : rest ≡ line ∷ left) where
  pub here : was.all_read ≡ true → Left (held was).papers passed (line ∷ left)
  here read = subst (Left (held was).papers passed) e (t.left read)

  said_here : SoFar text (vec_items was.numbers) n (line ∷ left) old now
  said_here = subst (λ l. SoFar text (vec_items was.numbers) n l old now) e t.said

  pub next_turn : {T : Type 0} (x : T) (is : Book) (next : ℕ) (m : ℕ) (new : Option (List ℕ)) → m ≡ suc n → SameHeld was is → WritesOne (Answered (held was) (vec_items was.numbers) n (meaning line)) (Ok x) now new → (was.all_read ≡ true → (l : List (List ℕ)) → Left (held was).papers passed (line ∷ l) → Left (held was).papers next l) → Turn text is next m left old new
  next_turn x is next m new step same w goes =
      subst (λ k. Turn text is next k left old new) (sym step) (record {
        whole = same.held ∙ t.whole;
        numbers = subst (λ b. Numbers b.papers (vec_items is.numbers)) (sym same.held) (subst (Numbers (held was).papers) (sym same.numbers) t.numbers);
        indexed = same.indexed;
        left = λ read. let before = sym same.all_read ∙ read in subst (λ b. Left b.papers next left) (sym same.held) (goes before left (here before));
        said = subst (λ ns. SoFar text ns (suc n) left old new) (sym same.numbers) (so_far text (vec_items was.numbers) (held was) t.whole n line left x old now new said_here w);
      })

  pub turn_failed : (T : Type 0) (new : Option (List ℕ)) (r : Result Unit AnswerError) (x : AnswerError) → IsErrAnd r (λ y. y ≡ x) → WritesOne {T = T} (Answered (held was) (vec_items was.numbers) n (meaning line)) (Err x) now new → WritesAnswer text old new r
  turn_failed T new r x h w =
      failed text (vec_items was.numbers) (held was) t.whole n line left T (subst (λ b. Numbers b.papers (vec_items was.numbers)) t.whole t.numbers) r x old now new h said_here w

pub all_told : (text : List ℕ) (book : Book) (passed : ℕ) (n : ℕ) (rest : List (List ℕ)) (old now : Option (List ℕ)) → Turn text book passed n rest old now → rest ≡ [] → WritesAnswer text old now (Ok tt)
all_told text book passed n rest old now t none =
    let s = subst (λ l. SoFar text (vec_items book.numbers) n l old now) none t.said in
    (s.0, text_answered text (vec_items book.numbers) (subst (λ b. Numbers b.papers (vec_items book.numbers)) t.whole t.numbers) s.0 n s.1, s.2)

-- a text that could not be read because memory failed
pub unread_text : (text : List ℕ) (r : Result Unit AnswerError) (e : AllocError) (a : Option (List ℕ)) → IsErrAnd r (λ x. x ≡ Memory e) → WritesAnswer text a a r
unread_text text (Ok u) e a h = absurd h
unread_text text (Err x) e a h = subst (λ y. WritesAnswer text a a (Err y)) (sym h) (inl (keeps_same a))
