-- What lines bring, gathered line by line, and whether they can be read.
use Rattle.std.proofs.Common.{◌≡◌, ℕ, Bool, true, false, ◌&&◌, List, [], ◌∷◌, Some, None, Option, refl, sym, ap, ◌∙◌, subst, append_assoc, append-nil}
use Rattle.std.specs.Prelude.{◌↔◌, is_some}
use Rattle.std.specs.List.{All}
use Rattle.std.proofs.lemmas.List.Elements.{All-nil, All-cons, All-head, All-tail}
use Rattle.text.specs.Heads.{head_of}
use Rattle.text.specs.Meaning.{Meaning, nothing, paper, seals, trusted, piece, chain, meaning}
use Rattle.text.specs.Tokens.{lines}
use Rattle.text.specs.declared.command.Head.TheVariants as head
use Rattle.session.specs.Books.{Brought, nothing_brought, brings, brought_by, brought}
use Rattle.session.specs.Books as books
use Rattle.session.specs.inner.Held.{added}
use Rattle.session.specs.inner.Passing.{Readable}

-- what is held and what the rest of a text brings is what the text brings; and the text is readable exactly if all was readable so far and the rest is
pub record Gathered (text : List ℕ) (held : Brought) (all_read : Bool) (rest : List (List ℕ)) : Type 0 where
  pub whole : added held (brought_by rest) ≡ brought text
  pub readable : all_read ≡ true → All Readable rest → All Readable (lines text)
  pub was_read : All Readable (lines text) → (all_read ≡ true) × All Readable rest

added_assoc : (a b c : Brought) → added (added a b) c ≡ added a (added b c)
added_assoc a b c = λ i. record {
  papers = append_assoc a.papers b.papers c.papers i;
  seals = append_assoc a.seals b.seals c.seals i;
  trusted = append_assoc a.trusted b.trusted c.trusted i;
}

-- nothing more is brought
pub added_none : (b : Brought) → b ≡ added b nothing_brought
added_none b i = record { papers = sym (append-nil b.papers) i; seals = sym (append-nil b.seals) i; trusted = sym (append-nil b.trusted) i }

pub gathered_none : (text : List ℕ) (held : Brought) (all_read : Bool) (rest : List (List ℕ)) → held ≡ nothing_brought → all_read ≡ true → rest ≡ lines text → Gathered text held all_read rest
gathered_none text held all_read rest h t e = record {
  whole = ap (λ b. added b (brought_by rest)) h ∙ ap brought_by e;
  readable = λ _ r. subst (All Readable) e r;
  was_read = λ r. (t, subst (All Readable) (sym e) r);
}

module _ (text : List ℕ) (was is : Brought) (old new : Bool) (rest left : List (List ℕ)) (line : List ℕ) (g : Gathered text was old rest) (e : rest ≡ line ∷ left) (brought : is ≡ added was (brings (meaning line))) where
  whole_more : added is (brought_by left) ≡ books.brought text
  whole_more = ap (λ b. added b (brought_by left)) brought ∙ added_assoc was (brings (meaning line)) (brought_by left) ∙ ap (λ l. added was (brought_by l)) (sym e) ∙ g.whole

  pub gathered_more : (new ≡ true → (old ≡ true) × Readable line) → (old ≡ true → Readable line → new ≡ true) → Gathered text is new left
  gathered_more down up = record {
    whole = whole_more;
    readable = λ t r. let (before, here) = down t in g.readable before (subst (All Readable) (sym e) (All-cons Readable line left here r));
    was_read = λ r. let (before, those) = g.was_read r in let all = subst (All Readable) e those in (up before (All-head Readable line left all), All-tail Readable line left all);
  }

pub gathered_all : (text : List ℕ) (held : Brought) (all_read : Bool) (rest : List (List ℕ)) → Gathered text held all_read rest → rest ≡ [] → (held ≡ brought text) × (all_read ≡ true ↔ All Readable (lines text))
gathered_all text held all_read rest g e =
    (added_none held ∙ ap (λ l. added held (brought_by l)) (sym e) ∙ g.whole, (λ t. g.readable t (subst (All Readable) (sym e) (All-nil Readable)), λ r. (g.was_read r).0))

-- a line that begins as one that brings something was read, or was not
pub read_down : (old : Bool) (o : Option Meaning) → (old && is_some o) ≡ true → (old ≡ true) × (m : Meaning) × (o ≡ Some m)
read_down true (Some m) e = (refl, m, refl)
read_down true None e = absurd cc
read_down false o e = absurd cc

pub read_up : (old : Bool) (o : Option Meaning) → old ≡ true → (m : Meaning) → o ≡ Some m → (old && is_some o) ≡ true
read_up old o t m e = (λ i. t i && is_some (e i))

-- a line that begins as another
pub other_brings : (o : Option Meaning) → ((m : Meaning) → o ≡ Some m → head.Other ≡ head_of m) → brings o ≡ nothing_brought
other_brings None said = refl
other_brings (Some nothing) said = refl
other_brings (Some (paper bytes)) said = let e = said (paper bytes) refl in absurd cc
other_brings (Some (seals marks)) said = let e = said (seals marks) refl in absurd cc
other_brings (Some (trusted marks)) said = let e = said (trusted marks) refl in absurd cc
other_brings (Some (piece p path)) said = refl
other_brings (Some (chain first day)) said = refl
