-- Where an element opens, and where none does.
use Rattle.std.proofs.Common.{◌≡◌, ℕ, ◌+◌, ◌-◌, ◌<◌, ◌≤◌, List, [], ◌∷◌, ◌++◌, length, get_or, take, drop, Option, sym, ap, ◌∙◌, subst, arith, length-drop, length-append, length-take-le, get_or-drop, take_at}
use Rattle.std.proofs.lemmas.List.{take_rest}
use Rattle.format.specs.Elements.{written_length, framed}
use Rattle.format.proofs.Fronts.{Front, frame, front_length_of, front_says}
use Rattle.format.proofs.Rows.{framed_size}
use Rattle.length.specs.declared.Length.{Length}
use Rattle.length.specs.Lengths.{LengthFront, LengthAt, front_length}
use Rattle.length.proofs.Forms.{reads_length}
use Rattle.element.specs.declared.judging.Opening.{Opening}
use Rattle.element.specs.Limits.{longest}
use Rattle.element.specs.Openings.{Opens}

-- no element stands at the front of the bytes
abbrev pub Shut : List ℕ → Type 0
Shut b = (tag : ℕ) (contents behind : List ℕ) → length contents ≤ longest → b ≡ framed tag contents ++ behind → ⊥

pub shut_from : (b : List ℕ) → (Front longest b → ⊥) → Shut b
shut_from b f = λ t c r h e. f (record { tag = t; contents = c; behind = r; fits = h; is = e })

pub front_of : (b : List ℕ) → Shut b → Front longest b → ⊥
front_of b f g = f g.tag g.contents g.behind g.fits g.is

-- a tag and a length, with enough bytes behind them
pub opens_from : (b : List ℕ) (v k : ℕ) → 0 < length b → get_or b 0 0 < 256 → LengthFront (drop 1 b) v k → v ≤ length (drop k (drop 1 b)) → (o : Opening) → o.tag ≡ get_or b 0 0 → o.contents.now ≡ take v (drop k (drop 1 b)) → o.behind.now ≡ drop v (drop k (drop 1 b)) → Opens b o
opens_from [] v k some byte h fits o tag contents behind = absurd (omega arith)
opens_from (t ∷ x) v k some byte h fits o tag contents behind =
    let whole = frame t v (drop k x) (t ∷ x) fits (ap (λ y. t ∷ y) h.is) in
    record {
      byte = omega (arith, tag);
      fits = omega (arith, ap length contents, length-take-le v (drop k x) fits, h.limit);
      is = whole ∙ sym (λ i. framed (tag i) (contents i) ++ behind i);
    }

-- fewer than two bytes
pub shut_few : (b : List ℕ) → length b < 2 → Shut b
shut_few b h = λ t c r k e. omega (arith, ap length e, framed_size t c r)

-- a tag with no length behind it
pub shut_length : (b : List ℕ) → 0 < length b → ((n : ℕ) (r : List ℕ) → drop 1 b ≡ written_length n ++ r → ⊥) → Shut b
shut_length [] h f = absurd (omega arith)
shut_length (t ∷ x) h f = shut_from (t ∷ x) (λ g. f (length g.contents) (g.contents ++ g.behind) (front_length_of longest t x g))

-- a length that says more than there is
pub shut_long : (b : List ℕ) (v k : ℕ) → 0 < length b → LengthFront (drop 1 b) v k → length b < 1 + k + v → Shut b
shut_long [] v k h g l = absurd (omega arith)
shut_long (t ∷ x) v k h g l =
    shut_from (t ∷ x) (λ f. omega (arith, g.within, length-drop k x, (front_says longest t v (drop k x) (subst (λ y. Front longest (t ∷ y)) g.is f)).1))

-- what reading the length behind the tag says
pub length_behind : (b : List ℕ) → ((i : ℕ) → get_or b i 0 < 256) → (r : Option Length) → r ≡ front_length (take (length b - 1) (drop 1 b)) → LengthAt (drop 1 b) r
length_behind b h r e = subst (LengthAt (drop 1 b)) (sym (e ∙ ap front_length (take_rest b 1))) (reads_length (drop 1 b) (λ i. rw get_or-drop (h (1 + i))))

-- the first element as it is written: all but what is behind it
pub record Whole (b : List ℕ) (o : Opening) : Type 0 where
  pub whole : take (length b - length o.behind.now) b ≡ framed o.tag o.contents.now
  pub front : b ≡ take (length b - length o.behind.now) b ++ o.behind.now
  pub size : length (take (length b - length o.behind.now) b) + length o.behind.now ≡ length b
  pub header : 2 + length o.contents.now ≤ length (take (length b - length o.behind.now) b)

pub whole_of : (b : List ℕ) (o : Opening) → Opens b o → Whole b o
whole_of b o h =
    let element = framed o.tag o.contents.now in
    let long = ap length h.is ∙ length-append element o.behind.now in
    let whole : take (length b - length o.behind.now) b ≡ element = ap (take (length b - length o.behind.now)) h.is ∙ take_at element o.behind.now (length b - length o.behind.now) (omega (arith, long)) in
    record {
      whole = whole;
      front = h.is ∙ ap (λ l. l ++ o.behind.now) (sym whole);
      size = omega (arith, ap length whole, long);
      header = omega (arith, ap length whole, ap length h.is, long, framed_size o.tag o.contents.now o.behind.now);
    }
