-- A row printed element by element.
use Rattle.std.proofs.Common.{◌≡◌, ℕ, ◌+◌, ◌<◌, ◌≤◌, true, List, [], ◌++◌, length, is_err, Some, None, Result, sym, refl, ap, ◌∙◌, append_assoc, append-nil, arith}
use Rattle.format.specs.Elements.{Row, empty, primitive, constructed, framed, written, Reads}
use Rattle.format.proofs.Fronts.{same_front}
use Rattle.format.proofs.Rows.{primitive_parts, constructed_parts, framed_size}
use Rattle.format.proofs.Walks.{stop}
use Rattle.element.specs.Cursors.{ahead, Passes, NextElement}
use Rattle.element.proofs.Walks.{split}
use Rattle.element.specs.Limits.{longest}
use Rattle.element.specs.declared.walking.Cursor.{Cursor}
use Rattle.element.specs.declared.walking.Element.{Element}
use Rattle.element.proofs.Openings.{front_of}
use Rattle.text.specs.Texts.{element_text, AppendsFront, AppendsText}
use Rattle.text.proofs.Written.{fails_behind}
use Rattle.session.specs.Rows.{row_text}

-- the text of a row whose bytes begin with a primitive element, or with a constructed one
data SplitText (d level : ℕ) (row : Row) (t : ℕ) (c r : List ℕ) : Type 0 where
  plain : t < 128 → (behind : Row) → Reads d longest r behind → row_text level row ≡ element_text level t (Some c) ++ row_text level behind → SplitText d level row t c r
  nested : 128 ≤ t → (less : ℕ) (q : Row) → Reads less longest c q → (behind : Row) → Reads d longest r behind → row_text level row ≡ element_text level t None ++ (row_text (level + 1) q ++ row_text level behind) → SplitText d level row t c r

split_text : (d level : ℕ) (b : List ℕ) (row : Row) → Reads d longest b row → (t : ℕ) (c r : List ℕ) → b ≡ framed t c ++ r → SplitText d level row t c r
unfolding written row_text
split_text d level b empty h t c r e = absurd (omega (arith, framed_size t c r, ap length (h.writing ∙ e)))
split_text d level b (primitive u x rest) h t c r e =
    let s = same_front u t x c (written rest) r (h.writing ∙ e) in
    let p = primitive_parts d longest u x rest h.well in
    plain (omega (arith, s.0, p.low)) rest (record { well = p.rest; writing = s.2 }) (λ i. element_text level (s.0 i) (Some (s.1 i)) ++ row_text level rest)
split_text d level b (constructed u q rest) h t c r e =
    let s = same_front u t (written q) c (written rest) r (h.writing ∙ e) in
    let p = constructed_parts d longest u q rest h.well in
    nested (omega (arith, s.0, p.high)) p.less q (record { well = p.within; writing = s.1 }) rest (record { well = p.rest; writing = s.2 }) (λ i. element_text level (s.0 i) None ++ (row_text (level + 1) q ++ row_text level rest))

-- a front of a row's text has been printed behind the old bytes, and the elements left are those of the rest
pub record PrintedPart (level d : ℕ) (row : Row) (old items rest : List ℕ) : Type 0 where
  pub left : Row
  pub reads : Reads d longest rest left
  pub done : List ℕ
  pub is : items ≡ old ++ done
  pub text : row_text level row ≡ done ++ row_text level left

pub record Printed (level : ℕ) (start old items rest : List ℕ) : Type 0 where
  pub less : length rest ≤ length start
  pub on : (d : ℕ) (row : Row) → Reads d longest start row → PrintedPart level d row old items rest

pub printed_none : (level : ℕ) (start old : List ℕ) → Printed level start old old start
printed_none level start old = record { less = omega arith; on = λ d row h. record { left = row; reads = h; done = []; is = sym (append-nil old); text = refl } }

pub printed_all : (level : ℕ) (start old items : List ℕ) (c u : Cursor) → Printed level start old items (ahead c) → NextElement c None u → (d : ℕ) (row : Row) → Reads d longest start row → items ≡ old ++ row_text level row
unfolding row_text
printed_all level start old items c u p e d row h =
    let part = p.on d row h in
    let none : part.left ≡ empty = stop d longest (ahead c) part.left part.reads (front_of (ahead c) e.1) in
    part.is ∙ ap (λ l. old ++ l) (sym (part.text ∙ ap (λ l. part.done ++ row_text level l) none ∙ append-nil part.done))

-- the contents and what is left are shorter
pub shorter : {c : Cursor} {x : Element} {u : Cursor} → Passes c x u → 2 + length x.contents.now + length (ahead u) ≤ length (ahead c)
shorter {c} {x} {u} s = omega (arith, framed_size x.tag x.contents.now (ahead u), ap length (split s))

module _ (level : ℕ) (start old was : List ℕ) (c : Cursor) (x : Element) (u : Cursor) (p : Printed level start old was (ahead c)) (s : Passes c x u) where
  -- the row's text goes on with the element's
  pub record PrintsNext (d : ℕ) (row : Row) (own within : List ℕ) : Type 0 where
    pub done : List ℕ
    pub is : was ≡ old ++ done
    pub behind : Row
    pub reads : Reads d longest (ahead u) behind
    pub text : row_text level row ≡ done ++ (own ++ (within ++ row_text level behind))

  next_plain : x.tag < 128 → (d : ℕ) (row : Row) → Reads d longest start row → PrintsNext d row (element_text level x.tag (Some x.contents.now)) []
  next_plain low d row h =
      let part = p.on d row h in
      elim (split_text d level (ahead c) part.left part.reads x.tag x.contents.now (ahead u) (split s)) [
        | plain low' behind r text ↦ record { done = part.done; is = part.is; behind = behind; reads = r; text = part.text ∙ ap (λ l. part.done ++ l) text }
        | nested high less q rq behind r text ↦ absurd (omega arith)
      ]

  -- the row within a constructed element
  pub record PrintsWithin (d : ℕ) (row : Row) : Type 0 where
    pub less : ℕ
    pub inner : Row
    pub within : Reads less longest x.contents.now inner
    pub next : PrintsNext d row (element_text level x.tag None) (row_text (level + 1) inner)

  next_nested : 128 ≤ x.tag → (d : ℕ) (row : Row) → Reads d longest start row → PrintsWithin d row
  next_nested high d row h =
      let part = p.on d row h in
      elim (split_text d level (ahead c) part.left part.reads x.tag x.contents.now (ahead u) (split s)) [
        | plain low behind r text ↦ absurd (omega arith)
        | nested high' less q rq behind r text ↦ record { less = less; inner = q; within = rq; next = record { done = part.done; is = part.is; behind = behind; reads = r; text = part.text ∙ ap (λ l. part.done ++ l) text } }
      ]

  -- the element's own line, behind what was printed
  own_put : (mid : List ℕ) → mid ≡ was ++ element_text level x.tag None → (done : List ℕ) → was ≡ old ++ done → mid ≡ old ++ (done ++ element_text level x.tag None)
  own_put mid e done is = e ∙ ap (λ l. l ++ element_text level x.tag None) is ∙ append_assoc old done _

  own_text : (text done within rest : List ℕ) → text ≡ done ++ (element_text level x.tag None ++ (within ++ rest)) → text ≡ (done ++ element_text level x.tag None) ++ (within ++ rest)
  own_text text done within rest e = e ∙ sym (append_assoc done _ (within ++ rest))

  shorter_rest : length (ahead u) ≤ length start
  shorter_rest = omega (arith, p.less, shorter s)

  -- a primitive element is printed
  pub printed_plain : (new : List ℕ) → x.tag < 128 → new ≡ was ++ element_text level x.tag (Some x.contents.now) → Printed level start old new (ahead u)
  printed_plain new low e = record {
    less = shorter_rest;
    on = λ d row h.
        let n = next_plain low d row h in
        let own = element_text level x.tag (Some x.contents.now) in
        record { left = n.behind; reads = n.reads; done = n.done ++ own; is = e ∙ ap (λ l. l ++ own) n.is ∙ append_assoc old n.done own; text = n.text ∙ sym (append_assoc n.done own (row_text level n.behind)) };
  }

  -- memory fails within it
  pub plain_fails : {T E : Type 0} (r : Result T E) (new : List ℕ) → is_err r ≡ true → x.tag < 128 → AppendsFront was (element_text level x.tag (Some x.contents.now)) new → (d : ℕ) (row : Row) → Reads d longest start row → AppendsText r old (row_text level row) new
  plain_fails r new err low f d row h = let n = next_plain low d row h in fails_behind r old n.done was _ (row_text level n.behind) (row_text level row) new err n.text n.is f

  -- a constructed element is printed, and what stands within it
  pub printed_nested : (mid new : List ℕ) → 128 ≤ x.tag → mid ≡ was ++ element_text level x.tag None → ((d : ℕ) (row : Row) → Reads d longest x.contents.now row → new ≡ mid ++ row_text (level + 1) row) → Printed level start old new (ahead u)
  printed_nested mid new high e inner = record {
    less = shorter_rest;
    on = λ d row h.
        let w = next_nested high d row h in
        let n = w.next in
        let own = element_text level x.tag None in
        let within = row_text (level + 1) w.inner in
        record {
          left = n.behind;
          reads = n.reads;
          done = (n.done ++ own) ++ within;
          is = inner w.less w.inner w.within ∙ ap (λ l. l ++ within) (own_put mid e n.done n.is) ∙ append_assoc old (n.done ++ own) within;
          text = own_text (row_text level row) n.done within (row_text level n.behind) n.text ∙ sym (append_assoc (n.done ++ own) within (row_text level n.behind));
        };
  }

  -- memory fails within its first line
  pub heading_fails : {T E : Type 0} (r : Result T E) (new : List ℕ) → is_err r ≡ true → 128 ≤ x.tag → AppendsFront was (element_text level x.tag None) new → (d : ℕ) (row : Row) → Reads d longest start row → AppendsText r old (row_text level row) new
  heading_fails r new err high f d row h = let w = next_nested high d row h in fails_behind r old w.next.done was _ (row_text (level + 1) w.inner ++ row_text level w.next.behind) (row_text level row) new err w.next.text w.next.is f

  -- memory fails within what stands within it
  pub nested_fails : {T E : Type 0} (r : Result T E) (mid new : List ℕ) → is_err r ≡ true → 128 ≤ x.tag → mid ≡ was ++ element_text level x.tag None → ((d : ℕ) (row : Row) → Reads d longest x.contents.now row → AppendsFront mid (row_text (level + 1) row) new) → (d : ℕ) (row : Row) → Reads d longest start row → AppendsText r old (row_text level row) new
  nested_fails r mid new err high e inner d row h =
      let w = next_nested high d row h in
      let n = w.next in
      fails_behind r old (n.done ++ element_text level x.tag None) mid (row_text (level + 1) w.inner) (row_text level n.behind) (row_text level row) new err (own_text (row_text level row) n.done (row_text (level + 1) w.inner) (row_text level n.behind) n.text) (own_put mid e n.done n.is) (inner w.less w.inner w.within)
