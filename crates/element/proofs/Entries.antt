-- What the entries of a row are to its elements, and how paths lead to both.
use Rattle.std.proofs.Common.{◌≡◌, ℕ, zero, suc, ◌+◌, ◌-◌, ◌<◌, ◌≤◌, List, [], ◌∷◌, ◌++◌, length, take, drop, Some, None, Option, Bor, MatchOption, ◌⊎◌, option_map, slice_get, slice_range, sym, refl, ap, ◌∙◌, subst, append_assoc, append-nil, arith, length-take, length-drop}
use Rattle.std.proofs.lemmas.List.{nil_from_length, take_rest}
use Rattle.std.proofs.lemmas.Option.{slice_get_past}
use Rattle.format.specs.Elements.{first_constructed, Row, empty, primitive, constructed, framed, written, Reads}
use Rattle.format.specs.Paths.{nth, inside, at_path, before, inner_start, place}
use Rattle.format.proofs.Fronts.{same_front}
use Rattle.format.proofs.Places.{part_of_bytes, some_bytes}
use Rattle.format.proofs.Rows.{primitive_parts, constructed_parts, framed_size}
use Rattle.format.proofs.Walks.{framed_length, stop}
use Rattle.element.specs.Cursors.{ahead, offset, Passes, NextElement, RowOf}
use Rattle.element.specs.Indexed.{span_of, entries_within, entry_at, IndexOf}
use Rattle.element.specs.Judged.{Judged}
use Rattle.element.specs.Limits.{deepest, longest}
use Rattle.element.specs.Located.{Leads, Located, Piece}
use Rattle.element.specs.inner.Noted.{Noted}
use Rattle.element.specs.declared.index.Entry.{Entry, Entry-F, out-Entry, out-roll-Entry, roll-Entry}
use Rattle.element.specs.declared.index.Index.{Index}
use Rattle.element.specs.declared.paths.Span.{Span}
use Rattle.element.specs.declared.walking.Cursor.{Cursor}
use Rattle.element.specs.declared.walking.Element.{Element}
use Rattle.element.proofs.Openings.{front_of}
use Rattle.element.proofs.Walks.{split, inside_none}

-- the entry of the element with a number in a row that begins at a place
record IsEntry (row : Row) (at n : ℕ) (e : Entry) : Type 0 where
  some : nth row n ≡ empty → ⊥
  there : (span_of e).at ≡ at + before row n
  size : (span_of e).len ≡ length (written (nth row n))
  within : Noted (inside (nth row n)) (out-Entry e).within.items (at + before row n + inner_start (nth row n))

abbrev EntryOf : (row : Row) (at n : ℕ) → Option Entry → Type 0
EntryOf row at n (Some e) = IsEntry row at n e
EntryOf row at n None = nth row n ≡ empty

-- the same behind a first element that takes some bytes
behind_first : (row r : Row) (at n size : ℕ) → nth row (suc n) ≡ nth r n → before row (suc n) ≡ size + before r n → (o : Option Entry) → EntryOf r (at + size) n o → EntryOf row at (suc n) o
behind_first row r at n size same far (Some e) h = record {
  some = λ f. h.some (sym same ∙ f);
  there = omega (arith, h.there, far);
  size = h.size ∙ ap (λ x. length (written x)) (sym same);
  within =
      let there : at + size + before r n + inner_start (nth r n) ≡ at + before row (suc n) + inner_start (nth r n) = omega (arith, far) in
      subst (λ x. Noted (inside x) (out-Entry e).within.items (at + before row (suc n) + inner_start x)) (sym same) (subst (Noted (inside (nth r n)) (out-Entry e).within.items) there h.within);
}
behind_first row r at n size same far None h = same ∙ h

noted_nth : (row : Row) (es : List Entry) (at n : ℕ) → Noted row es at → EntryOf row at n (slice_get es n)
unfolding Noted nth before inside inner_start written
noted_nth empty [] at n h = refl
noted_nth empty (e ∷ es) at n h = absurd h
noted_nth (primitive t c r) [] at n h = absurd h
noted_nth (primitive t c r) (e ∷ es) at zero h = record {
  some = λ f. let z : ◌≡◌ {A = ℕ} 0 1 = cc in omega arith;
  there = omega (arith, h.0);
  size = h.1 ∙ ap length (sym (append-nil (framed t c)));
  within = subst (λ l. Noted empty l (at + 0 + 0)) (sym h.2) tt;
}
noted_nth (primitive t c r) (e ∷ es) at (suc n) h = behind_first (primitive t c r) r at n (length (framed t c)) refl refl (slice_get es n) (noted_nth r es (at + length (framed t c)) n h.3)
noted_nth (constructed t q r) [] at n h = absurd h
noted_nth (constructed t q r) (e ∷ es) at zero h = record {
  some = λ f. let z : ◌≡◌ {A = ℕ} 0 1 = cc in omega arith;
  there = omega (arith, h.0);
  size = h.1 ∙ ap length (sym (append-nil (framed t (written q))));
  within = let there : at + inner_start (constructed t q r) ≡ at + 0 + inner_start (constructed t q empty) = omega arith in subst (Noted q (out-Entry e).within.items) there h.2;
}
noted_nth (constructed t q r) (e ∷ es) at (suc n) h = behind_first (constructed t q r) r at n (length (framed t (written q))) refl refl (slice_get es n) (noted_nth r es (at + length (framed t (written q))) n h.3)

no_elements : (at : ℕ) → Noted empty [] at
unfolding Noted
no_elements at = tt

-- the entries within are those of the row within
noted_within : (row : Row) (at n : ℕ) (o : Option Entry) → EntryOf row at n o → Noted (inside (nth row n)) (entries_within o) (at + before row n + inner_start (nth row n))
noted_within row at n (Some e) h = h.within
noted_within row at n None h = let from = at + before row n + inner_start (nth row n) in subst (λ r. Noted r [] from) (sym (inside_none h)) (no_elements from)

-- the entry of the element that a path leads to in a row that begins at a place
record IsFound (row : Row) (at : ℕ) (path : List ℕ) (e : Entry) : Type 0 where
  some : at_path row path ≡ empty → ⊥
  there : (span_of e).at ≡ at + place row path
  size : (span_of e).len ≡ length (written (at_path row path))

abbrev FoundEntry : (row : Row) (at : ℕ) (path : List ℕ) → Option Entry → Type 0
FoundEntry row at path (Some e) = IsFound row at path e
FoundEntry row at path None = at_path row path ≡ empty

found_one : (row : Row) (at n : ℕ) (o : Option Entry) → EntryOf row at n o → FoundEntry row at (n ∷ []) o
unfolding at_path place
found_one row at n (Some e) h = record { some = h.some; there = h.there; size = h.size }
found_one row at n None h = h

found_deeper : (row : Row) (at n k : ℕ) (path : List ℕ) (o : Option Entry) → FoundEntry (inside (nth row n)) (at + before row n + inner_start (nth row n)) (k ∷ path) o → FoundEntry row at (n ∷ (k ∷ path)) o
unfolding at_path place
found_deeper row at n k path (Some e) h = record { some = h.some; there = omega (arith, h.there); size = h.size }
found_deeper row at n k path None h = h

noted_path : (path : List ℕ) (row : Row) (es : List Entry) (at : ℕ) → Noted row es at → FoundEntry row at path (entry_at es path)
unfolding at_path entry_at
noted_path [] row es at h = refl
noted_path (n ∷ []) row es at h = found_one row at n (slice_get es n) (noted_nth row es at n h)
noted_path (n ∷ (k ∷ path)) row es at h =
    let inner = noted_within row at n (slice_get es n) (noted_nth row es at n h) in
    found_deeper row at n k path (entry_at (entries_within (slice_get es n)) (k ∷ path)) (noted_path (k ∷ path) (inside (nth row n)) (entries_within (slice_get es n)) (at + before row n + inner_start (nth row n)) inner)

-- an entry that is found says where the element stands
located_entry : (bytes path : List ℕ) (row : Row) → Reads deepest longest bytes row → (o : Option Entry) → ((other : Row) → Reads deepest longest bytes other → FoundEntry other 0 path o) → Located bytes path (option_map span_of o)
located_entry bytes path row reads (Some e) f =
    let found = f row reads in
    let whole = written (at_path row path) in
    let there : (span_of e).at ≡ place row path = omega (arith, found.there) in (
      whole,
      record {
        row = row;
        reads = reads;
        some = found.some;
        there = there;
        is = refl;
        part = sym (part_of_bytes deepest longest bytes row path reads) ∙ ap (λ at. take (length whole) (drop at bytes)) (sym there);
      },
      found.size,
    )
located_entry bytes path row reads None f = f

-- no entries: no path leads to one
pub no_entries : (path : List ℕ) → entry_at [] path ≡ None
unfolding entry_at
no_entries [] = refl
no_entries (n ∷ []) = refl
no_entries (n ∷ (k ∷ path)) = no_entries (k ∷ path)

pub located_well : (bytes : List ℕ) (es : List Entry) → ((row : Row) × Reads deepest longest bytes row) → ((depth : ℕ) (row : Row) → Reads depth longest bytes row → Noted row es 0) → (path : List ℕ) → Located bytes path (option_map span_of (entry_at es path))
located_well bytes es (row, reads) f path = located_entry bytes path row reads (entry_at es path) (λ other h. noted_path path other es 0 (f deepest other h))

pub located_ill : (bytes : List ℕ) → ((row : Row) → Reads deepest longest bytes row → ⊥) → (path : List ℕ) → Located bytes path (option_map span_of (entry_at [] path))
located_ill bytes none path = subst (λ o. Located bytes path (option_map span_of o)) (sym (no_entries path)) (λ row h. absurd (none row h))

-- entries of the first elements of a row, up to where a cursor stands: those of the elements ahead complete them
pub record Noting (start : Cursor) (es : List Entry) (c : Cursor) : Type 0 where
  pub less : length (ahead c) ≤ length (ahead start)
  pub on : (depth : ℕ) (row : Row) → Reads depth longest (ahead start) row → (left : Row) × Reads depth longest (ahead c) left × ((more : List Entry) → Noted left more (offset c) → Noted row (es ++ more) (offset start))

pub noting_all : (start : Cursor) (es : List Entry) (c u : Cursor) → Noting start es c → NextElement c None u → (depth : ℕ) (row : Row) → Reads depth longest (ahead start) row → Noted row es (offset start)
noting_all start es c u p e d row h =
    let (left, reads, rest) = p.on d row h in
    let none : left ≡ empty = stop d longest (ahead c) left reads (front_of (ahead c) e.1) in
    subst (λ l. Noted row l (offset start)) (append-nil es) (rest [] (subst (λ r. Noted r [] (offset c)) (sym none) (no_elements (offset c))))

-- an entry of an element
pub record Enters (x : Element) (r : Entry-F Entry) : Type 0 where
  pub there : r.span.at ≡ x.at
  pub size : r.span.len ≡ length x.whole.now
  pub plain : x.tag < first_constructed → r.within.items ≡ []
  pub nested : first_constructed ≤ x.tag → (depth : ℕ) (row : Row) → Reads depth longest x.contents.now row → Noted row r.within.items x.contents_at

-- the entries within an element are those of the row that its cursor has ahead
pub noted_inside : (x : Element) (inner : Cursor) (es : List Entry) → RowOf x (Some inner) → ((depth : ℕ) (row : Row) → Reads depth longest (ahead inner) row → Noted row es (offset inner)) → (depth : ℕ) (row : Row) → Reads depth longest x.contents.now row → Noted row es x.contents_at
noted_inside x inner es (high, rest, at) noted d row h = subst (Noted row es) at (noted d row (subst (λ b. Reads d longest b row) (sym rest) h))

-- the row that is left behind an element, whose entries complete those of the row
noted_first : (d : ℕ) (row : Row) (c : Cursor) (x : Element) (u : Cursor) (e : Entry) → Reads d longest (ahead c) row → Passes c x u → Enters x (out-Entry e) → (left : Row) × Reads d longest (ahead u) left × ((more : List Entry) → Noted left more (offset u) → Noted row (e ∷ more) (offset c))
unfolding written Noted inner_start
noted_first d empty c x u e h p k = absurd (omega (arith, framed_size x.tag x.contents.now (ahead u), ap length (h.writing ∙ split p)))
noted_first d (primitive t b rest) c x u e h p k =
    let s = same_front t x.tag b x.contents.now (written rest) (ahead u) (h.writing ∙ split p) in
    let w = primitive_parts d longest t b rest h.well in
    let size : length x.whole.now ≡ length (framed t b) = ap length x.is ∙ sym (λ i. length (framed (s.0 i) (s.1 i))) in
    let far : offset u ≡ offset c + length (framed t b) = omega (arith, p.on, size) in (
      rest,
      record { well = w.rest; writing = s.2 },
      λ more m. (k.there ∙ p.place, k.size ∙ size, k.plain (omega (arith, s.0, w.low)), subst (Noted rest more) far m),
    )
noted_first d (constructed t q rest) c x u e h p k =
    let s = same_front t x.tag (written q) x.contents.now (written rest) (ahead u) (h.writing ∙ split p) in
    let w = constructed_parts d longest t q rest h.well in
    let size : length x.whole.now ≡ length (framed t (written q)) = ap length x.is ∙ sym (λ i. length (framed (s.0 i) (s.1 i))) in
    let far : offset u ≡ offset c + length (framed t (written q)) = omega (arith, p.on, size) in
    let within : x.contents_at ≡ offset c + inner_start (constructed t q rest) = omega (arith, x.within, p.place, size, ap length s.1, framed_length t (written q)) in (
      rest,
      record { well = w.rest; writing = s.2 },
      λ more m. (k.there ∙ p.place, k.size ∙ size, subst (Noted q (out-Entry e).within.items) within (k.nested (omega (arith, s.0, w.high)) w.less q (record { well = w.within; writing = s.1 })), subst (Noted rest more) far m),
    )

-- the contents and what is left are shorter
pub shorter : {c : Cursor} {x : Element} {u : Cursor} → Passes c x u → 2 + length x.contents.now + length (ahead u) ≤ length (ahead c)
shorter {c} {x} {u} s = omega (arith, framed_size x.tag x.contents.now (ahead u), ap length (split s))

-- one entry more
pub noting_more : (start : Cursor) (es new : List Entry) (c : Cursor) (x : Element) (u : Cursor) (r : Entry-F Entry) → Noting start es c → Passes c x u → new ≡ es ++ (roll-Entry r ∷ []) → Enters x r → Noting start new u
noting_more start es new c x u r p s is k = record {
  less = omega (arith, p.less, ap length (split s), framed_size x.tag x.contents.now (ahead u));
  on = λ d row h.
      let (left, reads, rest) = p.on d row h in
      let (behind, reads', first) = noted_first d left c x u (roll-Entry r) reads s (subst (Enters x) (sym (out-roll-Entry r)) k) in
      (behind, reads', λ more m. subst (λ l. Noted row l (offset start)) (sym (ap (λ l. l ++ more) is ∙ append_assoc es (roll-Entry r ∷ []) more)) (rest (roll-Entry r ∷ more) (first more m)));
}

-- a path of several numbers goes on within the entry that the first one leads to
pub entry_in : (es : List Entry) (n : ℕ) (rest : List ℕ) → 0 < length rest → entry_at es (n ∷ rest) ≡ entry_at (entries_within (slice_get es n)) rest
unfolding entry_at
entry_in es n [] h = absurd (omega arith)
entry_in es n (k ∷ rest) h = refl

module _ (all row : List Entry) (path : List ℕ) (i n : ℕ) (h : entry_at all path ≡ entry_at row (drop i path)) (e : drop i path ≡ n ∷ drop (i + 1) path) where
  -- the path goes on within the entry with the number
  pub goes_in : 0 < length (drop (i + 1) path) → (o : Option Entry) → slice_get row n ≡ o → entry_at all path ≡ entry_at (entries_within o) (drop (i + 1) path)
  goes_in more o is = h ∙ ap (entry_at row) e ∙ entry_in row n (drop (i + 1) path) more ∙ ap (λ o. entry_at (entries_within o) (drop (i + 1) path)) is

  pub goes_nowhere : 0 < length (drop (i + 1) path) → length row ≤ n → entry_at all path ≡ None
  goes_nowhere more past = goes_in more None (slice_get_past row n past) ∙ no_entries (drop (i + 1) path)

  -- the last number leads to the entry
  pub goes_to : length (drop (i + 1) path) ≡ 0 → entry_at all path ≡ slice_get row n
  unfolding entry_at
  goes_to last = h ∙ ap (entry_at row) (e ∙ ap (λ l. n ∷ l) (nil_from_length (drop (i + 1) path) last))

-- where the path's entry is known, so is what the path leads to
pub located_by : (x : Index) (path : List ℕ) (o : Option Entry) → entry_at x.row.items path ≡ o → (bytes : List ℕ) → IndexOf bytes x → Located bytes path (option_map span_of o)
located_by x path o e bytes h = subst (λ o. Located bytes path (option_map span_of o)) e (h.located path)

-- bytes that read as no elements are none
pub no_bytes : {bytes : List ℕ} → ((row : Row) → Reads deepest longest bytes row → row ≡ empty) → ((row : Row) × Reads deepest longest bytes row) → bytes ≡ []
unfolding written
no_bytes none (row, reads) = sym reads.writing ∙ ap written (none row reads)

-- an index of well-formed bytes, and of malformed ones
pub index_well : (bytes : List ℕ) (x : Index) (start : Cursor) → Judged bytes x.verdict → ((row : Row) × Reads deepest longest bytes row) → ahead start ≡ bytes → offset start ≡ 0 → ((depth : ℕ) (row : Row) → Reads depth longest (ahead start) row → Noted row x.row.items (offset start)) → IndexOf bytes x
index_well bytes x start judged whole rest at noted = record {
  judged = judged;
  located = located_well bytes x.row.items whole (λ d row h. subst (Noted row x.row.items) at (noted d row (subst (λ b. Reads d longest b row) (sym rest) h)));
}

pub index_ill : (bytes : List ℕ) (x : Index) → Judged bytes x.verdict → ((row : Row) → Reads deepest longest bytes row → ⊥) → x.row.items ≡ [] → IndexOf bytes x
index_ill bytes x judged none is = record { judged = judged; located = λ path. subst (λ es. Located bytes path (option_map span_of (entry_at es path))) (sym is) (located_ill bytes none path) }

-- an element stands within the bytes
pub span_within : (bytes path : List ℕ) (s : Span) → Located bytes path (Some s) → s.at + s.len ≤ length bytes
span_within bytes path s (whole, leads, size) =
    omega (arith, size, some_bytes (at_path leads.row path) leads.some, ap length leads.is, ap length leads.part, length-take (length whole) (drop s.at bytes), length-drop s.at bytes)

-- as many bytes as it takes, from its place on, are the element
pub piece_from : (bytes path : List ℕ) (s : Span) → Located bytes path (Some s) → (rest : List ℕ) → rest ≡ slice_range bytes s.at (length bytes) → (o : Option (Bor (List ℕ))) → MatchOption o ((s.len < 0) ⊎ (length rest < s.len)) (λ x. (0 ≤ s.len) × (s.len ≤ length rest) × (x.now ≡ slice_range rest 0 s.len) × (length x.now + 0 ≡ s.len)) → Piece bytes path (option_map (λ part. part.now) o)
piece_from bytes path s (whole, leads, size) rest is (Some x) h =
    let behind : rest ≡ drop s.at bytes = is ∙ take_rest bytes s.at in
    let none : s.len ≡ s.len - 0 = omega arith in
    let same : whole ≡ x.now = leads.part ∙ ap (λ n. take n (drop s.at bytes)) (sym size ∙ none) ∙ ap (take (s.len - 0)) (sym behind) ∙ sym h.2 in
    (s.at, subst (Leads bytes path s.at) same leads)
piece_from bytes path s located rest is None h = absurd (omega (arith, span_within bytes path s located, ap length (is ∙ take_rest bytes s.at), length-drop s.at bytes))
