-- How a reader goes from element to element: what is behind the first one, or within it, decides.
use Rattle.std.proofs.Common.{◌≡◌, ℕ, suc, ◌+◌, ◌<◌, ◌≤◌, Bool, true, false, Some, None, List, [], ◌∷◌, ◌++◌, length, get_or, take, drop, refl, sym, ap, ◌∙◌, subst, arith, length-take-le, take_at}
use Rattle.std.proofs.lemmas.List.{nil_from_length, drop_at}
use Rattle.format.specs.Elements.{first_constructed, framed, written_length, all_bytes, Readable}
use Rattle.format.proofs.Bytes.{all_bytes_take, all_bytes_drop, all_bytes_parts}
use Rattle.format.proofs.Fronts.{frame}
use Rattle.format.proofs.Lengths.{starts_short}
use Rattle.format.proofs.Places.{behind_header}
use Rattle.format.proofs.Readings.{readable_none, after_primitive, after_constructed, contents_malformed, too_deep, no_front}
use Rattle.format.proofs.Rows.{framed_size}
use Rattle.element.specs.declared.judging.Opening.{Opening}
use Rattle.element.specs.declared.judging.Rest.{Rest}
use Rattle.element.specs.Limits.{longest}
use Rattle.element.specs.Openings.{Opens}
use Rattle.element.specs.inner.Rests.{Decides, Leaves}
use Rattle.element.proofs.Openings.{Shut, front_of, shut_few}

-- both parts of bytes are bytes
all_bytes_both : (a b : List ℕ) → all_bytes (a ++ b) ≡ true → (all_bytes a ≡ true) × (all_bytes b ≡ true)
all_bytes_both a b h = (
  subst (λ l. all_bytes l ≡ true) (take_at a b (length a) refl) (all_bytes_take (length a) (a ++ b) h),
  subst (λ l. all_bytes l ≡ true) (drop_at a b (length a) refl) (all_bytes_drop (length a) (a ++ b) h),
)

-- no bytes
pub readable_end : (d : ℕ) (b : List ℕ) → length b ≡ 0 → Readable d longest b true
readable_end d b none = subst (λ l. Readable d longest l true) (sym (nil_from_length b none)) (readable_none d longest)

-- bytes with no element at the front
readable_shut : (d : ℕ) (b : List ℕ) → 0 < length b → Shut b → Readable d longest b false
readable_shut d b some f = no_front d longest b some (front_of b f)

-- bytes of which the first element is opened
module _ (b : List ℕ) (o : Opening) (h : Opens b o) where
  pub parts_size : 2 + length o.contents.now + length o.behind.now ≤ length b
  parts_size = omega (arith, ap length h.is, framed_size o.tag o.contents.now o.behind.now)

  -- the contents and what is behind them are bytes
  parts_bytes : all_bytes b ≡ true → (all_bytes o.contents.now ≡ true) × (all_bytes o.behind.now ≡ true)
  parts_bytes bytes =
      let header = 1 + length (written_length (length o.contents.now)) in
      all_bytes_both o.contents.now o.behind.now
      (subst (λ l. all_bytes l ≡ true) (ap (drop header) h.is ∙ behind_header o.tag o.contents.now o.behind.now) (all_bytes_drop header b bytes))

  -- constructed, with one level fewer within
  module _ (d inner : ℕ) (level : d ≡ suc inner) (high : first_constructed ≤ o.tag) where
    step_constructed : Readable inner longest o.contents.now true → (v : Bool) → Readable d longest o.behind.now v → Readable d longest b v
    step_constructed k v m =
        subst (λ n. Readable n longest b v) (sym level)
        (after_constructed inner longest o.tag o.contents.now o.behind.now b high h.byte h.fits h.is k v (subst (λ n. Readable n longest o.behind.now v) level m))

    step_malformed : Readable inner longest o.contents.now false → Readable d longest b false
    step_malformed k = subst (λ n. Readable n longest b false) (sym level) (contents_malformed inner longest o.tag o.contents.now o.behind.now b high h.is k)

    step_last : length o.behind.now ≡ 0 → (v : Bool) → Readable inner longest o.contents.now v → Readable d longest b v
    step_last last true k = step_constructed k true (readable_end d o.behind.now last)
    step_last last false k = step_malformed k

    -- what is behind it, if its contents are a row
    pub leaves_constructed : all_bytes b ≡ true → Readable inner longest o.contents.now true → Leaves d b (Some (record { bytes = o.behind; depth = d }))
    leaves_constructed bytes k = (omega (arith, parts_size), record { within = omega (arith, parts_size); bytes = (parts_bytes bytes).1; same = step_constructed k })

    -- what is within it, if it is the last
    pub leaves_last : all_bytes b ≡ true → length o.behind.now ≡ 0 → Leaves d b (Some (record { bytes = o.contents; depth = inner }))
    leaves_last bytes last = (omega (arith, parts_size), record { within = omega (arith, parts_size); bytes = (parts_bytes bytes).0; same = step_last last })

    pub leaves_malformed : Readable inner longest o.contents.now false → Leaves d b None
    leaves_malformed k = λ _. step_malformed k

  -- what is behind a primitive element
  pub leaves_primitive : (d : ℕ) → all_bytes b ≡ true → o.tag < first_constructed → Leaves d b (Some (record { bytes = o.behind; depth = d }))
  leaves_primitive d bytes low = (omega (arith, parts_size), record { within = omega (arith, parts_size); bytes = (parts_bytes bytes).1; same = after_primitive d longest o.tag o.contents.now o.behind.now b low (parts_bytes bytes).0 h.fits h.is })

  pub leaves_too_deep : (d : ℕ) → d ≡ 0 → first_constructed ≤ o.tag → Leaves d b None
  leaves_too_deep d none high = λ _. subst (λ n. Readable n longest b false) (sym none) (too_deep longest o.tag o.contents.now o.behind.now b high h.is)

pub leaves_shut : (d : ℕ) (b : List ℕ) → Shut b → Leaves d b None
leaves_shut d b f = λ some. readable_shut d b some f

pub decides_start : (d : ℕ) (b : List ℕ) (r : Rest) → r.bytes.now ≡ b → r.depth ≡ d → all_bytes b ≡ true → Decides d b r
decides_start d b r e depth bytes = record { within = omega (arith, ap length e); bytes = ap all_bytes e ∙ bytes; same = λ v k. subst (λ n. Readable n longest b v) depth (subst (λ l. Readable r.depth longest l v) e k) }

module _ (d : ℕ) (b : List ℕ) (r : Rest) (h : Decides d b r) where
  -- what decides of a part that decides
  pub decides_on : (next : Rest) → Leaves r.depth r.bytes.now (Some next) → Decides d b next
  decides_on next k = record { within = omega (arith, h.within, k.0); bytes = k.1.bytes; same = λ v m. h.same v (k.1.same v m) }

  pub decides_end : length r.bytes.now ≡ 0 → Readable d longest b true
  decides_end none = h.same true (readable_end r.depth r.bytes.now none)

  -- too few bytes for an element
  pub decides_few : 0 < length r.bytes.now → length r.bytes.now < 2 → Readable d longest b false
  decides_few some few = h.same false (readable_shut r.depth r.bytes.now some (shut_few r.bytes.now few))

  -- fewer bytes than an element takes
  pub decides_rest : length r.bytes.now < 2 → (v : Bool) → (v ≡ true → length r.bytes.now ≡ 0) → (v ≡ false → 0 < length r.bytes.now) → Readable d longest b v
  decides_rest few true none some = decides_end (none refl)
  decides_rest few false none some = decides_few (some refl) few

  -- where nothing is left of a first element
  pub decides_none : Leaves r.depth r.bytes.now None → 0 < length r.bytes.now → Readable d longest b false
  decides_none k some = h.same false (k some)

-- an element with a short length at the front
opens_short : (b : List ℕ) (o : Opening) → all_bytes b ≡ true → 2 ≤ length b → get_or b 1 0 < 128 → get_or b 1 0 ≤ length (drop 2 b) → o.tag ≡ get_or b 0 0 → o.contents.now ≡ take (get_or b 1 0) (drop 2 b) → o.behind.now ≡ drop (get_or b 1 0) (drop 2 b) → Opens b o
opens_short [] o bytes two short fits tag contents behind = absurd (omega arith)
opens_short (t ∷ x) o bytes two short fits tag contents behind =
    let n = get_or x 0 0 in
    let l = length-take-le n (drop 1 x) fits in
    record {
      byte = omega (arith, tag, (all_bytes_parts t x bytes).0);
      fits = omega (arith, ap length contents, l);
      is = frame t n (drop 1 x) (t ∷ x) fits (ap (λ y. t ∷ y) (starts_short x (omega arith) short)) ∙ (λ i. framed (sym tag i) (sym contents i) ++ sym behind i);
    }

-- what is behind an element with a short length decides where it is primitive, and what is within it where it is constructed and the last
module _ (d : ℕ) (b : List ℕ) (r : Rest) (h : Decides d b r) (o : Opening) (two : 2 ≤ length r.bytes.now) (short : get_or r.bytes.now 1 0 < 128) (fits : get_or r.bytes.now 1 0 ≤ length (drop 2 r.bytes.now)) (tag : o.tag ≡ get_or r.bytes.now 0 0) (contents : o.contents.now ≡ take (get_or r.bytes.now 1 0) (drop 2 r.bytes.now)) (behind : o.behind.now ≡ drop (get_or r.bytes.now 1 0) (drop 2 r.bytes.now)) where
  opens : Opens r.bytes.now o
  opens = opens_short r.bytes.now o h.bytes two short fits tag contents behind

  pub short_primitive : o.tag < first_constructed → Decides d b (record { bytes = o.behind; depth = r.depth })
  short_primitive low = decides_on d b r h _ (leaves_primitive r.bytes.now o opens r.depth h.bytes low)

  pub short_last : (inner : ℕ) → r.depth ≡ suc inner → first_constructed ≤ o.tag → length o.behind.now ≡ 0 → Decides d b (record { bytes = o.contents; depth = inner })
  short_last inner level high last = decides_on d b r h _ (leaves_last r.bytes.now o opens r.depth inner level high h.bytes last)
