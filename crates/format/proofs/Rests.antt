-- What completes open rows, each of which but the outermost needs a known number of bytes more; the outermost ends with the bytes.
use Rattle.std.proofs.Common.{◌≡◌, ℕ, suc, ◌+◌, ◌-◌, ◌<◌, ◌≤◌, true, List, [], ◌∷◌, ◌++◌, length, sym, refl, ap, ◌∙◌, subst, ⊎_elim, append_assoc, arith, length-append}
use Rattle.std.proofs.lemmas.List.{nil_from_length}
use Rattle.std.proofs.lemmas.Bool.{cases_lt}
use Rattle.format.specs.Elements.{first_constructed, Row, written_length, framed, all_bytes, Reads, Readable}
use Rattle.format.proofs.Fronts.{Front, framed_is}
use Rattle.format.proofs.Lengths.{same_length}
use Rattle.format.proofs.Readings.{after_primitive, after_constructed}
use Rattle.format.proofs.Rows.{Goes_on, as_primitive, as_constructed, goes_on, has_front}

-- how many bytes an element with n bytes of contents takes
abbrev pub taken : ℕ → ℕ
taken n = 1 + length (written_length n) + n

-- bytes cut in two: the first read as a row, and what their number and the others are is asked
pub record Cut (d m : ℕ) (Close : ℕ → List ℕ → Type 0) (c : List ℕ) : Type 0 where
  pub inner : List ℕ
  pub outer : List ℕ
  pub is : c ≡ inner ++ outer
  pub row : Row
  pub reads : Reads d m inner row
  pub closes : Close (length inner) outer

-- the bytes complete open rows, given by what each but the outermost needs, innermost first; d levels may open within the innermost
unfoldable pub Fills : (d m : ℕ) → (rows : List ℕ) → List ℕ → Type 0
Fills d m [] c = ⊥
Fills d m (r ∷ []) c = Cut d m (λ n y. y ≡ []) c
Fills d m (r ∷ (s ∷ rs)) c = Cut d m (λ n y. (n ≡ r) × Fills (suc d) m (s ∷ rs) y) c

abbrev pub Closes : (d m : ℕ) → List ℕ → ℕ → List ℕ → Type 0
Closes d m [] n y = ⊥
Closes d m (r ∷ []) n y = y ≡ []
Closes d m (r ∷ (s ∷ rs)) n y = (n ≡ r) × Fills (suc d) m (s ∷ rs) y

cut_of : (d m : ℕ) (rows c : List ℕ) → Fills d m rows c → Cut d m (Closes d m rows) c
unfolding Fills
cut_of d m [] c f = absurd f
cut_of d m (r ∷ []) c f = f
cut_of d m (r ∷ (s ∷ rs)) c f = f

of_cut : (d m : ℕ) (rows c : List ℕ) → Cut d m (Closes d m rows) c → Fills d m rows c
unfolding Fills
of_cut d m [] c f = f.closes
of_cut d m (r ∷ []) c f = f
of_cut d m (r ∷ (s ∷ rs)) c f = f

-- what the innermost row still needs
abbrev pub room : List ℕ → ℕ
room [] = 0
room (r ∷ rs) = r

-- k bytes of the innermost row are given to an element
abbrev pub deduct : ℕ → List ℕ → List ℕ
deduct k [] = []
deduct k (r ∷ []) = r ∷ []
deduct k (r ∷ (s ∷ rs)) = (r - k) ∷ (s ∷ rs)

deducted : (d m k n : ℕ) (rows y : List ℕ) → Closes d m rows (k + n) y → Closes d m (deduct k rows) n y
deducted d m k n [] y h = h
deducted d m k n (r ∷ []) y h = h
deducted d m k n (r ∷ (s ∷ rs)) y h = (omega (arith, h.0), h.1)

restored : (d m k n : ℕ) (rows y : List ℕ) → k ≤ room rows → Closes d m (deduct k rows) n y → Closes d m rows (k + n) y
restored d m k n [] y l h = h
restored d m k n (r ∷ []) y l h = h
restored d m k n (r ∷ (s ∷ rs)) y l h = (omega (arith, h.0), h.1)

-- a row with room is not closed before a byte
not_yet : (d m t : ℕ) (rows b : List ℕ) → 0 < room rows → (y : List ℕ) → Closes d m rows 0 y → y ≡ t ∷ b → ⊥
not_yet d m t [] b some y h e = h
not_yet d m t (r ∷ []) b some y h e = omega (arith, ap length (sym h ∙ e))
not_yet d m t (r ∷ (s ∷ rs)) b some y h e = omega (arith, h.0)

framed_length : (t : ℕ) (c r : List ℕ) → length (framed t c ++ r) ≡ taken (length c) + length r
unfolding framed
framed_length t c r = omega (arith, length-append (written_length (length c) ++ c) r, length-append (written_length (length c)) c)

-- an element at the front of a cut
pub record Headed (d m : ℕ) (Close : ℕ → List ℕ → Type 0) (t : ℕ) (b : List ℕ) : Type 0 where
  pub contents : List ℕ
  pub behind : List ℕ
  pub outer : List ℕ
  pub is : b ≡ written_length (length contents) ++ (contents ++ (behind ++ outer))
  pub goes : Goes_on d m t contents behind
  pub closes : Close (taken (length contents) + length behind) outer

headed_front : (d m : ℕ) (Close : ℕ → List ℕ → Type 0) (t : ℕ) (b : List ℕ) (c : Cut d m Close (t ∷ b)) → Front m c.inner → Headed d m Close t b
headed_front d m Close t b c f =
    let k : t ∷ b ≡ f.tag ∷ (written_length (length f.contents) ++ (f.contents ++ (f.behind ++ c.outer))) =
    c.is ∙ ap (λ l. l ++ c.outer) f.is ∙ append_assoc (framed f.tag f.contents) f.behind c.outer ∙ framed_is f.tag f.contents (f.behind ++ c.outer) in
    let tags : f.tag ≡ t = cc in
    record {
      contents = f.contents;
      behind = f.behind;
      outer = c.outer;
      is = cc;
      goes = subst (λ u. Goes_on d m u f.contents f.behind) tags (goes_on d m c.inner c.row c.reads f.tag f.contents f.behind f.is);
      closes = subst (λ n. Close n c.outer) (ap length f.is ∙ framed_length f.tag f.contents f.behind) c.closes;
    }

pub headed : (d m : ℕ) (rows : List ℕ) (t : ℕ) (b : List ℕ) → 0 < room rows → Fills d m rows (t ∷ b) → Headed d m (Closes d m rows) t b
headed d m rows t b some f =
    let c = cut_of d m rows (t ∷ b) f in
    ⊎_elim (λ l. headed_front d m (Closes d m rows) t b c (has_front d m c.inner c.row c.reads l))
    (λ l. let e : c.inner ≡ [] = nil_from_length c.inner (omega arith) in
    absurd (not_yet d m t rows b some c.outer (subst (λ n. Closes d m rows n c.outer) (ap length e) c.closes) (sym (c.is ∙ ap (λ l. l ++ c.outer) e)))) (cases_lt 0 (length c.inner))

-- an element, and behind it what completes the rows without it
rebuilt : (d m t : ℕ) (rows u x y : List ℕ) → Readable d m (framed t u ++ x) true → taken (length u) ≤ room rows → Closes d m (deduct (taken (length u)) rows) (length x) y → Fills d m rows (t ∷ (written_length (length u) ++ (u ++ (x ++ y))))
rebuilt d m t rows u x y h l k =
    of_cut d m rows (t ∷ (written_length (length u) ++ (u ++ (x ++ y))))
    (record {
      inner = framed t u ++ x;
      outer = y;
      is = sym (append_assoc (framed t u) x y ∙ framed_is t u (x ++ y));
      row = h.0;
      reads = h.1;
      closes = subst (λ n. Closes d m rows n y) (sym (framed_length t u x)) (restored d m (taken (length u)) (length x) rows y l k);
    })

-- n bytes, and behind them what is asked
pub record Inside (n : ℕ) (Behind : List ℕ → Type 0) (c : List ℕ) : Type 0 where
  pub contents : List ℕ
  pub behind : List ℕ
  pub is : c ≡ contents ++ behind
  pub size : length contents ≡ n
  pub bytes : all_bytes contents ≡ true
  pub rest : Behind behind

-- the header of a primitive element: its contents are still to come
pub primitive_comes : (d m t n : ℕ) (rows c : List ℕ) → t < first_constructed → 0 < room rows → Fills d m rows (t ∷ (written_length n ++ c)) → Inside n (Fills d m (deduct (taken n) rows)) c
primitive_comes d m t n rows c low some f =
    let h = headed d m rows t (written_length n ++ c) some f in
    let s = same_length n (length h.contents) c (h.contents ++ (h.behind ++ h.outer)) h.is in
    elim h.goes [
      | as_primitive x y z rest k ↦ record {
        contents = h.contents;
        behind = h.behind ++ h.outer;
        is = s.1;
        size = sym s.0;
        bytes = y;
        rest = of_cut d m (deduct (taken n) rows) (h.behind ++ h.outer) (record {
          inner = h.behind;
          outer = h.outer;
          is = refl;
          row = rest;
          reads = k;
          closes = deducted d m (taken n) (length h.behind) rows h.outer (subst (λ l. Closes d m rows (taken l + length h.behind) h.outer) (sym s.0) h.closes);
        });
      }
      | as_constructed less x y z w q k rest l ↦ absurd (omega arith)
    ]

pub primitive_came : (d m t n : ℕ) (rows c : List ℕ) → t < first_constructed → n ≤ m → taken n ≤ room rows → Inside n (Fills d m (deduct (taken n) rows)) c → Fills d m rows (t ∷ (written_length n ++ c))
primitive_came d m t n rows c low fits roomy f =
    let k = cut_of d m (deduct (taken n) rows) f.behind f.rest in
    let u = f.contents in
    let same : c ≡ u ++ (k.inner ++ k.outer) = f.is ∙ ap (λ l. u ++ l) k.is in
    let whole = after_primitive d m t u k.inner (framed t u ++ k.inner) low f.bytes (omega (arith, f.size)) refl true (k.row, k.reads) in
    let closes = subst (λ l. Closes d m (deduct (taken l) rows) (length k.inner) k.outer) (sym f.size) k.closes in
    let made = rebuilt d m t rows u k.inner k.outer whole (subst (λ l. taken l ≤ room rows) (sym f.size) roomy) closes in
    subst (Fills d m rows) (ap (λ l. t ∷ (written_length l ++ (u ++ (k.inner ++ k.outer)))) f.size ∙ ap (λ l. t ∷ (written_length n ++ l)) (sym same)) made

-- a row opened within the innermost
fills_push : (d m n : ℕ) (rows c : List ℕ) → Cut d m (λ k y. (k ≡ n) × Fills (suc d) m rows y) c → Fills d m (n ∷ rows) c
unfolding Fills
fills_push d m n [] c f = absurd f.closes.1
fills_push d m n (s ∷ rs) c f = f

fills_top : (d m n s : ℕ) (rs c : List ℕ) → Fills d m (n ∷ (s ∷ rs)) c → Cut d m (λ k y. (k ≡ n) × Fills (suc d) m (s ∷ rs) y) c
unfolding Fills
fills_top d m n s rs c f = f

fills_inner : (d m n k : ℕ) (rows c : List ℕ) → 0 < room rows → Fills d m (n ∷ deduct k rows) c → Cut d m (λ l y. (l ≡ n) × Fills (suc d) m (deduct k rows) y) c
fills_inner d m n k [] c some f = absurd (omega arith)
fills_inner d m n k (r ∷ []) c some f = fills_top d m n r [] c f
fills_inner d m n k (r ∷ (s ∷ rs)) c some f = fills_top d m n (r - k) (s ∷ rs) c f

-- the header of a constructed element: its row is open now
pub constructed_comes : (d m t n : ℕ) (rows c : List ℕ) → first_constructed ≤ t → 0 < room rows → Fills (suc d) m rows (t ∷ (written_length n ++ c)) → Fills d m (n ∷ deduct (taken n) rows) c
constructed_comes d m t n rows c high some f =
    let h = headed (suc d) m rows t (written_length n ++ c) some f in
    let s = same_length n (length h.contents) c (h.contents ++ (h.behind ++ h.outer)) h.is in
    elim h.goes [
      | as_primitive x y z rest k ↦ absurd (omega arith)
      | as_constructed less x y z w q k rest l ↦ let deep : less ≡ d = omega arith in
          fills_push d m n (deduct (taken n) rows) c (record {
            inner = h.contents;
            outer = h.behind ++ h.outer;
            is = s.1;
            row = q;
            reads = subst (λ e. Reads e m h.contents q) deep k;
            closes = (
              sym s.0,
              of_cut (suc d) m (deduct (taken n) rows) (h.behind ++ h.outer) (record {
                inner = h.behind;
                outer = h.outer;
                is = refl;
                row = rest;
                reads = l;
                closes = deducted (suc d) m (taken n) (length h.behind) rows h.outer (subst (λ l. Closes (suc d) m rows (taken l + length h.behind) h.outer) (sym s.0) h.closes);
              }),
            );
          })
    ]

pub constructed_came : (d m t n : ℕ) (rows c : List ℕ) → first_constructed ≤ t → t < 256 → n ≤ m → taken n ≤ room rows → Fills d m (n ∷ deduct (taken n) rows) c → Fills (suc d) m rows (t ∷ (written_length n ++ c))
constructed_came d m t n rows c high byte fits roomy f =
    let g = fills_inner d m n (taken n) rows c (omega arith) f in
    let size : length g.inner ≡ n = g.closes.0 in
    let k = cut_of (suc d) m (deduct (taken n) rows) g.outer g.closes.1 in
    let u = g.inner in
    let same : c ≡ u ++ (k.inner ++ k.outer) = g.is ∙ ap (λ l. u ++ l) k.is in
    let whole = after_constructed d m t u k.inner (framed t u ++ k.inner) high byte (omega arith) refl (g.row, g.reads) true (k.row, k.reads) in
    let closes = subst (λ l. Closes (suc d) m (deduct (taken l) rows) (length k.inner) k.outer) (sym size) k.closes in
    let made = rebuilt (suc d) m t rows u k.inner k.outer whole (subst (λ l. taken l ≤ room rows) (sym size) roomy) closes in
    subst (Fills (suc d) m rows) (ap (λ l. t ∷ (written_length l ++ (u ++ (k.inner ++ k.outer)))) size ∙ ap (λ l. t ∷ (written_length n ++ l)) (sym same)) made
