-- Readers that have gone over bytes, byte by byte or over many at once.
use Rattle.std.proofs.Common.{◌≡◌, ℕ, ◌+◌, ◌-◌, ◌^◌, ◌<◌, ◌≤◌, min, true, eqb, List, [], ◌∷◌, ◌++◌, length, get_or, take, drop, Some, Ok, Err, Result, sym, refl, ap, ◌∙◌, subst, append_assoc, append-nil, arith, length-append, length-take, take_at}
use Rattle.std.specs.Result.{OkIff, result_unwrap_or}
use Rattle.std.proofs.lemmas.List.{nil_from_length, drop_more, take-append-drop}
use Rattle.std.proofs.lemmas.Bool.{cond_both, cond-false, ne_eqb}
use Rattle.format.specs.Elements.{all_bytes}
use Rattle.format.specs.Viable.{Viable}
use Rattle.format.proofs.Bytes.{all_bytes_append, all_bytes_one, all_bytes_take, all_bytes_drop}
use Rattle.format.proofs.Viability.{viable_none}
use Rattle.element.specs.Limits.{deepest, longest}
use Rattle.element.specs.Progressed.{Gone, StatusSays, Skipped, left_at, contents_left}
use Rattle.element.specs.IllPlace.{IllPlace}
use Rattle.element.specs.Machine.{State, start, at_position, unfilled, settled, stepped, run, state, status_at}
use Rattle.element.specs.declared.progress.position.Position.{Position}
use Rattle.element.specs.declared.progress.position.Position.TheVariants.{Tag, Length, OneByte, TwoBytes, LowByte, Header, Contents, Nowhere}
use Rattle.element.specs.declared.progress.Progress.{Progress}
use Rattle.element.specs.declared.progress.Status.{Status}
use Rattle.element.specs.declared.progress.Status.TheVariants.{Ends, Within, Dead}
use Rattle.element.proofs.Resting.{Alive}
use Rattle.element.proofs.Runs.{after, viable_alive, viable_end, run_says}

run_append : (s : State) (a b : List ℕ) → run s (a ++ b) ≡ run (run s a) b
unfolding run
run_append s [] b = refl
run_append s (x ∷ a) b = run_append (stepped s x) a b

pub gone_none : (p : Progress) → state p ≡ start → Gone p []
unfolding run all_bytes
gone_none p e = record { each = refl; is = e }

pub gone_more : (p q : Progress) (b c : List ℕ) → Gone p b → all_bytes c ≡ true → state q ≡ run (state p) c → Gone q (b ++ c)
gone_more p q b c h bytes e = record { each = all_bytes_append b c h.each bytes; is = e ∙ ap (λ s. run s c) h.is ∙ sym (run_append start b c) }

pub gone_step : (p q : Progress) (b : List ℕ) (x : ℕ) → Gone p b → x < 256 → state q ≡ stepped (state p) x → Gone q (b ++ (x ∷ []))
unfolding run
gone_step p q b x h byte e = gone_more p q b (x ∷ []) h (all_bytes_one x byte) e

pub gone_says : (p : Progress) (b : List ℕ) (r : Status) → r ≡ status_at p.levels p.position → Gone p b → StatusSays b r
gone_says p b r e h =
    let told : status_at (run start b).levels (run start b).position ≡ r = ap (λ (s : State). status_at s.levels s.position) (sym h.is) ∙ sym e in
    subst (StatusSays b) told (run_says b h.each)

-- over contents byte by byte
run_contents : (xs : List ℕ) (s : State) (n : ℕ) → 0 < length xs → length xs ≤ n → run (at_position s (Contents n)) xs ≡ settled (at_position s (Contents (n - length xs)))
unfolding run
run_contents [] s n some l = absurd (omega arith)
run_contents (x ∷ []) s n some l = refl
run_contents (x ∷ (y ∷ xs)) s n some l =
    let stays : settled (at_position s (Contents (n - 1))) ≡ at_position s (Contents (n - 1)) = cond-false (eqb (n - 1) 0) (unfilled s) (at_position s (Contents (n - 1))) (ne_eqb (n - 1) 0 (omega arith)) in
    let less : n - 1 - length (y ∷ xs) ≡ n - length (x ∷ (y ∷ xs)) = omega arith in
    ap (λ q. run q (y ∷ xs)) stays ∙ run_contents (y ∷ xs) s (n - 1) (omega arith) (omega arith) ∙ ap (λ k. settled (at_position s (Contents k))) less

alive_settled : (s : State) (n : ℕ) → Alive (settled (at_position s (Contents n))).position
alive_settled s n = cond_both (eqb n 0) (unfilled s) (at_position s (Contents n)) (λ (q : State). Alive q.position) (λ e. tt) (λ e. tt)

pub skipped_none : (p : Progress) (limit : ℕ) → 0 ≡ min limit (contents_left p) → Skipped p limit 0 p
unfolding run
skipped_none p limit e =
    record {
      far = e;
      same = λ xs l. ap (run (state p)) (sym (nil_from_length xs l));
      gone = λ b xs h l bytes. subst (Gone p) (sym (ap (λ c. b ++ c) (nil_from_length xs l) ∙ append-nil b)) h;
      viable = λ b xs h l bytes v. subst (Viable deepest longest) (sym (ap (λ c. b ++ c) (nil_from_length xs l) ∙ append-nil b)) v;
    }

pub no_contents : (p : Position) → ((n : ℕ) → p ≡ Contents n → ⊥) → left_at p ≡ 0
no_contents Tag h = refl
no_contents (Length t) h = refl
no_contents (OneByte t) h = refl
no_contents (TwoBytes t) h = refl
no_contents (LowByte t k) h = refl
no_contents (Header t n) h = refl
no_contents (Contents n) h = absurd (h n refl)
no_contents Nowhere h = refl

-- a number, or the largest of 16 bits if it does not fit
pub clamped : {E : Type 0} (n : ℕ) (r : Result ℕ E) → OkIff r (n < 2 ^ 16) n → result_unwrap_or r (2 ^ 16 - 1) ≡ min n (2 ^ 16 - 1)
clamped n (Ok k) h = omega (arith, h)
clamped n (Err e) h = omega (arith, h)

pub skipped_some : (p q : Progress) (limit n over : ℕ) → p.position ≡ Contents n → 0 < over → over ≡ min limit n → state q ≡ settled (at_position (state p) (Contents (n - over))) → Skipped p limit over q
skipped_some p q limit n over at some e is =
    record {
      far = e ∙ ap (λ k. min limit (left_at k)) (sym at);
      same = same;
      gone = λ b xs h l bytes. gone_more p q b xs h bytes (same xs l);
      viable = λ b xs h l bytes v. let g = gone_more p q b xs h bytes (same xs l) in
          viable_alive (run start (b ++ xs)) (b ++ xs) (after (b ++ xs) g.each) (subst (λ (s : State). Alive s.position) (sym is ∙ g.is) (alive_settled (state p) (n - over)));
    }
  where
    same : (xs : List ℕ) → length xs ≡ over → state q ≡ run (state p) xs
    same xs l =
        is ∙ ap (λ k. settled (at_position (state p) (Contents (n - k)))) (sym l) ∙ sym (run_contents xs (state p) n (omega arith) (omega arith)) ∙ ap (λ k. run (at_position (state p) k) xs) (sym at)

-- a reader in the midst of bytes: those it has gone over are viable, and `rest` is left
pub record Reading (bytes : List ℕ) (p : Progress) (rest : List ℕ) : Type 0 where
  pub before : List ℕ
  pub is : before ++ rest ≡ bytes
  pub gone : Gone p before
  pub viable : Viable deepest longest before
  pub each : all_bytes rest ≡ true

pub reading_start : (b : List ℕ) (p : Progress) → all_bytes b ≡ true → Gone p [] → Reading b p b
reading_start b p each h = record { before = []; is = refl; gone = h; viable = viable_none deepest longest; each = each }

alive_says : (b : List ℕ) (st : Status) → StatusSays b st → (st ≡ Dead → ⊥) → Viable deepest longest b
alive_says b Ends h n = viable_end b h
alive_says b Within h n = h.0
alive_says b Dead h n = absurd (n refl)

module _ (b : List ℕ) (p q : Progress) (rest : List ℕ) (h : Reading b p rest) (some : 0 < length rest) (st : Status)
    (goes : (c : List ℕ) → Gone p c → Gone q (c ++ (get_or rest 0 0 ∷ []))) (says : (c : List ℕ) → Gone p c → StatusSays (c ++ (get_or rest 0 0 ∷ [])) st) where
  abbrev Further : List ℕ
  Further = h.before ++ (get_or rest 0 0 ∷ [])

  further : Further ++ drop 1 rest ≡ b
  further = append_assoc h.before (get_or rest 0 0 ∷ []) (drop 1 rest) ∙ ap (λ l. h.before ++ l) (sym (drop_more rest 0 0 some)) ∙ h.is

  -- the place is where no bytes can help
  pub reading_dead : st ≡ Dead → IllPlace b (Some (length b - length rest))
  reading_dead dead =
      let size : length h.before ≡ length b - length rest = omega (arith, ap length h.is, length-append h.before rest) in
      let before : take (length b - length rest) b ≡ h.before = ap (take (length b - length rest)) (sym h.is) ∙ take_at h.before rest (length b - length rest) size in
      let here : take (length b - length rest + 1) b ≡ Further =
      ap (take (length b - length rest + 1)) (sym further) ∙ take_at Further (drop 1 rest) (length b - length rest + 1) (omega (arith, size, length-append h.before (get_or rest 0 0 ∷ []))) in
      record {
        within = omega arith;
        before = subst (Viable deepest longest) (sym before) h.viable;
        here = λ l v. subst (StatusSays Further) dead (says h.before h.gone) (subst (Viable deepest longest) here v);
        end = λ e. absurd (omega (arith, ap length h.is, length-append h.before rest));
      }

  -- one byte further, and then over contents
  pub reading_on : (st ≡ Dead → ⊥) → (n : Progress) (limit over : ℕ) → limit ≡ length (drop 1 rest) → Skipped q limit over n → (part : List ℕ) → part ≡ drop over (drop 1 rest) → Reading b n part
  reading_on alive n limit over fits s part e =
      let xs = take over (drop 1 rest) in
      let size : length xs ≡ over = omega (arith, length-take over (drop 1 rest), s.far) in
      let behind : all_bytes (drop 1 rest) ≡ true = all_bytes_drop 1 rest h.each in
      let each : all_bytes xs ≡ true = all_bytes_take over (drop 1 rest) behind in
      record {
        before = Further ++ xs;
        is = append_assoc Further xs part ∙ ap (λ l. Further ++ (xs ++ l)) e ∙ ap (λ l. Further ++ l) (take-append-drop over (drop 1 rest)) ∙ further;
        gone = s.gone Further xs (goes h.before h.gone) size each;
        viable = s.viable Further xs (goes h.before h.gone) size each (alive_says Further st (says h.before h.gone) alive);
        each = subst (λ l. all_bytes l ≡ true) (sym e) (all_bytes_drop over (drop 1 rest) behind);
      }
