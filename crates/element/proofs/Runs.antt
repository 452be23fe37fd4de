-- A reader that has gone over bytes: what completes its rows is what makes the bytes read as a row.
use Rattle.std.proofs.Common.{◌≡◌, ℕ, ◌+◌, ◌<◌, true, eqb, ◌⊎◌, List, [], ◌∷◌, ◌++◌, get_or, drop, sym, refl, ap, subst, inl, inr, append_assoc, append-nil, arith}
use Rattle.std.proofs.lemmas.Bool.{eqb-true, eqb-false, cond_both}
use Rattle.format.specs.Elements.{all_bytes, Readable}
use Rattle.format.specs.Viable.{Viable, OnePlace}
use Rattle.format.proofs.Bytes.{all_bytes_parts}
use Rattle.format.proofs.Fillings.{outermost, to_outermost, needs_some}
use Rattle.format.proofs.Readings.{readable_none}
use Rattle.format.proofs.Rests.{Fills, room}
use Rattle.format.proofs.Viability.{one_place}
use Rattle.element.specs.Limits.{deepest, longest}
use Rattle.element.specs.Progressed.{StatusSays}
use Rattle.element.specs.Machine.{State, endless, start, at_position, stepped, run, status_at}
use Rattle.element.specs.declared.progress.position.Position.{Position}
use Rattle.element.specs.declared.progress.position.Position.TheVariants.{Tag, Length, OneByte, TwoBytes, LowByte, Header, Contents, Nowhere}
use Rattle.element.specs.declared.progress.Status.{Status}
use Rattle.element.specs.declared.progress.Status.TheVariants.{Ends, Within, Dead}
use Rattle.element.proofs.Standing.{Standing}
use Rattle.element.proofs.Positions.{Ready}
use Rattle.element.proofs.Resting.{Alive, Inner, completable, unfinished}
use Rattle.element.proofs.Rooms.{rows_two, rows_last}
use Rattle.element.proofs.Turns.{rows_of, Complete, Sound, stepping}

-- the bytes that complete the rows are those that make the bytes so far read as a row
pub record After (s : State) (b : List ℕ) : Type 0 where
  pub sound : Sound Ready s
  pub to : (c : List ℕ) → Readable deepest longest (b ++ c) true → Complete s c
  pub from : (c : List ℕ) → Complete s c → Readable deepest longest (b ++ c) true

after_start : After start []
unfolding Standing
after_start = record {
  sound = record { bound = omega arith; size = refl; standing = refl; known = omega arith };
  to = λ c h. to_outermost deepest longest endless c h;
  from = λ c f. outermost deepest longest endless c f;
}

after_step : (s : State) (b : List ℕ) (x : ℕ) → x < 256 → After s b → After (stepped s x) (b ++ (x ∷ []))
after_step s b x byte h =
    let t = stepping s x h.sound byte in
    record {
      sound = t.sound;
      to = λ c r. t.to c (h.to (x ∷ c) (subst (λ l. Readable deepest longest l true) (append_assoc b (x ∷ []) c) r));
      from = λ c f. subst (λ l. Readable deepest longest l true) (sym (append_assoc b (x ∷ []) c)) (h.from (x ∷ c) (t.from c f));
    }

after_run : (b done : List ℕ) (s : State) → all_bytes b ≡ true → After s done → After (run s b) (done ++ b)
unfolding run
after_run [] done s bytes h = subst (After s) (sym (append-nil done)) h
after_run (x ∷ b) done s bytes h =
    let p = all_bytes_parts x b bytes in
    subst (After (run (stepped s x) b)) (append_assoc done (x ∷ []) b) (after_run b (done ++ (x ∷ [])) (stepped s x) p.1 (after_step s done x p.0 h))

-- after any bytes
pub after : (b : List ℕ) → all_bytes b ≡ true → After (run start b) b
after b bytes = after_run b [] start bytes after_start

pub viable_alive : (s : State) (b : List ℕ) → After s b → Alive s.position → Viable deepest longest b
viable_alive s b h a =
    let k = completable s.levels (rows_of s) h.sound.standing s.position h.sound.known a in
    let r = h.from k.0 k.1 in
    (k.0, r.0, r.1)

readable_end : (b : List ℕ) → Readable deepest longest b true → Readable deepest longest (b ++ []) true
readable_end b h = subst (λ l. Readable deepest longest l true) (sym (append-nil b)) h

-- within an element the bytes are viable, and do not read as a row
within_element : (s : State) (b : List ℕ) → After s b → Alive s.position → Inner s.position → StatusSays b Within
within_element s b h a i = (viable_alive s b h a, λ row reads. unfinished s.levels (rows_of s) h.sound.standing s.position h.sound.known i (h.to [] (readable_end b (row, reads))))

-- before a tag the row may end, if it is the outermost
before_tag : (s : State) (b : List ℕ) → After (at_position s Tag) b → StatusSays b (status_at s.levels Tag)
before_tag s b h =
    cond_both (eqb s.levels deepest) Ends Within (StatusSays b)
    (λ e. let rows = rows_last s.rooms s.levels (eqb-true s.levels deepest e) h.sound.size in
    let none : Readable s.levels longest [] true = readable_none s.levels longest in
    subst (λ l. Readable deepest longest l true) (append-nil b) (h.from [] (subst (λ r. Fills s.levels longest r []) (sym rows) (to_outermost s.levels longest (get_or s.rooms s.levels 0) [] none))))
    (λ e. let less : s.levels < deepest = omega (arith, h.sound.bound, eqb-false s.levels deepest e) in
    let rows = rows_two s.rooms s.levels less h.sound.size in
    let some : 0 < get_or s.rooms s.levels 0 = omega (arith, h.sound.known, ap room rows) in (
      viable_alive (at_position s Tag) b h tt,
      λ row reads. needs_some s.levels longest (get_or s.rooms s.levels 0) (get_or s.rooms (s.levels + 1) 0) (drop (s.levels + 1 + 1) s.rooms) some (subst (λ r. Fills s.levels longest r []) rows (h.to [] (readable_end b (row, reads)))),
    ))

status_says : (s : State) (b : List ℕ) (p : Position) → After (at_position s p) b → StatusSays b (status_at s.levels p)
status_says s b Tag h = before_tag s b h
status_says s b (Length t) h = within_element (at_position s (Length t)) b h tt tt
status_says s b (OneByte t) h = within_element (at_position s (OneByte t)) b h tt tt
status_says s b (TwoBytes t) h = within_element (at_position s (TwoBytes t)) b h tt tt
status_says s b (LowByte t k) h = within_element (at_position s (LowByte t k)) b h tt tt
status_says s b (Header t n) h = within_element (at_position s (Header t n)) b h tt tt
status_says s b (Contents n) h = within_element (at_position s (Contents n)) b h tt tt
status_says s b Nowhere h = λ v. h.to v.0 (v.1, v.2)

-- what the position says of any bytes
pub run_says : (b : List ℕ) → all_bytes b ≡ true → StatusSays b (status_at (run start b).levels (run start b).position)
run_says b bytes = status_says (run start b) b (run start b).position (after b bytes)

-- bytes that read as a row are viable
pub viable_end : (b : List ℕ) → Readable deepest longest b true → Viable deepest longest b
viable_end b h = let r = readable_end b h in ([], r.0, r.1)

viable_decided : (b : List ℕ) (st : Status) → StatusSays b st → Viable deepest longest b ⊎ (Viable deepest longest b → ⊥)
viable_decided b Ends h = inl (viable_end b h)
viable_decided b Within h = inl h.0
viable_decided b Dead h = inr h

pub one_place_stands : OnePlace deepest longest
one_place_stands = one_place deepest longest (λ b bytes. viable_decided b (status_at (run start b).levels (run start b).position) (run_says b bytes))
