-- Viable bytes: fewer of them are viable too, and malformed bytes have one place, which is found if viability is decided.
use Rattle.std.proofs.Common.{◌≡◌, ℕ, zero, suc, ◌+◌, ◌≤◌, true, ◌⊎◌, List, [], ◌++◌, length, take, drop, sym, ap, ◌∙◌, subst, ⊎_elim, append_assoc, arith, take-append-drop}
use Rattle.std.proofs.lemmas.List.{take-take}
use Rattle.std.proofs.lemmas.Bool.{cases_order}
use Rattle.format.specs.Elements.{Row, empty, all_bytes, Reads}
use Rattle.format.specs.Viable.{Viable, IllAt, OnePlace}
use Rattle.format.proofs.Bytes.{all_bytes_take}
use Rattle.format.proofs.Readings.{reads_none}

pub viable_before : (d m : ℕ) (b c : List ℕ) → Viable d m (b ++ c) → Viable d m b
viable_before d m b c v = (c ++ v.0, v.1, subst (λ l. Reads d m l v.1) (append_assoc b c v.0) v.2)

pub viable_take : (d m p q : ℕ) (b : List ℕ) → p ≤ q → Viable d m (take q b) → Viable d m (take p b)
viable_take d m p q b h v =
    let e : take p b ++ drop p (take q b) ≡ take q b = ap (λ l. l ++ drop p (take q b)) (sym (take-take p q b h)) ∙ take-append-drop p (take q b) in
    viable_before d m (take p b) (drop p (take q b)) (subst (Viable d m) (sym e) v)

pub viable_none : (d m : ℕ) → Viable d m []
viable_none d m = ([], empty, reads_none d m)

-- two places of the same bytes are the same
pub same_place : (d m : ℕ) (b : List ℕ) (p q : ℕ) → IllAt d m b p → IllAt d m b q → p ≡ q
same_place d m b p q f g =
    ⊎_elim (λ e. e)
    (⊎_elim (λ l. absurd (f.here (omega (arith, g.within)) (viable_take d m (p + 1) q b (omega arith) g.before))) (λ l. absurd (g.here (omega (arith, f.within)) (viable_take d m (q + 1) p b (omega arith) f.before))))
    (cases_order p q)

-- the place is looked for from where the bytes are viable
find_place : (d m : ℕ) (b : List ℕ) → ((k : ℕ) → Viable d m (take k b) ⊎ (Viable d m (take k b) → ⊥)) → ((row : Row) → Reads d m b row → ⊥) → (fuel k : ℕ) → k + fuel ≡ length b → Viable d m (take k b) → (at : ℕ) × IllAt d m b at
find_place d m b decided none zero k h v = (k, record { within = omega arith; before = v; here = λ l. absurd (omega arith); end = λ e. none })
find_place d m b decided none (suc fuel) k h v = ⊎_elim (λ y. find_place d m b decided none fuel (k + 1) (omega arith) y) (λ n. (k, record { within = omega arith; before = v; here = λ l. n; end = λ e. none })) (decided (k + 1))

-- where viability is decided, malformed bytes have exactly one place
pub one_place : (d m : ℕ) → ((b : List ℕ) → all_bytes b ≡ true → Viable d m b ⊎ (Viable d m b → ⊥)) → OnePlace d m
one_place d m decided b bytes none =
    let found = find_place d m b (λ k. decided (take k b) (all_bytes_take k b bytes)) none (length b) 0 (omega arith) (viable_none d m) in
    (found.0, found.1, λ other h. same_place d m b other found.0 h found.1)
