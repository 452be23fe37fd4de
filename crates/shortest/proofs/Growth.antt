-- The promise, and what more certificates, signatures and anchors do to an answer.
use Rattle.std.proofs.Common.{◌≡◌, ℕ, ◌+◌, ◌*◌, ◌<◌, eqb, ltb, true, List, get_or, take, Some, None, Ok, Err, sym, refl, ◌∙◌, arith}
use Rattle.std.proofs.lemmas.Bool.{and_parts, and_from, lt-ltb, eqb-true, eq-eqb}
use Rattle.format.proofs.Places.{part_of_bytes}
use Rattle.format.proofs.Readings.{one_reading, same_element}
use Rattle.format.proofs.Spellings.{written_once}
use Rattle.element.specs.Limits.{deepest, longest}
use Rattle.trust.specs.Chains.{Extends}
use Rattle.trust.proofs.Means.{more_keeps}
use Rattle.trust.proofs.Shortest.{chain_or_none}
use Rattle.chain.specs.Inputs.{Input, certificate_at, pool}
use Rattle.chain.specs.declared.input.Rejection.{Rejection}
use Rattle.shortest.specs.Laws.{Grows, MoreAnswers}
use Rattle.shortest.specs.Promise.{Promise}

same_certificate : (cs ds : List ℕ) (n a : ℕ) → a < n → ((i : ℕ) → i < 6 * n → get_or ds i 0 ≡ get_or cs i 0) → certificate_at ds a ≡ certificate_at cs a
same_certificate cs ds n a h e =
    let s = e (6 * a) (omega arith) in
    let i = e (6 * a + 1) (omega arith) in
    let b = e (6 * a + 2) (omega arith) in
    let f = e (6 * a + 3) (omega arith) in
    let m = e (6 * a + 4) (omega arith) in
    let l = e (6 * a + 5) (omega arith) in
    λ j. record { subject = s j; issuer = i j; not_before = b j; not_after = f j; may_issue = eqb (m j) 1; path_len = l j }

module _ (i j : Input) (g : Grows i j) where
  signed : (a b : ℕ) → a < i.count → b < i.count → (pool i).signed a b ≡ true → (pool j).signed a b ≡ true
  signed a b la lb e =
      let s = and_parts (ltb b i.count) _ (and_parts (ltb a i.count) _ e).1 in
      and_from _ _ (lt-ltb a j.count (omega (arith, g.counts))) (and_from _ _ (lt-ltb b j.count (omega (arith, g.counts))) (eq-eqb (get_or j.signatures (a * j.count + b) 0) 1 (g.signatures a b la lb (eqb-true (get_or i.signatures (a * i.count + b) 0) 1 s.1))))

  extends : Extends (pool i) (pool j)
  extends = record {
    counts = g.counts;
    same = λ a h. same_certificate i.certificates j.certificates i.count a h g.same;
    signatures = signed;
    anchors = λ a h e. eq-eqb (get_or j.anchors a 0) 1 (g.anchors a h (eqb-true (get_or i.anchors a 0) 1 e));
  }

some_none : {r : Rejection} → Some r ≡ None → ⊥
some_none e = cc

pub more_answers : MoreAnswers
more_answers i j day first old new before after k (Ok (Some m)) g a b e =
    let c = more_keeps (pool i) (pool j) day first (take k new) (extends i j g) a.1.shortest.chain in
    (m, refl, omega (arith, b.1.shortest.least (take k new) c, a.1.count, b.1.count))
more_answers i j day first old new before after k (Ok None) g a b e =
    let c = more_keeps (pool i) (pool j) day first (take k new) (extends i j g) a.1.shortest.chain in
    absurd (b.1.1 (take k new) c)
more_answers i j day first old new before after k (Err r) g a b e = absurd (some_none (sym b.0 ∙ e))

pub promise : Promise
promise = record {
  one_reading = one_reading deepest longest;
  same_front = same_element deepest longest;
  written_once = written_once deepest longest;
  part_of_bytes = part_of_bytes;
  chain_or_none = chain_or_none;
  more_keeps = more_keeps;
  more_answers = more_answers;
}
