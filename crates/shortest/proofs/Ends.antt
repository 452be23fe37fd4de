-- How the search starts and what it writes in the end.
use Rattle.std.proofs.Common.{◌≡◌, ℕ, ◌+◌, ◌-◌, ◌<◌, ◌≤◌, true, List, length, get_or, take, set, replicate, sym, ap, ◌∙◌, arith}
use lib.ListN.{length-replicate}
use Rattle.std.proofs.lemmas.List.{get_or-take, length-take-le}
use Rattle.trust.specs.Chains.{Pool, holds}
use Rattle.trust.specs.inner.Layers.{Layers, Top, down}
use Rattle.trust.proofs.Found.{laid_out}
use Rattle.trust.proofs.Layers.{begun, explored_below}
use Rattle.shortest.proofs.Steps.{same_at}
use Rattle.shortest.specs.Answers.{InBuffer}
use Rattle.shortest.specs.inner.LaidOut.{LaidOut}

blank : ℕ → List ℕ
blank n = replicate n 0

blank_long : (n : ℕ) → length (blank n) ≡ n
unfolding blank
blank_long n = length-replicate n 0

blank_zero : (n a : ℕ) → get_or (blank n) a 0 ≡ 0
unfolding blank
blank_zero n a = same_at n a 0

pub started : (p : Pool) (day first n : ℕ) (far from order : List ℕ) (size over : ℕ) → far ≡ set (replicate n 0) first 1 → from ≡ replicate n 0 → order ≡ set (replicate n 0) 0 first → size ≡ 1 → over ≡ 0 → first < p.count → holds (p.certificate first) day ≡ true → p.count ≤ n → Layers p day first far from order size over 0
unfolding blank
started p day first n far from order size over e f o s v known holding few =
    rw (e, f, o, s, v) (begun p day first (blank n) (blank n) (blank n) known (omega (arith, blank_long n)) (omega (arith, blank_long n)) holding (omega (arith, blank_long n)) (blank_zero n) (blank_zero n))

-- a trust anchor that is next in the queue is the top of a shortest chain
pub topped : (p : Pool) (day first : ℕ) (far from order : List ℕ) (size over x : ℕ) → Layers p day first far from order size over 0 → over < size → x ≡ get_or order over 0 → p.anchor x ≡ true → (k : ℕ) × Top p day first far from k x
topped p day first far from order size over x h has e t =
    let layer : get_or far x 0 ≡ get_or far x 0 - 1 + 1 = omega (arith, ap (λ i. get_or far i 0) e, h.queue.reached over has) in (
      get_or far x 0 - 1,
      record {
        tree = h.tree;
        explored = explored_below p day first far from order size over _ x h has (sym e) layer;
        known = omega (arith, e, h.queue.listed over has);
        layer = layer;
        few = omega (arith, ap (λ i. get_or far i 0) e, h.queue.reached over has, h.queue.low over has, h.queue.few);
        anchored = t;
      },
    )

-- a chain that is laid out is an answer
pub written : (p : Pool) (day first : ℕ) (far from : List ℕ) (k a m : ℕ) (old new : List ℕ) → Top p day first far from k a → m ≡ k + 1 → length old ≡ p.count → LaidOut from a m old new → InBuffer p day first m old new
written p day first far from k a m old new t e room l =
    record {
      fits = omega (arith, t.few);
      size = l.size;
      count = long;
      rest = l.rest;
      shortest = laid_out p day first far from k a t (take m new) (long ∙ e) (λ i u. get_or-take m new i 0 (omega arith) ∙ l.each i (omega arith) ∙ ap (down from a) (same i));
    }
  where
    same : (i : ℕ) → m - 1 - i ≡ k - i
    same i = omega arith

    long : length (take m new) ≡ m
    long = length-take-le m new (omega (arith, t.few, l.size))
