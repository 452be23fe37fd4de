use Rattle.std.proofs.Common.{◌≡◌, ◌≤◌, ℕ, length, List, Option, vec_items}
use Rattle.std.specs.Fn.{FnReturnsAt}
use Rattle.text.specs.inner.Figures.{all_of}
use Rattle.text.specs.Tokens.{words}
use Rattle.text.proofs.Values.{onto}
use Rattle.text.proofs.figures.read_all.Given as goal

abbrev pub invariant-loop-word : goal.invariant-loop-word
invariant-loop-word g l =
    record {
      callable : goal.F-IsAlwaysCallable g l.parse;
      read : (p : List ℕ → Option g.row.T.Denot) → ((w : List ℕ) (r : Option g.row.T.Denot) → FnReturnsAt g.F.Fn l.parse w r → r ≡ p w) → all_of p (words l.fn.words.rest.now) ≡ onto (vec_items l.out) (all_of p (words l.word-iterator.rest.now));
      fewer : length (words l.word-iterator.rest.now) ≤ length (words l.fn.words.rest.now);
    }
