use Rattle.std.proofs.Common.{◌≡◌, ◌≤◌, length}
use Rattle.text.specs.Tokens.{words}
use Rattle.text.proofs.tokens.WordsIterator.next.Given as goal

abbrev pub invariant-loop-word : goal.invariant-loop-word
invariant-loop-word l = (words l.initial.self.rest.now ≡ words l.self.rest.now) × (length l.self.rest.now ≤ length l.initial.self.rest.now)

abbrev pub decreases-loop-word : goal.decreases-loop-word
decreases-loop-word l = length l.self.rest.now
