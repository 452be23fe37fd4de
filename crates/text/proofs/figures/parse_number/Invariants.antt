use Rattle.std.proofs.Common.{◌≡◌, ◌<◌, drop, Some}
use Rattle.text.specs.inner.Figures.{below, decimal_after, number}
use Rattle.text.specs.Meaning.{number_limit}
use Rattle.text.proofs.figures.parse_number.Given as goal

abbrev pub invariant-loop-b : goal.invariant-loop-b
invariant-loop-b l = (number number_limit l.word ≡ below number_limit (decimal_after (Some l.n) (drop l.b-index l.word))) × (l.n < number_limit)
