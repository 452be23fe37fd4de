use Rattle.std.proofs.Common.{rules}
use Rattle.text.specs.inner.Figures.{number, numbers}
use Rattle.text.specs.Meaning.{number_limit}
use Rattle.text.proofs.figures.read_numbers.Goals as goal

pub returns : goal.returns
unfolding numbers
returns c = c.read_all.ensures (number number_limit) (λ w r h. search rules)
