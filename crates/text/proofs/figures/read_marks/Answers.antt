use Rattle.std.proofs.Common.{rules}
use Rattle.text.specs.inner.Figures.{number, numbers}
use Rattle.text.specs.Meaning.{mark_limit}
use Rattle.text.proofs.figures.read_marks.Goals as goal

pub returns : goal.returns
unfolding numbers
returns c = c.read_all.ensures (number mark_limit) (λ w r h. search rules)
