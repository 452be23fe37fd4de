use Rattle.std.proofs.Common.{◌∙◌, ap, leb}
use Rattle.chain.proofs.Tests.{largest_decides}
use Rattle.chain.proofs.checks.all_marks.Goals as goal

pub returns : goal.returns
returns c = ap (λ n. leb n 1) c.largest.ensures ∙ largest_decides 0 c.args.marks.now
