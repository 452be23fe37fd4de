use Rattle.std.proofs.Common.{map, vec_items}
use Rattle.session.proofs.Sixes.{Counted}
use Rattle.session.proofs.numbering.numbers_of.Given as goal

abbrev pub invariant-loop-paper : goal.invariant-loop-paper
invariant-loop-paper l = Counted (map vec_items l.papers) (vec_items l.numbers) l.paper-index
