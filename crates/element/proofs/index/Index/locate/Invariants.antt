use Rattle.std.proofs.Common.{◌≡◌, drop}
use Rattle.element.specs.Indexed.{entry_at}
use Rattle.element.proofs.index.Index.locate.Given as goal

abbrev pub invariant-loop-number : goal.invariant-loop-number
invariant-loop-number l = entry_at l.self.row.items l.path ≡ entry_at l.row (drop l.number-index l.path)
