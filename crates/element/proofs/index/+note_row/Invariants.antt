use Rattle.std.proofs.Common.{length}
use Rattle.element.specs.Cursors.{ahead}
use Rattle.element.proofs.Entries.{Noting}
use Rattle.element.proofs.index.+note_row.Given as goal

abbrev pub decreases-note_row : goal.decreases-note_row
decreases-note_row l = length (ahead l.cursor)

abbrev pub invariant-loop-element : goal.invariant-loop-element
invariant-loop-element l =
    ((goal.iterator-loop-element).can_next l.element-iterator) × ((goal.iterator-loop-element).is_finite l.element-iterator) × Noting l.initial.element-iterator l.entries.items l.element-iterator
