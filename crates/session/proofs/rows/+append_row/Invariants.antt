use Rattle.std.proofs.Common.{length, vec_items}
use Rattle.element.specs.Cursors.{ahead}
use Rattle.session.proofs.Showing.{Printed}
use Rattle.session.proofs.rows.+append_row.Given as goal

abbrev pub decreases-append_row : goal.decreases-append_row
decreases-append_row l = length (ahead l.cursor)

abbrev pub invariant-loop-element : goal.invariant-loop-element
invariant-loop-element l =
    ((goal.iterator-loop-element).can_next l.element-iterator) × ((goal.iterator-loop-element).is_finite l.element-iterator) × Printed l.level (ahead l.initial.element-iterator) (vec_items l.initial.out) (vec_items l.out) (ahead l.element-iterator)
