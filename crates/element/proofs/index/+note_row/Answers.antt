use Rattle.std.proofs.Common.{ℕ, length, refl, ap, subst, arith}
use Rattle.format.specs.Elements.{Row, Reads}
use Rattle.element.specs.Cursors.{ahead, offset}
use Rattle.element.specs.Limits.{longest}
use Rattle.element.specs.inner.Noted.{Noted}
use Rattle.element.specs.declared.walking.Cursor.{Cursor}
use Rattle.element.proofs.Entries.{noting_all, noting_more, noted_inside, shorter}
use Rattle.element.proofs.index.+note_row.Goals as goal
use Rattle.element.proofs.index.+note_row.Goals.{in-None-row, in-Some-row+in_ok-within-in-Some-row}

pub note_row-requires : goal.note_row-requires
note_row-requires t c =
    let i = c.loop-element.invariant in
    let l = shorter c.in-Some.ensures.steps in
    let start = ap (λ u. length (ahead u)) c.into_iter-element-iterator.ensures.into_iter_gives in
    let inner = ap length c.in-Some-row.ensures.1 in
    omega (arith, i.2.less)

pub loop-element-preserved : goal.loop-element-preserved
loop-element-preserved t c =
    let p = c.loop-element.invariant.2 in
    let s = c.in-Some.ensures.steps in (
      (c.in-Some.ensures.goes.on tt).0,
      tt,
      elim c.match-row.branch [
        | in-None-row w ↦ noting_more _ _ _ _ _ _ _ p s c.in_ok-push.ensures.items (
            let low = w.in-None-row.ensures in
            record { there = refl; size = refl; plain = λ l. rw w.within-is w.new-within.ensures.items; nested = λ l. absurd (omega (arith, low)) }
            )
        | in-Some-row+in_ok-within-in-Some-row w ↦ noting_more _ _ _ _ _ _ _ p s c.in_ok-push.ensures.items (
            let high = w.in-Some-row.ensures.0 in
            record { there = refl; size = refl; plain = λ l. absurd (omega (arith, high)); nested = λ l. rw w.within-is (noted_inside c.in-Some.element w.in-Some-row.row _ w.in-Some-row.ensures w.in_ok-within-in-Some-row.ensures.noted) }
            )
      ],
    )

pub returns-clause-noted : goal.returns-clause-noted
returns-clause-noted t c =
    subst (λ (u : Cursor). (depth : ℕ) (row : Row) → Reads depth longest (ahead u) row → Noted row c.loop-element.entries.items (offset u)) c.into_iter-element-iterator.ensures.into_iter_gives
    (noting_all _ _ _ _ c.loop-element.invariant.2 c.in-None.ensures.steps)
