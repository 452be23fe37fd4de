use Rattle.std.proofs.Common.{◌+◌, Some, None, refl, sym, ap, ◌∙◌, drop, arith}
use Rattle.std.proofs.lemmas.Option.{slice_get_past, slice_get_read}
use Rattle.element.specs.Indexed.{entry_at}
use Rattle.element.proofs.Entries.{goes_in, goes_nowhere, goes_to, located_by}
use Rattle.element.proofs.Walks.{outer_number, last_number, no_number}
use Rattle.element.proofs.index.Index.locate.Goals as goal

pub returns-in_err-last : goal.returns-in_err-last
returns-in_err-last c = rw c.from_residual.ensures (λ bytes h row r. no_number c.args.path.now c.in_err-last.ensures.cases row)

pub returns-in_err-get : goal.returns-in_err-get
returns-in_err-get c =
    let o = outer_number _ _ _ _ c.in_ok-last.ensures.cases.0 c.loop-number-test.true in
    rw c.from_residual-in_err-get.ensures (located_by _ _ None (goes_nowhere _ _ _ _ _ c.loop-number.invariant o.0 o.1 c.in_err-get.ensures.lookup.3))

pub loop-number-preserved : goal.loop-number-preserved
loop-number-preserved c =
    let o = outer_number _ _ _ _ c.in_ok-last.ensures.cases.0 c.loop-number-test.true in
    let found = c.in_ok-get.ensures.lookup in
    goes_in _ _ _ _ _ c.loop-number.invariant o.0 o.1 (Some c.in_ok-get.field-0.now) (slice_get_read _ _ _ _ refl found.3.0 found.1) ∙ ap (λ row. entry_at row (drop (c.loop-number.number-index + 1) c.args.path.now)) (sym c.as_slice-row-in-loop-number.ensures.value)

pub returns-in_err-get-2 : goal.returns-in_err-get-2
returns-in_err-get-2 c =
    let o = last_number _ _ _ c.loop-number.number-index c.in_ok-last.ensures.cases.0 (omega arith) in
    rw c.from_residual-in_err-get-2.ensures (located_by _ _ None (goes_to _ _ _ _ _ c.loop-number.invariant o.0 o.1 ∙ slice_get_past _ _ c.in_err-get-2.ensures.lookup.3))

pub returns : goal.returns
returns c =
    let o = last_number _ _ _ c.loop-number.number-index c.in_ok-last.ensures.cases.0 (omega arith) in
    let found = c.in_ok-get-2.ensures.lookup in
    located_by _ _ (Some c.in_ok-get-2.field-0.now) (goes_to _ _ _ _ _ c.loop-number.invariant o.0 o.1 ∙ slice_get_read _ _ _ _ refl found.3.0 found.1)
