use Rattle.std.proofs.Common.{length, sym, ap, subst, arith}
use Rattle.format.specs.Elements.{Reads}
use Rattle.element.specs.Cursors.{ahead}
use Rattle.element.specs.Limits.{longest}
use Rattle.session.proofs.Showing.{printed_all, printed_plain, plain_fails, printed_nested, heading_fails, nested_fails, shorter}
use Rattle.session.proofs.rows.+append_row.Goals as goal

pub loop-element-preserved-in-Continue-1 : goal.loop-element-preserved-in-Continue-1
loop-element-preserved-in-Continue-1 t c =
    ((c.in-Some.ensures.goes.on tt).0, tt, printed_plain _ _ _ _ _ _ _ c.loop-element.invariant.2 c.in-Some.ensures.steps _ c.in-None-row.ensures c.in_ok-append_element-in-None-row.ensures)

pub append_row-requires : goal.append_row-requires
append_row-requires t c =
    let i = c.loop-element.invariant in
    let l = shorter c.in-Some.ensures.steps in
    let start = ap (λ u. length (ahead u)) c.into_iter-element-iterator.ensures.into_iter_gives in
    let inner = ap length c.in-Some-row.ensures.1 in
    (omega (arith, i.2.less), omega (arith, i.2.less))

pub loop-element-preserved : goal.loop-element-preserved
loop-element-preserved t c =
    let (high, rest, place) = c.in-Some-row.ensures in
    let inner = c.in_ok-append_row-in-Some-row.ensures in
    ((c.in-Some.ensures.goes.on tt).0, tt, printed_nested _ _ _ _ _ _ _ c.loop-element.invariant.2 c.in-Some.ensures.steps _ _ high c.in_ok-append_element-in-Some-row.ensures (λ d row h. inner d row (subst (λ b. Reads d longest b row) (sym rest) h)))

pub returns-in_err-append_element-in-None-row : goal.returns-in_err-append_element-in-None-row
returns-in_err-append_element-in-None-row t c = λ d row h.
    plain_fails _ _ _ _ _ _ _ c.loop-element.invariant.2 c.in-Some.ensures.steps _ _ c.from_residual.ensures.0 c.in-None-row.ensures c.in_err-append_element-in-None-row.ensures d row
    (subst (λ u. Reads d longest (ahead u) row) (sym c.into_iter-element-iterator.ensures.into_iter_gives) h)

pub returns-in_err-append_element-in-Some-row : goal.returns-in_err-append_element-in-Some-row
returns-in_err-append_element-in-Some-row t c = λ d row h.
    heading_fails _ _ _ _ _ _ _ c.loop-element.invariant.2 c.in-Some.ensures.steps _ _ c.from_residual-in_err-append_element-in-Some-row.ensures.0 c.in-Some-row.ensures.0 c.in_err-append_element-in-Some-row.ensures d row
    (subst (λ u. Reads d longest (ahead u) row) (sym c.into_iter-element-iterator.ensures.into_iter_gives) h)

pub returns-in_err-append_row-in-Some-row : goal.returns-in_err-append_row-in-Some-row
returns-in_err-append_row-in-Some-row t c = λ d row h.
    let (high, rest, place) = c.in-Some-row.ensures in
    nested_fails _ _ _ _ _ _ _ c.loop-element.invariant.2 c.in-Some.ensures.steps _ _ _ c.from_residual-in_err-append_row-in-Some-row.ensures.0 high c.in_ok-append_element-in-Some-row.ensures (λ e q k. c.in_err-append_row-in-Some-row.ensures e q (subst (λ b. Reads e longest b q) (sym rest) k)) d row
    (subst (λ u. Reads d longest (ahead u) row) (sym c.into_iter-element-iterator.ensures.into_iter_gives) h)

pub returns : goal.returns
returns t c = λ d row h.
    printed_all _ _ _ _ _ _ c.loop-element.invariant.2 c.in-None.ensures.steps d row (subst (λ u. Reads d longest (ahead u) row) (sym c.into_iter-element-iterator.ensures.into_iter_gives) h)
