use Rattle.std.proofs.Common.{◌-◌, true, false, sym, subst, refl, arith}
use Rattle.std.proofs.lemmas.Grind.{common_steps}
use Rattle.format.proofs.Bytes.{all_bytes_from}
use Rattle.element.specs.inner.Rests.{Leaves}
use Rattle.element.proofs.Steps.{parts_size, leaves_primitive, leaves_constructed, leaves_last, leaves_malformed, leaves_too_deep, leaves_shut, decides_start, decides_on, decides_rest, decides_end, decides_none}
use Rattle.element.proofs.judging.Reader.+row_element.Goals as goal

pub element-returns-in_err-tag : goal.element-returns-in_err-tag
element-returns-in_err-tag t c = subst (Leaves c.args.depth c.args.bytes.now) (sym c.from_residual.ensures) (leaves_shut _ _ c.in_err-tag.ensures)

pub element-returns-then-tag-lt-CONSTRUCTED : goal.element-returns-then-tag-lt-CONSTRUCTED
element-returns-then-tag-lt-CONSTRUCTED t c = leaves_primitive _ _ c.in_ok-tag.ensures _ (all_bytes_from c.args.bytes.now (λ i. (c.type_inv.bytes i).fits)) (omega arith)

pub element-returns-then-depth-eq0 : goal.element-returns-then-depth-eq0
element-returns-then-depth-eq0 t c = leaves_too_deep _ _ c.in_ok-tag.ensures _ (omega arith) (omega arith)

pub element-returns-then-is_empty : goal.element-returns-then-is_empty
element-returns-then-is_empty t c =
    leaves_last _ _ c.in_ok-tag.ensures _ _ (omega arith) (omega arith) (all_bytes_from c.args.bytes.now (λ i. (c.type_inv.bytes i).fits)) (grind (arith, common_steps))

pub element-returns-then-is_empty-2 : goal.element-returns-then-is_empty-2
element-returns-then-is_empty-2 t c =
    leaves_constructed _ _ c.in_ok-tag.ensures _ (c.args.depth - 1) (omega arith) (omega arith) (all_bytes_from c.args.bytes.now (λ i. (c.type_inv.bytes i).fits)) (decides_end _ _ _ c.past_short-inner.ensures (grind (arith, common_steps)))

pub element-row-requires : goal.element-row-requires
element-row-requires t c = omega (arith, c.past_short-inner.ensures.within, parts_size _ _ c.in_ok-tag.ensures)

pub element-returns-then-not-row : goal.element-returns-then-not-row
element-returns-then-not-row t c = leaves_malformed _ _ c.in_ok-tag.ensures _ _ (omega arith) (omega arith) (c.past_short-inner.ensures.same false c.if-not-row.ensures)

pub element-returns : goal.element-returns
element-returns t c =
    leaves_constructed _ _ c.in_ok-tag.ensures _ _ (omega arith) (omega arith) (all_bytes_from c.args.bytes.now (λ i. (c.type_inv.bytes i).fits)) (c.past_short-inner.ensures.same true c.if-not-row.ensures)

pub row-loop-rest-init : goal.row-loop-rest-init
row-loop-rest-init t c = decides_start _ _ _ refl refl (all_bytes_from c.args.bytes.now (λ i. (c.type_inv.bytes i).fits))

pub row-loop-rest-preserved : goal.row-loop-rest-preserved
row-loop-rest-preserved t c = decides_on _ _ c.loop-rest.rest c.loop-rest.invariant _ c.in-Some.ensures

pub row-returns-in_default : goal.row-returns-in_default
row-returns-in_default t c = decides_none _ _ c.loop-rest.rest c.loop-rest.invariant c.in_default.ensures (omega arith)

pub row-returns : goal.row-returns
row-returns t c = decides_rest _ _ c.loop-rest.rest c.loop-rest.invariant (omega arith) c.is_empty.result (λ e. grind (arith, common_steps)) (λ e. grind (arith, common_steps))
