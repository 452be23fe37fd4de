use Rattle.std.proofs.Common.{◌≡◌, ℕ, List, ◌+◌, ◌-◌, refl, length, take, drop, get_or, ap, ◌∙◌, sym, subst, arith, length-drop, drop-drop}
use Rattle.std.proofs.lemmas.List.{take_rest}
use Rattle.element.specs.Openings.{FrontElement}
use Rattle.element.proofs.Openings.{opens_from, shut_few, shut_length, shut_long, length_behind}
use Rattle.element.proofs.judging.Reader.open.Goals as goal

pub returns-in_default : goal.returns-in_default
returns-in_default c = shut_few c.args.bytes.now (omega arith)

pub returns-in_err-value : goal.returns-in_err-value
returns-in_err-value c =
    subst (FrontElement c.args.bytes.now) (sym c.from_residual.ensures)
    (shut_length c.args.bytes.now (omega arith) (length_behind c.args.bytes.now (λ i. (c.type_inv.bytes i).fits) _ c.in_err-value.ensures))

-- what is behind a tag and a length of k bytes
past : (b : List ℕ) (k : ℕ) → take (length b - (1 + k)) (drop (1 + k) b) ≡ drop k (drop 1 b)
past b k = take_rest b (1 + k) ∙ sym (drop-drop k 1 b)

pub returns-in_err-contents : goal.returns-in_err-contents
returns-in_err-contents c =
    let b = c.args.bytes.now in
    let h = length_behind b (λ i. (c.type_inv.bytes i).fits) _ c.in_ok-value.ensures in
    rw c.from_residual-in_err-contents.ensures (shut_long b _ _ (omega arith) h (omega (arith, ap length (past b c.in_ok-value.field-0.size), length-drop c.in_ok-value.field-0.size (drop 1 b), length-drop 1 b, h.within, c.in_err-contents.ensures.cases)))

pub returns : goal.returns
returns c =
    let b = c.args.bytes.now in
    let h = length_behind b (λ i. (c.type_inv.bytes i).fits) _ c.in_ok-value.ensures in
    let e = past b c.in_ok-value.field-0.size in
    opens_from b _ _ (omega arith) (c.type_inv.bytes 0).fits h (omega (arith, ap length e, c.in_ok-contents.ensures.cases.0)) (record { tag = get_or b 0 0; contents = c.in_ok-contents.contents; behind = c.in_ok-contents.behind }) refl (c.in_ok-contents.ensures.cases.1 ∙ ap (take _) e) (c.in_ok-contents.ensures.cases.2 ∙ ap (drop _) e)
