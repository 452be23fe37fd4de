use Rattle.std.proofs.Common.{◌+◌, ◌++◌, take, drop, sym, ap, ◌∙◌, subst, append_assoc, vec_items}
use Rattle.std.specs.List.{flat_map}
use Rattle.text.specs.Texts.{line_feed, space_before, AppendsText}
use Rattle.text.proofs.Written.{row_more, row_parts, row_end, fails_behind, fails_first}
use Rattle.text.proofs.answers.push_figures.Goals as goal

pub returns-in_err-push : goal.returns-in_err-push
returns-in_err-push g c =
    let f = g.F.Figure.text in
    subst (λ l. AppendsText c.from_residual.result (vec_items c.args.out.now) l (vec_items c.push.new.out)) (sym (append_assoc (f c.args.first) (flat_map (space_before f) c.args.rest.now) line_feed))
    (fails_first _ _ (f c.args.first) (flat_map (space_before f) c.args.rest.now ++ line_feed) _ c.from_residual.ensures.0 c.in_err-push.ensures)

pub returns-in_err-push_next : goal.returns-in_err-push_next
returns-in_err-push_next g c =
    let f = g.F.Figure.text in
    fails_behind _ _ (f c.args.first ++ flat_map (space_before f) (take c.loop-figure.figure-index c.args.rest.now)) _ (space_before f c.figure-item.result) _ _ _ c.from_residual-in_err-push_next.ensures.0
    (row_parts f c.args.first c.args.rest.now c.loop-figure.figure-index c.figure-item.result c.loop-figure-test.true ∙ ap (λ x. (f c.args.first ++ flat_map (space_before f) (take c.loop-figure.figure-index c.args.rest.now)) ++ (space_before f x ++ (flat_map (space_before f) (drop (c.loop-figure.figure-index + 1) c.args.rest.now) ++ line_feed))) (sym c.figure-item.is))
    (c.loop-figure.invariant ∙ ap (λ l. l ++ flat_map (space_before f) (take c.loop-figure.figure-index c.args.rest.now)) c.in_ok-push.ensures ∙ append_assoc (vec_items c.args.out.now) (f c.args.first) _)
    c.in_err-push_next.ensures

pub loop-figure-preserved : goal.loop-figure-preserved
loop-figure-preserved g c = row_more (space_before g.F.Figure.text) c.args.rest.now c.loop-figure.figure-index c.figure-item.result (vec_items c.push.new.out) (vec_items c.loop-figure.out) (vec_items c.push_next.new.out) c.loop-figure-test.true c.loop-figure.invariant (c.in_ok-push_next.ensures ∙ ap (λ x. vec_items c.loop-figure.out ++ space_before g.F.Figure.text x) c.figure-item.is)

pub returns : goal.returns
returns g c =
    row_end g.F.Figure.text c.args.rest.now c.loop-figure.figure-index c.end_line.result (vec_items c.args.out.now) (vec_items c.push.new.out) (vec_items c.loop-figure.out) (vec_items c.end_line.new.out) c.args.first c.loop-figure-test.false c.in_ok-push.ensures c.loop-figure.invariant c.end_line.ensures
