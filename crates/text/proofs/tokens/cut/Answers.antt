use Rattle.std.proofs.Common.{◌+◌, ◌∷◌, take, sym, ap, ◌∙◌, arith}
use Rattle.std.proofs.lemmas.Bool.{eqb-false}
use Rattle.std.proofs.lemmas.List.{take_rest}
use Rattle.text.specs.Tokens.{segments}
use Rattle.text.proofs.Cuts.{first_end, cut_at_end, cut_whole}
use Rattle.text.proofs.tokens.cut.Goals as goal

pub returns-in-Some-clause-first : goal.returns-in-Some-clause-first
returns-in-Some-clause-first g c p h =
    let bs = c.args.bytes.now in
    let n = c.in-Some.n in
    cut_at_end p bs _ n c.in-Some.is (first_end p _ _ _ _ bs _ c.position.ensures.ran c.iter.ensures.rest h (λ a t q k. g.met.F.Fn.1.step_stays _ _ _ _ k))
    ∙ ap (λ l. take n bs ∷ segments p l) (sym (take_rest bs (n + 1)))

pub returns-in-None-clause-first : goal.returns-in-None-clause-first
returns-in-None-clause-first g c p h =
    let bs = c.args.bytes.now in
    cut_whole p bs _ (omega (arith, eqb-false _ 0 (sym c.if-is_empty.ensures))) c.in-None.is (first_end p _ _ _ _ bs _ c.position.ensures.ran c.iter.ensures.rest h (λ a t q k. g.met.F.Fn.1.step_stays _ _ _ _ k))
