use Rattle.std.proofs.Common.{◌≡◌, [], map, vec_items, sym, ap, ◌∙◌, subst, arith}
use Rattle.std.proofs.lemmas.List.{get_or-map, length-map}
use Rattle.certificate.specs.Permits.{Permit, certificate_of}
use Rattle.session.specs.Books.{paper_at}
use Rattle.session.proofs.Sixes.{counted_none, counted_more, counted_end}
use Rattle.session.proofs.numbering.numbers_of.Goals as goal
use Rattle.session.proofs.numbering.numbers_of.Goals.{After-deref}

-- the bytes that are decoded are those of the paper whose turn it is
turn : (c : After-deref) → c.deref.result.now ≡ paper_at (map vec_items c.args.papers.now) c.loop-paper.paper-index
turn c = c.deref.ensures.value ∙ ap vec_items c.paper-item.is ∙ sym (get_or-map vec_items c.args.papers.now c.loop-paper.paper-index c.paper-item.result [] (omega arith))

pub loop-paper-init : goal.loop-paper-init
loop-paper-init c = counted_none _ _ c.new-numbers.ensures.items

pub loop-paper-preserved : goal.loop-paper-preserved
loop-paper-preserved c =
    counted_more _ _ _ _ _ c.loop-paper.invariant
    (subst (λ b. Permit b (certificate_of c.in-Some.certificate)) (turn (goal.at.loop-paper-preserved c).After-deref) c.in-Some.ensures)
    c.in_ok-push_six.ensures

pub returns-in_default-clause-numbers : goal.returns-in_default-clause-numbers
returns-in_default-clause-numbers c =
    counted_end _ _ _ c.loop-paper.invariant (omega (arith, length-map c.args.papers.now vec_items))
    (λ less x p. c.in_default.ensures x (subst (λ b. Permit b x) (sym (turn (goal.at.returns-in_default-clause-numbers c).After-deref)) p))

pub returns-clause-numbers : goal.returns-clause-numbers
returns-clause-numbers c =
    counted_end _ _ _ c.loop-paper.invariant (omega (arith, length-map c.args.papers.now vec_items))
    (λ less. absurd (omega (arith, length-map c.args.papers.now vec_items)))
