use Rattle.std.proofs.Common.{◌≡◌, ◌+◌, set, inl, inr, sym, ap, ◌∙◌, is_some, arith}
use Rattle.trust.proofs.Layers.{fits, pushed, passed}
use Rattle.shortest.specs.inner.Steps.{far}
use Rattle.shortest.proofs.Steps.{reached, unreached}
use Rattle.shortest.proofs.reached.Reached.reach.Goals as goal
use Rattle.shortest.proofs.reached.Reached.reach.Goals.{else-is_none-via-then-is_none+else-follows, else-is_none-via-else-is_none}

pub bounds-self-self : goal.bounds-self-self
bounds-self-self c =
    let few = fits _ _ _ _ c.requires.kept_before.queue c.args.y c.requires.y_known (unreached _ _ (ap is_some (sym c.get.ensures) ∙ c.if-is_none.ensures)) in
    omega (arith, few, c.args.asked.now.view.few)

pub returns-then-follows-clause-kept : goal.returns-then-follows-clause-kept
returns-then-follows-clause-kept c =
    let next : c.args.k + 1 + 1 ≡ c.args.k + 2 = omega arith in
    rw (c.set.ensures.far ∙ ap (set (far c.args.self.now.steps) c.args.y) next, c.set.ensures.from) (pushed _ _ _ _ _ _ _ _ _ _ _ c.requires.kept_before c.requires.next_before.within c.requires.next_before.here c.requires.next_before.layer c.requires.y_known (unreached _ _ (ap is_some (sym c.get.ensures) ∙ c.if-is_none.ensures)) c.if-follows.ensures)

pub returns-else-is_none-clause-kept : goal.returns-else-is_none-clause-kept
returns-else-is_none-clause-kept c =
    passed _ _ _ _ _ _ _ _ _ _ _ c.requires.kept_before c.requires.next_before.within c.requires.next_before.here c.requires.next_before.layer c.requires.y_known (elim c.else-is_none.branch [
      | else-is_none-via-then-is_none+else-follows w ↦ inr (sym w.if-follows.ensures)
      | else-is_none-via-else-is_none w ↦ inl (reached _ _ (ap is_some (sym c.get.ensures) ∙ w.if-is_none.ensures))
    ])
