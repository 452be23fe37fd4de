use Rattle.std.proofs.Common.{sym, ◌∙◌}
use Rattle.trust.proofs.Layers.{explored_all}
use Rattle.trust.proofs.Found.{no_chain}
use Rattle.chain.proofs.CertificateViews.{anchor_at}
use Rattle.shortest.proofs.Ends.{topped}
use Rattle.shortest.proofs.reached.Reached.climb.Goals as goal

pub returns-then-is_anchor : goal.returns-then-is_anchor
returns-then-is_anchor c =
    topped _ _ _ _ _ _ _ _ _ c.loop-self.invariant c.loop-self-test.true c.from-x.ensures (sym (anchor_at _ _ c.in-Some.certificate c.in-Some.ensures.1) ∙ sym c.if-is_anchor.ensures)

pub returns : goal.returns
returns c = no_chain _ _ _ _ _ c.loop-self.invariant.tree (explored_all _ _ _ _ _ _ _ _ c.loop-self.invariant c.loop-self-test.false)
