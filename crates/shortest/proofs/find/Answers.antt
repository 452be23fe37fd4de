use Rattle.std.proofs.Common.{sym, refl, ap, ◌∙◌}
use Rattle.trust.specs.Chains.{holds}
use Rattle.trust.proofs.Found.{not_held}
use Rattle.chain.specs.Inputs.{most}
use Rattle.chain.proofs.CertificateViews.{said_at}
use Rattle.shortest.proofs.Ends.{started, written}
use Rattle.shortest.specs.inner.Steps.{far, from}
use Rattle.shortest.proofs.find.Goals as goal

pub returns-then-not-holds : goal.returns-then-not-holds
returns-then-not-holds c =
    (refl, not_held _ _ _ (ap (λ s. holds s c.args.asked.now.day) (sym (said_at _ _ c.in_ok-start.start c.in_ok-start.ensures.1)) ∙ sym c.if-not-holds.ensures))

pub climb-requires : goal.climb-requires
climb-requires c = started _ _ _ most _ _ _ _ _ c.begin-reached.ensures.far c.begin-reached.ensures.from c.begin-reached.ensures.order c.begin-reached.ensures.size c.begin-reached.ensures.over c.args.asked.now.known (ap (λ s. holds s c.args.asked.now.day) (sym (said_at _ _ c.in_ok-start.start c.in_ok-start.ensures.1)) ∙ sym c.if-not-holds.ensures) c.args.asked.now.view.few

pub returns : goal.returns
returns c =
    let top = c.in_ok-top.ensures in
    written _ _ _ (far c.climb.new.self.steps) (from c.climb.new.self.steps) top.0 c.in_ok-top.top _ _ _ top.1 (sym c.layer-count.ensures ∙ top.1.layer) c.requires c.lay_out.ensures
