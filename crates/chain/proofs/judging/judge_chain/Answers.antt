use Rattle.std.proofs.Common.{sym, ap, ◌∙◌, arith}
use Rattle.trust.specs.Chains.{holds}
use Rattle.chain.specs.Views.{view_pool}
use Rattle.chain.proofs.CertificateViews.{said_at, anchor_at}
use Rattle.chain.proofs.Climbing.{following_known, behind, starts, no_step, one_more, at_last}
use Rattle.chain.proofs.judging.judge_chain.Goals as goal

pub returns-in_default : goal.returns-in_default
returns-in_default c = λ h. omega (arith, (starts _ _ _ _ h).0, c.in_default.len_below)

pub returns-then-not-follows : goal.returns-then-not-follows
returns-then-not-follows c =
    no_step _ _ _ _ _ _ _ c.loop-between.invariant (omega arith) (behind c.args.certificates.now c.loop-between.between (omega arith)) (sym c.if-not-follows.ensures)

pub loop-between-preserved : goal.loop-between-preserved
loop-between-preserved c =
    let f = sym c.if-not-follows.ensures in
    one_more _ _ _ _ _ _ c.loop-between.invariant (omega arith) (behind c.args.certificates.now c.loop-between.between (omega arith)) f (following_known _ _ _ _ _ f)

pub returns-in-Some-get : goal.returns-in-Some-get
returns-in-Some-get c =
    let v = c.args.view.now in
    at_last (view_pool v) c.args.day c.args.certificates.now c.args.first c.loop-between.between c.loop-between.at _ c.if-start-first.false
    (ap (λ s. holds s c.args.day) (sym (said_at v _ c.in-Some.start c.in-Some.ensures.1)) ∙ sym c.if-not-holds.ensures)
    c.loop-between.invariant (omega arith) (c.is_anchor.ensures ∙ anchor_at v _ c.in-Some-get.last c.in-Some-get.ensures.1)
