use Rattle.trust.proofs.Layers.{full, turned}
use Rattle.std.proofs.Common.{arith}
use Rattle.shortest.proofs.reached.Reached.turn.Goals as goal

pub returns-then-self-count-clause-kept : goal.returns-then-self-count-clause-kept
returns-then-self-count-clause-kept c =
    let h = full _ _ _ _ _ _ _ _ c.requires.kept_before c.requires.next.within (omega arith) in
    turned _ _ _ _ _ _ _ _ c.args.x h c.requires.next.within c.requires.next.here c.requires.no_anchor
