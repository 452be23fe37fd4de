use Rattle.std.proofs.Common.{◌≡◌, ◌-◌, length, take, drop, ap, ◌∙◌}
use Rattle.std.proofs.lemmas.List.{take_rest}
use Rattle.session.proofs.Known.{begun_more, begun_same}
use Rattle.session.proofs.writing.put.Goals as goal
use Rattle.session.proofs.writing.put.Goals.{in-Ok, in-Err}

pub loop-preserved : goal.loop-preserved
loop-preserved g c =
    elim c.match-write.branch [
      | in-Ok w ↦
          let whole : take (length c.loop.rest.now - w.in-Ok.n) (drop w.in-Ok.n c.loop.rest.now) ≡ drop w.in-Ok.n c.loop.rest.now = take_rest c.loop.rest.now w.in-Ok.n in
          begun_more c.args.bytes.now c.loop.rest.now c.match-write.rest.now w.in-Ok.n _ _ _ c.loop.invariant (ap (λ r. r.now) w.rest-is ∙ whole) w.in-Ok.ensures.bytes
      | in-Err w ↦ begun_same _ _ _ _ _ _ c.loop.invariant (ap (λ r. r.now) w.rest-is) w.in-Err.ensures.bytes
    ]
