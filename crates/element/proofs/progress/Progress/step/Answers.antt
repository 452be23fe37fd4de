use Rattle.std.proofs.Common.{◌≡◌, ℕ, List, [], ◌∷◌, ◌++◌, rules}
use Rattle.element.specs.Machine.{stepped, state}
use Rattle.element.specs.Progressed.{Gone}
use Rattle.element.proofs.Gone.{gone_step}
use Rattle.element.proofs.progress.Progress.step.Goals as goal

pub returns : goal.returns
returns c =
    let e : state c.settle.new.self ≡ stepped (state c.args.self.now) c.args.byte = search rules in
    let on = λ (b : List ℕ) (h : Gone c.args.self.now b). gone_step c.args.self.now c.settle.new.self b c.args.byte h c.ranges.byte.fits e in
    record { goes = e; gone = on; says = λ b h. c.status.ensures.says (b ++ (c.args.byte ∷ [])) (on b h) }
