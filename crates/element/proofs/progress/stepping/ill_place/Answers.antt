use Rattle.std.proofs.Common.{◌≡◌, ◌-◌, length, take, drop, ap, ◌∙◌, arith}
use Rattle.std.proofs.lemmas.List.{take_rest}
use Rattle.format.proofs.Bytes.{all_bytes_from}
use Rattle.element.proofs.Gone.{reading_start, reading_dead, reading_on}
use Rattle.element.proofs.progress.stepping.ill_place.Goals as goal

pub loop-rest-init : goal.loop-rest-init
loop-rest-init c = reading_start c.args.bytes.now c.new-reader.result (all_bytes_from c.args.bytes.now (λ i. (c.type_inv.bytes i).fits)) c.new-reader.ensures.gone

pub returns-in-Dead : goal.returns-in-Dead
returns-in-Dead c = reading_dead c.args.bytes.now c.loop-rest.reader c.step.new.self c.loop-rest.rest.now c.loop-rest.invariant (omega arith) c.step.result c.step.ensures.gone c.step.ensures.says c.in-Dead.is

pub loop-rest-preserved : goal.loop-rest-preserved
loop-rest-preserved c =
    let rest = c.loop-rest.rest.now in
    let behind : take (length rest - 1) (drop 1 rest) ≡ drop 1 rest = take_rest rest 1 in
    reading_on c.args.bytes.now c.loop-rest.reader c.step.new.self rest c.loop-rest.invariant (omega arith) c.step.result c.step.ensures.gone c.step.ensures.says
    c.in_default-step.not-Dead c.skip-over.new.self _ c.skip-over.result (ap length behind) c.skip-over.ensures _ (take_rest (take (length rest - 1) (drop 1 rest)) c.skip-over.result ∙ ap (drop c.skip-over.result) behind)
