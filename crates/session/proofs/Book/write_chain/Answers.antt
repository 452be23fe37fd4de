use Rattle.std.proofs.Common.{take, vec_items, Ok, subst}
use Rattle.shortest.specs.Answers as search
use Rattle.text.specs.Texts.{chain_text, AppendsText}
use Rattle.chain.specs.Inputs.{input_of}
use Rattle.session.specs.inner.Held.{held}
use Rattle.session.proofs.Chaining.{chain_found, chain_none, chain_rejected}
use Rattle.session.proofs.Book.write_chain.Goals as goal

pub returns-in-Ok-Some : goal.returns-in-Ok-Some
returns-in-Ok-Some c =
    let b = c.args.self.now in
    let said = subst (λ o. search.Answers (input_of c.input-input.result) c.args.day c.args.first c.args.buffer.now c.find_chain.new.out (Ok o)) c.in-Ok-Some.field-0-is c.in-Ok-Some.ensures in
    (_, chain_found (held b) (vec_items b.numbers) _ _ _ c.input-input.ensures c.args.buffer.now c.find_chain.new.out c.requires c.in-Ok-Some.count said, subst (λ k. AppendsText c.append_chain.result c.args.out.now.items (chain_text (take k c.find_chain.new.out)) c.append_chain.new.out.items) c.in-Ok-Some.count-is c.append_chain.ensures)

pub returns-in-Ok-None : goal.returns-in-Ok-None
returns-in-Ok-None c =
    let b = c.args.self.now in
    let said = subst (λ o. search.Answers (input_of c.input-input.result) c.args.day c.args.first c.args.buffer.now c.find_chain.new.out (Ok o)) c.in-Ok-None.field-0-is c.in-Ok-None.ensures in
    (_, chain_none (held b) (vec_items b.numbers) _ _ _ c.input-input.ensures c.args.buffer.now c.find_chain.new.out c.requires said, c.append_none.ensures)

pub returns-in-Err : goal.returns-in-Err
returns-in-Err c =
    let b = c.args.self.now in
    (_, chain_rejected (held b) (vec_items b.numbers) _ _ _ c.input-input.ensures c.args.buffer.now c.find_chain.new.out c.requires c.in-Err.why c.in-Err.ensures _ c.rejection_place.ensures, c.reject.ensures)
