use Rattle.std.proofs.Common.{sym, ap, ◌∙◌}
use Rattle.text.specs.Heads.{words_head}
use Rattle.text.specs.Tokens.{words}
use Rattle.text.proofs.Sentences.{head_said}
use Rattle.text.proofs.command.read_head.Goals as goal

pub returns-in-Some-clause-said : goal.returns-in-Some-clause-said
returns-in-Some-clause-said c = λ m e. c.word_head.ensures ∙ sym (ap words_head (ap words (sym c.new.ensures) ∙ c.in-Some.ensures.steps)) ∙ head_said c.args.line.now m e

pub returns-in-None-clause-said : goal.returns-in-None-clause-said
returns-in-None-clause-said c = λ m e. sym (ap words_head (ap words (sym c.new.ensures) ∙ c.in-None.ensures.steps.0)) ∙ head_said c.args.line.now m e
