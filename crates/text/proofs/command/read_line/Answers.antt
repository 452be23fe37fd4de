use Rattle.std.proofs.Common.{subst}
use Rattle.text.specs.Meaning.{meaning, says}
use Rattle.text.specs.Reading.{ReadsAs, StoresWords}
use Rattle.text.specs.Tokens.{words}
use Rattle.text.specs.inner.Saying.{words_say}
use Rattle.text.proofs.command.read_line.Goals as goal

pub returns : goal.returns
unfolding meaning
returns c = subst (λ line. ReadsAs says c.read_words.result (words_say (words line)) (StoresWords (words line))) c.new.ensures c.read_words.ensures
