use Rattle.std.proofs.Common.{decimal}
use Rattle.text.specs.Meaning.{number_limit}
use Rattle.text.specs.Texts.{hex_text, spaced}
use Rattle.text.specs.Tokens.{words}
use Rattle.text.proofs.Again.{printed_again, bytes_again}
use Rattle.text.proofs.Digits.{decimal_is}
use Rattle.text.proofs.Sentences.{bytes_are}
use Rattle.text.proofs.figures_stands.Goals as goal

pub returns : goal.returns
returns c = record {
  numbers = λ n lt. decimal_is number_limit (decimal n) n (printed_again n lt);
  bytes = λ bs h. bytes_are (words (spaced hex_text bs)) bs (bytes_again bs h);
}
