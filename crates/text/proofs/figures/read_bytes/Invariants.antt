use Rattle.std.proofs.Common.{◌≡◌, ◌≤◌, length, vec_items}
use Rattle.text.specs.inner.Figures.{bytes_of}
use Rattle.text.specs.Tokens.{words}
use Rattle.text.proofs.Values.{onto}
use Rattle.text.proofs.figures.read_bytes.Given as goal

abbrev pub invariant-loop-word : goal.invariant-loop-word
invariant-loop-word l = record { read : bytes_of (words l.fn.words.rest.now) ≡ onto (vec_items l.out) (bytes_of (words l.word-iterator.rest.now)); fewer : length (words l.word-iterator.rest.now) ≤ length (words l.fn.words.rest.now) }
