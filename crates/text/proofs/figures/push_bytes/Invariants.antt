use Rattle.std.proofs.Common.{◌≡◌, vec_items}
use Rattle.std.specs.Slice.Iter.{chunks_rest, chunks_size}
use Rattle.text.specs.inner.Figures.{word_bytes}
use Rattle.text.proofs.Values.{onto}
use Rattle.text.proofs.figures.push_bytes.Given as goal

abbrev pub invariant-loop-pair : goal.invariant-loop-pair
invariant-loop-pair l = (onto (vec_items l.initial.out) (word_bytes l.word) ≡ onto (vec_items l.out) (word_bytes (chunks_rest l.pair-iterator))) × (chunks_size l.pair-iterator ≡ 2)
