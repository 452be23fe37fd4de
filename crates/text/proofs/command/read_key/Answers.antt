use Rattle.std.proofs.Common.{rules, codes, sym, ap, arith}
use Rattle.std.proofs.lemmas.Slice.Eq.{text_from_reads}
use Rattle.text.specs.inner.Saying.{key_of}
use Rattle.text.proofs.command.read_key.Goals as goal

pub returns-in-trusted : goal.returns-in-trusted
returns-in-trusted c = sym (ap key_of (text_from_reads c.args.word.now (codes "trusted") (omega arith) (search rules)))
