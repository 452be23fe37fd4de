use Rattle.std.proofs.Common.{rules, codes, sym, ap, arith}
use Rattle.std.proofs.lemmas.Slice.Eq.{text_from_reads}
use Rattle.text.specs.Heads.{head_by}
use Rattle.text.proofs.command.word_head.Goals as goal

pub returns-in-seals-2 : goal.returns-in-seals-2
returns-in-seals-2 c = sym (ap head_by (text_from_reads c.args.word.now (codes "trusted") (omega arith) (search rules)))
