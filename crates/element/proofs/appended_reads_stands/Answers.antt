use Rattle.element.proofs.Writings.{appended_reads}
use Rattle.element.proofs.appended_reads_stands.Goals as goal

pub returns : goal.returns
returns c = appended_reads
