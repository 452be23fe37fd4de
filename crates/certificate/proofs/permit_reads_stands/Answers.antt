use Rattle.certificate.proofs.Laws.{permit_reads}
use Rattle.certificate.proofs.permit_reads_stands.Goals as goal

pub returns : goal.returns
returns c = permit_reads
