use Rattle.certificate.proofs.Laws.{decodes_back}
use Rattle.certificate.proofs.decodes_back_stands.Goals as goal

pub returns : goal.returns
returns c = decodes_back
