use Rattle.element.proofs.Walks.{piece_means}
use Rattle.element.proofs.piece_means_stands.Goals as goal

pub returns : goal.returns
returns c = piece_means
