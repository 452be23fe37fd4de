use Rattle.session.proofs.Wider.{pool_of_papers}
use Rattle.session.proofs.promise.pool_of_papers_stands.Goals as goal

pub returns : goal.returns
returns c = pool_of_papers
