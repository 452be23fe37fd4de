use Rattle.chain.proofs.Tests.{first_of_sixes}
use Rattle.chain.proofs.checks.first_faulty.Goals as goal

pub returns : goal.returns
returns c = first_of_sixes _ _ _ _ _ c.as_chunks.ensures.front c.as_chunks.ensures.front_len c.min-there.ensures c.first_bad_may_issue.ensures
