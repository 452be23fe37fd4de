use Rattle.std.proofs.Common.{arith}
use Rattle.std.proofs.lemmas.Bool.Decides.{nat_tests}
use Rattle.chain.specs.Rejections.{faulty}
use Rattle.chain.proofs.Tests.{first_decides}
use Rattle.chain.proofs.input.PoolInput.certificates_well.Goals as goal

pub returns-then-self-count : goal.returns-then-self-count
returns-then-self-count c =
    grind (arith, nat_tests, first_decides c.args.self.now.count (faulty c.args.self.now.certificates.now) c.first_faulty.result c.first_faulty.ensures)
