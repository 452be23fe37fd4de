use Rattle.std.proofs.Common.{arith}
use Rattle.element.proofs.Rooms.{full_last}
use Rattle.element.proofs.progress.Progress.innermost.Goals as goal

pub returns-after-loop-levels-clause-is : goal.returns-after-loop-levels-clause-is
returns-after-loop-levels-clause-is c = omega (arith, full_last c.args.self.now.rooms c.loop-levels.levels (omega arith) (omega arith))
