use Rattle.std.proofs.Common.{rules}
use Rattle.element.specs.declared.progress.Status.TheVariants.{Ends, Within, Dead}
use Rattle.element.proofs.Gone.{gone_says}
use Rattle.element.proofs.progress.Progress.status.Goals as goal

pub returns-in-Nowhere : goal.returns-in-Nowhere
returns-in-Nowhere c = record { is = search rules; says = λ b. gone_says c.args.self.now b Dead (search rules) }

pub returns-in-Tag : goal.returns-in-Tag
returns-in-Tag c = record { is = search rules; says = λ b. gone_says c.args.self.now b Ends (search rules) }

pub returns-in_default : goal.returns-in_default
returns-in_default c = record { is = search rules; says = λ b. gone_says c.args.self.now b Within (search rules) }

pub returns-in_default-2 : goal.returns-in_default-2
returns-in_default-2 c = record { is = search rules; says = λ b. gone_says c.args.self.now b Within (search rules) }
