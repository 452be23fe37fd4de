use Rattle.std.proofs.Common.{◌≡◌, ◌++◌, vec_items}
use Rattle.text.specs.Texts.{indent}
use Rattle.text.proofs.answers.push_indent.Given as goal

abbrev pub invariant-loop : goal.invariant-loop
invariant-loop l = vec_items l.out ≡ vec_items l.initial.out ++ indent l.counter
