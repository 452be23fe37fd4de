use Rattle.std.specs.Iterator.Adapters.{enumerate_source, enumerate_count}
use Rattle.std.specs.Io.KnownBytes.{Keeps}
use Rattle.text.specs.Tokens.{lines}
use Rattle.session.proofs.Cutting.{Turn}
use Rattle.session.proofs.Quiet.{Quiet}
use Rattle.session.proofs.Book.write_answers.Given as goal

abbrev pub invariant-loop-number : goal.invariant-loop-number
invariant-loop-number g l =
    (Quiet (lines l.text) → Quiet (lines (enumerate_source l.number-iterator).rest.now) × Keeps (g.W.Write.contents l.initial.out) (g.W.Write.contents l.out)) × Turn l.text l.self l.passed (enumerate_count l.number-iterator) (lines (enumerate_source l.number-iterator).rest.now) (g.W.Write.contents l.initial.out) (g.W.Write.contents l.out)
