use Rattle.std.proofs.Common.{◌≡◌, [], vec_items}
use Rattle.text.specs.Tokens.{lines}
use Rattle.session.specs.inner.Held.{held}
use Rattle.session.proofs.Gathered.{Gathered}
use Rattle.session.proofs.Quiet.{Quiet}
use Rattle.session.proofs.Book.read.Given as goal

abbrev pub invariant-loop-line : goal.invariant-loop-line
invariant-loop-line l = (Quiet (lines l.text) → Quiet (lines l.line-iterator.rest.now)) × (vec_items l.book.indexes ≡ []) × Gathered l.text (held l.book) l.book.all_read (lines l.line-iterator.rest.now)
