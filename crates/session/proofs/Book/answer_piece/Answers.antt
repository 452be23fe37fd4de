use Rattle.std.proofs.Common.{ℕ, List, Some, None, Option, subst, arith}
use Rattle.element.specs.Located.{Piece}
use Rattle.session.specs.Answers.{PieceAnswer, part_text, there, no_paper}
use Rattle.session.specs.Books.{paper_at}
use Rattle.session.specs.inner.Held.{held}
use Rattle.session.proofs.Chaining.{papers_count}
use Rattle.session.proofs.Book.answer_piece.Goals as goal
use Rattle.session.proofs.Book.answer_piece.Goals.{After-piece}

-- what the path leads to in the paper
at_paper : (c : After-piece) (o : Option (List ℕ)) → Piece (paper_at (held c.prepare.new.self).papers c.args.paper) c.args.path.now o → PieceAnswer (held c.args.self.now).papers c.args.paper c.args.path.now (part_text o)
at_paper c o piece =
    there (omega (arith, c.if-place-len.false, papers_count c.args.self.now.papers)) o (subst (λ b. Piece (paper_at b.papers c.args.paper) c.args.path.now o) c.prepare.ensures.same.held piece)

pub returns-then-place-len-clause-answer : goal.returns-then-place-len-clause-answer
returns-then-place-len-clause-answer c = (_, no_paper (omega (arith, c.if-place-len.true, papers_count c.args.self.now.papers)), c.reject.ensures)

pub returns-in-Some-clause-answer : goal.returns-in-Some-clause-answer
returns-in-Some-clause-answer c = (_, at_paper (goal.at.returns-in-Some-clause-answer c).After-piece (Some c.in-Some.part.now) c.in-Some.ensures, c.append_bytes.ensures)

pub returns-in-None-clause-answer : goal.returns-in-None-clause-answer
returns-in-None-clause-answer c = (_, at_paper (goal.at.returns-in-None-clause-answer c).After-piece None c.in-None.ensures, c.append_none.ensures)
