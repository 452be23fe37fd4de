use Rattle.std.proofs.Common.{◌<◌, vec_len, option_map, ◌∙◌, subst, arith}
use Rattle.element.specs.Located.{Piece}
use Rattle.session.proofs.Chaining.{papers_count, paper_at}
use Rattle.session.proofs.Book.piece.Goals as goal

pub returns-2 : goal.returns-2
returns-2 c =
    let papers = c.args.self.now.papers in
    let less : c.args.place < vec_len papers = omega (arith, c.requires.there, papers_count papers) in
    subst (λ b. Piece b c.args.path.now (option_map (λ part. part.now) c.piece-2.result)) (c.deref-3.ensures.value ∙ paper_at papers c.args.place c.index-bytes.result.now less c.index-bytes.ensures) c.piece-2.ensures
