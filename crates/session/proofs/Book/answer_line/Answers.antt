use Rattle.session.proofs.Passes.{passed_same}
use Rattle.session.proofs.Book.answer_line.Goals as goal

pub returns-clause-passed : goal.returns-clause-passed
returns-clause-passed c =
    let same = c.answer_turn-answered.ensures.same in
    passed_same _ _ _ _ _ _ _ same.held same.all_read c.answer_turn.ensures.passed
