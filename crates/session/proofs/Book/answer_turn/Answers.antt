use Rattle.std.proofs.Common.{[], sym, ◌∙◌, subst, append-nil, arith, rules}
use Rattle.session.specs.Answers.{PaperAnswer}
use Rattle.session.specs.inner.Held.{held}
use Rattle.session.proofs.Chaining.{papers_count}
use Rattle.session.proofs.Chaining as chaining
use Rattle.session.proofs.Passes.{left_other, left_marks, marks_answer, paper_read, paper_there, left_paper, paper_answer}
use Rattle.session.proofs.Quiet.{paper_quiet}
use Rattle.session.proofs.Book.answer_turn.Goals as goal

pub index-requires : goal.index-requires
index-requires c =
    let b = c.args.self.now in
    let l = c.requires.left (search rules) in
    let there = paper_there (held b).papers c.args.passed c.args.line.now l.0 l.1 c.in-Paper.ensures.words c.in-Paper.ensures.said in
    omega (arith, there, papers_count b.papers)

pub returns-in_err-answer_paper-in-Paper-clause-quiet : goal.returns-in_err-answer_paper-in-Paper-clause-quiet
returns-in_err-answer_paper-in-Paper-clause-quiet c = λ q.
    let l = c.requires.left (search rules) in
    let p = paper_read (held c.args.self.now).papers c.args.passed c.args.line.now l.0 l.1 c.in-Paper.ensures.words c.in-Paper.ensures.said in
    absurd (paper_quiet _ p.0 p.1 q)

pub returns-in_ok-answer-in-Other-clause-passed : goal.returns-in_ok-answer-in-Other-clause-passed
returns-in_ok-answer-in-Other-clause-passed c = λ read rest l. left_other _ _ _ rest l c.in-Other.ensures.said

pub returns-in-Marks-clause-answer : goal.returns-in-Marks-clause-answer
returns-in-Marks-clause-answer c =
    let b = c.args.self.now in
    let l = c.requires.left (search rules) in
    ([], marks_answer (held b).papers c.args.passed c.args.line.now l.0 l.1 c.in-Marks.ensures.words c.in-Marks.ensures.said (held b) b.numbers.items c.args.number, sym (append-nil c.args.out.now.items))

pub returns-in-Marks-clause-passed : goal.returns-in-Marks-clause-passed
returns-in-Marks-clause-passed c = λ read rest l. left_marks _ _ _ rest l c.in-Marks.ensures.words c.in-Marks.ensures.said

pub returns-in_ok-answer_paper-in-Paper-clause-answer : goal.returns-in_ok-answer_paper-in-Paper-clause-answer
returns-in_ok-answer_paper-in-Paper-clause-answer c =
    let b = c.args.self.now in
    let l = c.requires.left (search rules) in
    let there = paper_there (held b).papers c.args.passed c.args.line.now l.0 l.1 c.in-Paper.ensures.words c.in-Paper.ensures.said in
    let (text, is_answer, is) = c.in_ok-answer_paper-in-Paper.ensures in
    let same = c.deref.ensures.value ∙ chaining.paper_at b.papers c.args.passed c.index.result.now (omega (arith, there, papers_count b.papers)) c.index.ensures in
    (text, paper_answer (held b).papers c.args.passed c.args.line.now l.0 l.1 c.in-Paper.ensures.words c.in-Paper.ensures.said (held b) b.numbers.items c.args.number text (subst (λ bytes. PaperAnswer bytes text) same is_answer), is)

pub returns-in_ok-answer_paper-in-Paper-clause-passed : goal.returns-in_ok-answer_paper-in-Paper-clause-passed
returns-in_ok-answer_paper-in-Paper-clause-passed c = λ read rest l. left_paper _ _ _ rest l c.in-Paper.ensures.words c.in-Paper.ensures.said
