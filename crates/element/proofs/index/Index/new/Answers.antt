use Rattle.std.proofs.Common.{◌∙◌}
use Rattle.std.proofs.lemmas.Bool.{false≢true}
use Rattle.element.proofs.Entries.{no_bytes, index_well, index_ill}
use Rattle.element.proofs.index.Index.new.Goals as goal
use Rattle.element.proofs.index.Index.new.Goals.{in-Well+in_ok-row-in-Well, in-Ill}

pub returns-in_err-row-in-Well-clause-quiet : goal.returns-in_err-row-in-Well-clause-quiet
returns-in_err-row-in-Well-clause-quiet c = λ none. absurd (false≢true (c.in_err-row-in-Well.ensures.quiet (c.new.ensures.rest ∙ no_bytes none c.in-Well.ensures)))

pub returns-clause-index : goal.returns-clause-index
returns-clause-index c =
    elim c.match-verdict.branch [
      | in-Well+in_ok-row-in-Well w ↦ rw w.row-is (index_well _ _ w.new.result c.judge-verdict.ensures w.in-Well.ensures w.new.ensures.rest w.new.ensures.place w.in_ok-row-in-Well.ensures.noted)
      | in-Ill w ↦ rw w.row-is (index_ill _ _ c.judge-verdict.ensures w.in-Ill.ensures.0 w.new-row.ensures.items)
    ]
