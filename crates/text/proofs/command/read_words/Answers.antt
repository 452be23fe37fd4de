use Rattle.std.proofs.Common.{sym, ap, ◌∙◌, subst}
use Rattle.std.specs.Option.{option_map}
use Rattle.text.specs.Meaning.{says, paper, seals, trusted}
use Rattle.text.specs.Reading.{ReadsAs, StoresWords}
use Rattle.text.specs.Tokens.{words}
use Rattle.text.specs.declared.command.Key.TheVariants.{Paper, Seals, Trusted, Piece}
use Rattle.text.proofs.Sentences.{said_behind, stored_behind}
use Rattle.text.proofs.Values.{fails_within, reads_more}
use Rattle.text.proofs.command.read_words.Goals as goal

pub returns-in_err-read_bytes-in-Paper : goal.returns-in_err-read_bytes-in-Paper
returns-in_err-read_bytes-in-Paper c =
    let key = sym c.read_key.ensures ∙ c.in-Paper.is in
    fails_within _ _ _ _ _ _ _ c.from_residual.ensures.1 c.in_err-read_bytes-in-Paper.ensures (λ none. said_behind _ _ _ Paper c.in-Some.ensures.steps key ∙ ap (option_map paper) none) (stored_behind _ _ _ Paper c.in-Some.ensures.steps key)

pub returns-in_err-read_marks-in-Seals : goal.returns-in_err-read_marks-in-Seals
returns-in_err-read_marks-in-Seals c =
    let key = sym c.read_key.ensures ∙ c.in-Seals.is in
    fails_within _ _ _ _ _ _ _ c.from_residual-in_err-read_marks-in-Seals.ensures.1 c.in_err-read_marks-in-Seals.ensures (λ none. said_behind _ _ _ Seals c.in-Some.ensures.steps key ∙ ap (option_map seals) none) (stored_behind _ _ _ Seals c.in-Some.ensures.steps key)

pub returns-in_err-read_marks-in-Trusted : goal.returns-in_err-read_marks-in-Trusted
returns-in_err-read_marks-in-Trusted c =
    let key = sym c.read_key.ensures ∙ c.in-Trusted.is in
    fails_within _ _ _ _ _ _ _ c.from_residual-in_err-read_marks-in-Trusted.ensures.1 c.in_err-read_marks-in-Trusted.ensures (λ none. said_behind _ _ _ Trusted c.in-Some.ensures.steps key ∙ ap (option_map trusted) none) (stored_behind _ _ _ Trusted c.in-Some.ensures.steps key)

pub returns-in-Piece : goal.returns-in-Piece
returns-in-Piece c =
    let key = sym c.read_key.ensures ∙ c.in-Piece.is in
    subst (λ o. ReadsAs says c.read_piece.result o (StoresWords (words c.args.words.rest.now))) (sym (said_behind _ _ _ Piece c.in-Some.ensures.steps key))
    (reads_more says c.read_piece.result _ _ _ (stored_behind _ _ _ Piece c.in-Some.ensures.steps key) c.read_piece.ensures)
