use Rattle.std.specs.Prelude.{◌↔◌}
use Rattle.std.specs.List.{All}
use Rattle.std.proofs.Common.{◌≡◌, [], length, map, vec_items, true, sym, ap, ◌∙◌, subst, arith, rules}
use Rattle.text.specs.Meaning.{meaning}
use Rattle.text.specs.Tokens.{lines}
use Rattle.text.specs.declared.command.Head.TheVariants as head
use Rattle.session.specs.Books.{Numbers, brought}
use Rattle.session.specs.inner.Held.{added, held}
use Rattle.session.specs.inner.Passing.{Readable}
use Rattle.session.proofs.Gathered.{added_none, gathered_more, gathered_all, read_down, read_up, other_brings}
use Rattle.session.proofs.Quiet.{rest_quiet, quiet_papers, no_first_permit}
use Rattle.session.proofs.Book.read.Goals as goal
use Rattle.session.proofs.Book.read.Goals.{After-deref}

pub loop-line-preserved-in-Continue-1 : goal.loop-line-preserved-in-Continue-1
loop-line-preserved-in-Continue-1 c =
    let step = c.in-Some.ensures.steps in
    let noted = c.in_ok-note_line.ensures in
    let (quiet, indexed, gathered) = c.loop-line.invariant in
    let some : (c.read_head.result ≡ head.Other → ⊥) = search rules in (
      λ q. rest_quiet _ _ _ step (quiet q),
      noted.no_index ∙ indexed,
      gathered_more _ _ _ _ _ _ _ _ gathered step noted.held
          (λ t. let (before, m, e) = read_down _ _ (sym noted.all_read ∙ t) in (before, λ other. (m, e)))
          (λ t here. let (m, e) = here (λ e. some (c.read_head.ensures.words ∙ e)) in noted.all_read ∙ read_up _ _ t m e),
    )

pub loop-line-preserved : goal.loop-line-preserved
loop-line-preserved c =
    let step = c.in-Some.ensures.steps in
    let (quiet, indexed, gathered) = c.loop-line.invariant in
    let was = held c.loop-line.book in
    let other : c.read_head.result ≡ head.Other = search rules in
    let none = other_brings (meaning c.in-Some.line.now) (λ m e. sym other ∙ c.read_head.ensures.said m e) in
    (λ q. rest_quiet _ _ _ step (quiet q), indexed, gathered_more _ _ _ _ _ _ _ _ gathered step (added_none was ∙ ap (added was) (sym none)) (λ t. (t, λ some. absurd (some (sym c.read_head.ensures.words ∙ other)))) (λ t here. t))

-- the whole text is gathered
all_gathered : (c : After-deref) → (held c.loop-line.book ≡ brought c.args.text.now) × (c.loop-line.book.all_read ≡ true ↔ All Readable (lines c.args.text.now))
all_gathered c = gathered_all _ _ _ _ c.loop-line.invariant.2 c.in-None.ensures.steps.0

pub returns-in_err-book-clause-quiet : goal.returns-in_err-book-clause-quiet
returns-in_err-book-clause-quiet c = λ q.
    let whole = (all_gathered (goal.at.returns-in_err-book-clause-quiet c).After-deref).0 in
    let none : map vec_items c.deref.result.now ≡ [] = ap (map vec_items) c.deref.ensures.value ∙ ap (λ b. b.papers) whole ∙ quiet_papers (lines c.args.text.now) q in
    let ok = c.in_err-book.ensures.quiet (no_first_permit _ none) in
    absurd cc

pub returns-clause-read : goal.returns-clause-read
returns-clause-read c =
    let all = all_gathered (goal.at.returns-clause-read c).After-deref in
    record {
      whole = all.0;
      numbers = subst (λ l. Numbers (map vec_items l) (vec_items c.in_ok-book.field-0)) c.deref.ensures.value c.in_ok-book.ensures.numbers;
      indexed = λ i less. absurd (omega (arith, ap length c.loop-line.invariant.1));
      readable = all.1;
    }
