-- What the numbers of each call tell.
use Rattle.std.proofs.Common.{◌≡◌, ℕ, ◌+◌, ◌<◌, ◌≤◌, ⊎_elim, List, [], ◌++◌, length, take, drop, Some, None, Option, Ok, Err, Result, sym, refl, ap, ◌∙◌, subst, append-nil, take-append-drop, arith, length-take, length-drop}
use Rattle.std.proofs.lemmas.Bool.{cases_lt}
use Rattle.format.specs.Elements.{Row, Reads, written}
use Rattle.format.specs.Paths.{at_path}
use Rattle.format.specs.Viable.{Viable, IllAt}
use Rattle.format.proofs.Viability.{viable_before, same_place}
use Rattle.format.proofs.Places.{some_bytes}
use Rattle.trust.specs.Chains.{Pool}
use Rattle.trust.proofs.Means.{links}
use Rattle.element.specs.Judged.{Judged}
use Rattle.element.specs.Limits.{deepest, longest}
use Rattle.element.specs.Located.{Leads, Located}
use Rattle.element.specs.declared.judging.Verdict.{Verdict}
use Rattle.element.specs.declared.judging.Verdict.TheVariants.{Well, Ill}
use Rattle.element.specs.declared.paths.Span.{Span}
use Rattle.chain.specs.Inputs.{Input, pool}
use Rattle.chain.specs.Rejections.{rejection_number}
use Rattle.chain.specs.declared.input.Rejection.{Rejection}
use Rattle.chain.specs.declared.input.Rejection.TheVariants.{Certificates, Marks, Unknown, Buffer}
use Rattle.shortest.specs.Answers.{Answers, InBuffer}
use Rattle.shortest.specs.Laws.{Grows}
use Rattle.shortest.proofs.Growth.{more_answers}
use Rattle.gate.specs.declared.SpanNumbers.{SpanNumbers}
use Rattle.gate.specs.declared.ChainNumbers.{ChainNumbers}
use Rattle.gate.specs.Numbers.{verdict_number, span_numbers, answer_numbers, JudgeCall, PieceCall, ChainCall}
use Rattle.gate.specs.Promise.{JudgeTells, PieceTells, ChainTells, MoreCalls, Gate}

-- bytes that read as a row are malformed nowhere
never_ill : (d m : ℕ) (b : List ℕ) (row : Row) (k : ℕ) → Reads d m b row → IllAt d m b k → ⊥
never_ill d m b row k r h =
    let all : Viable d m (take (k + 1) b ++ drop (k + 1) b) = ([], row, subst (λ l. Reads d m l row) (sym (append-nil _ ∙ take-append-drop (k + 1) b)) r) in
    ⊎_elim (λ l. h.here l (viable_before d m (take (k + 1) b) (drop (k + 1) b) all)) (λ l. h.end (omega (arith, h.within)) row r) (cases_lt k (length b))

verdict_same : (bytes : List ℕ) (v w : Verdict) → Judged bytes v → Judged bytes w → verdict_number w ≡ verdict_number v
verdict_same bytes Well Well h g = refl
verdict_same bytes Well (Ill k) h g = absurd (g.0 h.0 h.1)
verdict_same bytes (Ill at) Well h g = absurd (h.0 g.0 g.1)
verdict_same bytes (Ill at) (Ill k) h g = ap (λ n. n + 1) (same_place deepest longest bytes k at g.1 h.1)

verdict_tells : (bytes : List ℕ) (v : Verdict) → Judged bytes v → JudgeTells bytes (verdict_number v)
verdict_tells bytes Well h = record {
  well = (λ e. h, λ r. refl);
  ill = λ k. (λ e. absurd (omega arith), λ i. absurd (never_ill deepest longest bytes h.0 k h.1 i));
  same = λ other call. call.2 ∙ verdict_same bytes Well call.0 h call.1;
}
verdict_tells bytes (Ill at) h = record {
  well = (λ e. absurd (omega arith), λ r. absurd (h.0 r.0 r.1));
  ill = λ k. (λ e. let same : at ≡ k = omega arith in subst (IllAt deepest longest bytes) same h.1, λ i. ap (λ n. n + 1) (same_place deepest longest bytes at k h.1 i));
  same = λ other call. call.2 ∙ verdict_same bytes (Ill at) call.0 h call.1;
}

judge_tells : (bytes : List ℕ) (answer : ℕ) → JudgeCall bytes answer → JudgeTells bytes answer
judge_tells bytes answer call = subst (JudgeTells bytes) (sym call.2) (verdict_tells bytes call.0 call.1)

span_tells : (bytes path : List ℕ) (o : Option Span) → Located bytes path o → PieceTells bytes path (span_numbers o)
span_tells bytes path None h = record { none = (λ e. h, λ n. refl); nowhere = λ e. refl; some = λ l. absurd (omega arith); within = omega arith }
span_tells bytes path (Some s) h =
    let whole : List ℕ = h.0 in
    let leads = h.1 in
    let some = some_bytes (at_path leads.row path) leads.some in
    let size : length whole ≡ length (written (at_path leads.row path)) = ap length leads.is in
    record {
      none = (λ e. absurd (omega (arith, h.2)), λ n. absurd (leads.some (n leads.row leads.reads)));
      nowhere = λ e. absurd (omega (arith, h.2));
      some = λ l. subst (Leads bytes path s.at) (leads.part ∙ ap (λ n. take n (drop s.at bytes)) (sym h.2)) leads;
      within = omega (arith, ap length leads.part, length-take (length whole) (drop s.at bytes), length-drop s.at bytes, h.2, some, size);
    }

piece_tells : (bytes path : List ℕ) (answer : SpanNumbers) → PieceCall bytes path answer → PieceTells bytes path answer
piece_tells bytes path answer call = subst (PieceTells bytes path) (sym call.2) (span_tells bytes path call.0 call.1)

-- rejections are numbered from 1
number_some : (r : Rejection) → 0 < rejection_number r
number_some Certificates = omega arith
number_some Marks = omega arith
number_some Unknown = omega arith
number_some Buffer = omega arith

-- a chain has a certificate at least
chain_some : (p : Pool) (day first k : ℕ) (old new : List ℕ) → InBuffer p day first k old new → 0 < k
chain_some p day first k old new w = omega (arith, (links p day first (take k new) w.shortest.chain).some, w.count)

module _ (i : Input) (day first : ℕ) (old new : List ℕ) where
  answer_tells : (a : Result (Option ℕ) Rejection) → Answers i day first old new a → ChainTells i day first old new (answer_numbers a)
  answer_tells (Ok (Some k)) h =
      let some = chain_some (pool i) day first k old new h.1 in
      record { none = λ e z. absurd (omega arith); some = λ e l. h.1; accepted = (λ e. h.0, λ n. refl); rejected = λ l. absurd (omega arith); unchanged = λ z. absurd (omega arith) }
  answer_tells (Ok None) h = record { none = λ e z. h.1.1; some = λ e l. absurd (omega arith); accepted = (λ e. h.0, λ n. refl); rejected = λ l. absurd (omega arith); unchanged = λ z. h.1.0 }
  answer_tells (Err r) h =
      let some = number_some r in
      record { none = λ e z. absurd (omega arith); some = λ e l. absurd (omega arith); accepted = (λ e. absurd (omega arith), λ n. let other : Some r ≡ None = sym h.0 ∙ n in cc); rejected = λ l. (r, h.0, refl, refl); unchanged = λ z. h.1 }

  chain_tells : (answer : ChainNumbers) → ChainCall i day first old new answer → ChainTells i day first old new answer
  chain_tells answer call = subst (ChainTells i day first old new) (sym call.2) (answer_tells call.0 call.1)

  module _ (j : Input) (before after : List ℕ) (grows : Grows i j) where
    answer_kept : (a b : Result (Option ℕ) Rejection) → Answers i day first old new a → Answers j day first before after b → (answer_numbers a).rejection ≡ 0 → 0 < (answer_numbers a).len → (answer_numbers b).rejection ≡ 0 → (0 < (answer_numbers b).len) × ((answer_numbers b).len ≤ (answer_numbers a).len)
    answer_kept (Ok (Some k)) (Ok (Some l)) h g e s f =
        let r = more_answers i j day first old new before after k (Ok (Some l)) grows h g g.0 in
        let same : l ≡ r.0 = cc in
        (chain_some (pool j) day first l before after g.1, omega (arith, r.2))
    answer_kept (Ok (Some k)) (Ok None) h g e s f =
        let r = more_answers i j day first old new before after k (Ok None) grows h g g.0 in
        let other : Ok (Some r.0) ≡ Ok None = sym r.1 in
        cc
    answer_kept (Ok (Some k)) (Err why) h g e s f = absurd (omega (arith, number_some why))
    answer_kept (Ok None) b h g e s f = absurd (omega arith)
    answer_kept (Err why) b h g e s f = absurd (omega (arith, number_some why))

-- the fields of a call's answer are those of its numbers
call_rejection : (answer : ChainNumbers) (a : Result (Option ℕ) Rejection) → answer ≡ answer_numbers a → answer.rejection ≡ (answer_numbers a).rejection
call_rejection answer a e = ap (λ (x : ChainNumbers). x.rejection) e

call_len : (answer : ChainNumbers) (a : Result (Option ℕ) Rejection) → answer ≡ answer_numbers a → answer.len ≡ (answer_numbers a).len
call_len answer a e = ap (λ (x : ChainNumbers). x.len) e

more_calls : MoreCalls
more_calls i j day first old new before after answer other g a b well some rejected =
    let lens = call_len answer a.0 a.2 in
    let other_lens = call_len other b.0 b.2 in
    let kept = answer_kept i day first old new j before after g a.0 b.0 a.1 b.1 (sym (call_rejection answer a.0 a.2) ∙ well) (omega arith) (sym (call_rejection other b.0 b.2) ∙ rejected) in
    (omega (arith, kept.0), omega (arith, kept.1))

pub gate : Gate
gate = record { judge = judge_tells; piece = piece_tells; chain = chain_tells; more = more_calls }
