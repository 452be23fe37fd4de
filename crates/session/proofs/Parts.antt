-- The part of an answer that is one line's.
use Rattle.std.proofs.Common.{◌≡◌, ℕ, suc, ◌+◌, List, [], ◌∷◌, ◌++◌, length, refl, sym, ap, ◌∙◌, subst, append_assoc, arith}
use Rattle.text.specs.Meaning.{meaning}
use Rattle.session.specs.Books.{Brought, brought}
use Rattle.session.specs.Answers.{Answered, AnsweredLines}
use Rattle.session.specs.Promise.{EachLine}

module _ (b : Brought) (numbers : List ℕ) where
  record Parts (n : ℕ) (front : List (List ℕ)) (line : List ℕ) (back : List (List ℕ)) (answer : List ℕ) : Type 0 where
    before : List ℕ
    said : List ℕ
    after : List ℕ
    are : answer ≡ before ++ (said ++ after)
    front_answers : AnsweredLines b numbers n front before
    answered : Answered b numbers (n + length front) (meaning line) said
    back_answers : AnsweredLines b numbers (suc (n + length front)) back after

  parts : (n : ℕ) (front : List (List ℕ)) (line : List ℕ) (back : List (List ℕ)) (answer : List ℕ) → AnsweredLines b numbers n (front ++ line ∷ back) answer → Parts n front line back answer
  parts n [] line back answer (first, rest, one, others, is) =
      let here : n ≡ n + 0 = omega arith in
      record { before = []; said = first; after = rest; are = is; front_answers = refl; answered = subst (λ k. Answered b numbers k (meaning line) first) here one; back_answers = subst (λ k. AnsweredLines b numbers (suc k) back rest) here others }
  parts n (l ∷ front) line back answer (first, rest, one, others, is) =
      let p = parts (suc n) front line back rest others in
      let here : suc n + length front ≡ n + length (l ∷ front) = omega arith in
      record {
        before = first ++ p.before;
        said = p.said;
        after = p.after;
        are = is ∙ ap (λ a. first ++ a) p.are ∙ sym (append_assoc first p.before (p.said ++ p.after));
        front_answers = (first, p.before, one, p.front_answers, refl);
        answered = subst (λ k. Answered b numbers k (meaning line) p.said) here p.answered;
        back_answers = subst (λ k. AnsweredLines b numbers (suc k) back p.after) here p.back_answers;
      }

pub each_line : EachLine
each_line text answer a front line back split m says =
    let p = parts (brought text) a.numbers 0 front line back answer (subst (λ ls. AnsweredLines (brought text) a.numbers 0 ls answer) split a.answers) in
    let here : 0 + length front ≡ length front = omega arith in (
      p.said,
      record {
        numbers = a.numbers;
        numbered = a.numbered;
        front = front;
        line = line;
        back = back;
        split = split;
        says = says;
        before = p.before;
        after = p.after;
        parts = p.are;
        front_answers = p.front_answers;
        answered = subst (λ o. Answered (brought text) a.numbers (length front) o p.said) says (subst (λ k. Answered (brought text) a.numbers k (meaning line) p.said) here p.answered);
        back_answers = subst (λ k. AnsweredLines (brought text) a.numbers (suc k) back p.after) here p.back_answers;
      },
      refl,
    )
