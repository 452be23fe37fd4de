-- The answers of lines, told line by line.
use Rattle.std.proofs.Common.{◌≡◌, ℕ, suc, ◌+◌, List, [], ◌∷◌, ◌++◌, length, sym, refl, ap, ◌∙◌, subst, append_assoc, append-nil, length-append, arith}
use Rattle.text.specs.Meaning.{meaning}
use Rattle.text.specs.Tokens.{lines}
use Rattle.session.specs.Books.{Brought, brought, Numbers}
use Rattle.session.specs.Answers.{Answered, AnsweredLines, AnsweredText, AnsweredFront}

module _ (b : Brought) (numbers : List ℕ) where
  -- one more line is answered behind others
  lines_more : (n : ℕ) (front : List (List ℕ)) (line written text : List ℕ) → AnsweredLines b numbers n front written → Answered b numbers (n + length front) (meaning line) text → AnsweredLines b numbers n (front ++ line ∷ []) (written ++ text)
  lines_more n [] line written text h a =
      (text, [], subst (λ m. Answered b numbers m (meaning line) text) (omega arith) a, refl, ap (λ w. w ++ text) h ∙ sym (append-nil text))
  lines_more n (l ∷ front) line written text h a =
      let (first, rest, one, others, is) = h in
      (first, rest ++ text, one, lines_more (suc n) front line rest text others (subst (λ m. Answered b numbers m (meaning line) text) (omega arith) a), ap (λ w. w ++ text) is ∙ append_assoc first rest text)

  -- what has been written are the answers of the first n lines; the others are left
  pub record Told (all : List (List ℕ)) (written : List ℕ) (n : ℕ) (left : List (List ℕ)) : Type 0 where
    pub front : List (List ℕ)
    pub split : all ≡ front ++ left
    pub count : n ≡ length front
    pub answers : AnsweredLines b numbers 0 front written

  pub told_more : (all : List (List ℕ)) (written text : List ℕ) (n : ℕ) (line : List ℕ) (left : List (List ℕ)) → Told all written n (line ∷ left) → Answered b numbers n (meaning line) text → Told all (written ++ text) (suc n) left
  told_more all written text n line left t a = record {
    front = t.front ++ line ∷ [];
    split = t.split ∙ sym (append_assoc t.front (line ∷ []) left);
    count = omega (arith, t.count, length-append t.front (line ∷ []));
    answers = lines_more 0 t.front line written text t.answers (subst (λ m. Answered b numbers m (meaning line) text) (omega (arith, t.count)) a);
  }

  pub told_all : (all : List (List ℕ)) (written : List ℕ) (n : ℕ) → Told all written n [] → AnsweredLines b numbers 0 all written
  told_all all written n t = subst (λ l. AnsweredLines b numbers 0 l written) (sym (t.split ∙ append-nil t.front)) t.answers

-- nothing is written yet
pub told_none : (text numbers : List ℕ) → Told (brought text) numbers (lines text) [] 0 (lines text)
told_none text numbers = record { front = []; split = refl; count = refl; answers = refl }

module _ (text numbers : List ℕ) (permits : Numbers (brought text).papers numbers) where
  pub text_answered : (written : List ℕ) (n : ℕ) → Told (brought text) numbers (lines text) written n [] → AnsweredText text written
  text_answered written n t = record { numbers = numbers; numbered = permits; answers = told_all (brought text) numbers (lines text) written n t }

  pub front_answered : (written : List ℕ) (n : ℕ) (left : List (List ℕ)) → Told (brought text) numbers (lines text) written n left → AnsweredFront text written
  front_answered written n left t = record { numbers = numbers; numbered = permits; front = t.front; back = left; split = t.split; answers = t.answers }

  pub cut_answered : (written begun unsaid : List ℕ) (n : ℕ) (line : List ℕ) (left : List (List ℕ)) → Told (brought text) numbers (lines text) written n (line ∷ left) → Answered (brought text) numbers n (meaning line) (begun ++ unsaid) → AnsweredFront text ((written ++ begun) ++ unsaid)
  cut_answered written begun unsaid n line left t a =
      subst (AnsweredFront text) (sym (append_assoc written begun unsaid)) (front_answered (written ++ (begun ++ unsaid)) (suc n) left (told_more (brought text) numbers (lines text) written (begun ++ unsaid) n line left t a))
