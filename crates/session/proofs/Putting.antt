-- An answer of which the writer has a front.
use Rattle.std.proofs.Common.{◌≡◌, List, ℕ, ◌++◌, Ok, Err, Option, Result, sym, ◌∙◌, subst}
use Rattle.std.specs.Result.{IsErrAnd}
use Rattle.std.specs.Io.KnownBytes as io
use Rattle.std.specs.declared.io.Error.{Error}
use Rattle.session.specs.declared.error.AnswerError.{AnswerError}
use Rattle.session.specs.declared.error.AnswerError.TheVariants.{Write}
use Rattle.session.specs.inner.Puts.{Puts, PutsIfOk, WritesOne}

pub cut_off : {T : Type 0} (A : List ℕ → Type 0) (r : Result T AnswerError) (error : Error) (bytes text : List ℕ) (old new : Option (List ℕ)) → IsErrAnd r (λ x. x ≡ Write error) → A text → bytes ≡ text → (front rest : List ℕ) × (bytes ≡ front ++ rest) × io.Appends old new front → WritesOne {T = T} A r old new
cut_off A (Ok u) error bytes text old new h a e f = absurd h
cut_off {T = T} A (Err x) error bytes text old new h a e f = subst (λ y. WritesOne {T = T} A (Err y) old new) (sym h) (f.0, f.1, subst A (sym e ∙ f.2) a, f.3)

-- an answer of which a front is in memory is whole if memory does not run out
pub on_ok : {T E : Type 0} (A : List ℕ → Type 0) (r : Result T E) (old new : List ℕ) → Puts A r old new → PutsIfOk A r old new
on_ok A (Ok x) old new p = p
on_ok A (Err e) old new p = tt
