-- Why a question is rejected and where, in plain words; `rejection_stands` proves that `question_rejection` and `RejectionPlace` say this.
use Rattle.std.specs.Prelude.{◌≡◌, ℕ, ◌≤◌, ◌≢◌, ◌↔◌, Some, None}
use Rattle.chain.specs.Inputs.{Input}
use Rattle.chain.specs.Faults.{BadCertificates, BadMarks, CertificatesFault, MarksFault}
use Rattle.chain.specs.declared.input.Rejection.{Rejection}
use Rattle.chain.specs.declared.input.Rejection.TheVariants.{Certificates, Marks, Unknown, Buffer}
use Rattle.shortest.specs.Answers.{question_rejection}
use Rattle.shortest.specs.Places.{RejectionPlace}

-- reason 3: the certificate asked about is not there
abbrev pub UnknownCertificate : Input → (first : ℕ) → Type 0
UnknownCertificate i first = i.count ≤ first

-- reason 4: the output buffer does not have one number for each certificate
abbrev pub BadBuffer : Input → (size : ℕ) → Type 0
BadBuffer i size = size ≢ i.count

-- the reason applies and no earlier one does
abbrev pub Applies : Rejection → Input → (first size : ℕ) → Type 0
Applies Certificates i first size = BadCertificates i
Applies Marks i first size = (BadCertificates i → ⊥) × BadMarks i
Applies Unknown i first size = (BadCertificates i → ⊥) × (BadMarks i → ⊥) × UnknownCertificate i first
Applies Buffer i first size = (BadCertificates i → ⊥) × (BadMarks i → ⊥) × (UnknownCertificate i first → ⊥) × BadBuffer i size

-- the fault is at this place
abbrev pub FaultAt : Rejection → Input → (first size at : ℕ) → Type 0
FaultAt Certificates i first size at = CertificatesFault i at
FaultAt Marks i first size at = MarksFault i at
FaultAt Unknown i first size at = (at ≡ first) × UnknownCertificate i at
FaultAt Buffer i first size at = (at ≡ size) × BadBuffer i at

-- a question is rejected for the first reason that applies and at its fault, and not at all exactly if no reason applies
pub record Rejections (i : Input) (first size : ℕ) : Type 0 where
  pub reason : (why : Rejection) → (question_rejection i first size ≡ Some why) ↔ Applies why i first size
  pub none : (question_rejection i first size ≡ None) ↔ ((BadCertificates i → ⊥) × (BadMarks i → ⊥) × (UnknownCertificate i first → ⊥) × (BadBuffer i size → ⊥))
  pub place : (why : Rejection) (at : ℕ) → question_rejection i first size ≡ Some why → RejectionPlace why i first size at → FaultAt why i first size at
