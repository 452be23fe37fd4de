-- Why the input of a pool is rejected and where, in plain words; `pool_rejection_stands` proves that the definitions in Rejections and Places say this.
use Rattle.std.specs.Prelude.{◌≡◌, ℕ, ◌+◌, ◌*◌, ◌<◌, ◌≤◌, ◌≢◌, ◌⊎◌, ◌↔◌, length, slice_index, Some, None}
use Rattle.chain.specs.declared.input.Rejection.TheVariants.{Certificates, Marks}
use Rattle.chain.specs.Inputs.{most, Input}
use Rattle.chain.specs.Places.{CertificatesPlace, MarksPlace}
use Rattle.chain.specs.Rejections.{pool_rejection}

-- reason 1: there is no certificate, there are more than `most`, the numbers are not six for each, or some may_issue is above 1
pub data BadCertificates (i : Input) : Type 0 where
  none : i.count ≡ 0 → BadCertificates i
  many : most < i.count → BadCertificates i
  numbers : (length i.certificates ≢ 6 * i.count) → BadCertificates i
  may_issue : (a : ℕ) → a < i.count → 1 < slice_index i.certificates (6 * a + 4) → BadCertificates i

-- reason 2: there is not a signature mark for each two certificates, not an anchor mark for each, or some mark is above 1
pub data BadMarks (i : Input) : Type 0 where
  signatures : (length i.signatures ≢ i.count * i.count) → BadMarks i
  anchors : (length i.anchors ≢ i.count) → BadMarks i
  signature : (k : ℕ) → k < length i.signatures → 1 < slice_index i.signatures k → BadMarks i
  anchor : (k : ℕ) → k < length i.anchors → 1 < slice_index i.anchors k → BadMarks i

-- certificate a is not there whole, or its may_issue is above 1
abbrev pub FaultyCertificate : Input → (a : ℕ) → Type 0
FaultyCertificate i a = (length i.certificates < 6 * a + 6) ⊎ (1 < slice_index i.certificates (6 * a + 4))

-- the place of reason 1: 0 if there is no certificate, `most` if there are more, else the first faulty certificate, or their count if none is and numbers are left over
pub data CertificatesFault (i : Input) (at : ℕ) : Type 0 where
  no_certificate : i.count ≡ 0 → at ≡ 0 → CertificatesFault i at
  too_many : most < i.count → at ≡ most → CertificatesFault i at
  faulty_certificate : i.count ≤ most → at < i.count → FaultyCertificate i at → ((a : ℕ) → a < at → FaultyCertificate i a → ⊥) → CertificatesFault i at
  left_over : i.count ≤ most → at ≡ i.count → 6 * i.count < length i.certificates → ((a : ℕ) → a < i.count → FaultyCertificate i a → ⊥) → CertificatesFault i at

-- the place of reason 2: how many signature marks or anchor marks there are if that is wrong, else the first mark above 1, signatures before anchors
pub data MarksFault (i : Input) (at : ℕ) : Type 0 where
  signature_count : (length i.signatures ≢ i.count * i.count) → at ≡ length i.signatures → MarksFault i at
  anchor_count : length i.signatures ≡ i.count * i.count → (length i.anchors ≢ i.count) → at ≡ length i.anchors → MarksFault i at
  bad_signature : length i.signatures ≡ i.count * i.count → length i.anchors ≡ i.count → at < length i.signatures → 1 < slice_index i.signatures at → ((k : ℕ) → k < at → slice_index i.signatures k ≤ 1) → MarksFault i at
  bad_anchor : length i.signatures ≡ i.count * i.count → length i.anchors ≡ i.count → ((k : ℕ) → k < length i.signatures → slice_index i.signatures k ≤ 1) → at < length i.anchors → 1 < slice_index i.anchors at → ((k : ℕ) → k < at → slice_index i.anchors k ≤ 1) → MarksFault i at

-- a rejection says that its reason applies and no earlier one does, and its place is the fault
pub record PoolRejections (i : Input) : Type 0 where
  pub certificates : (pool_rejection i ≡ Some Certificates) ↔ BadCertificates i
  pub marks : (pool_rejection i ≡ Some Marks) ↔ ((BadCertificates i → ⊥) × BadMarks i)
  pub none : (pool_rejection i ≡ None) ↔ ((BadCertificates i → ⊥) × (BadMarks i → ⊥))
  pub certificates_place : (at : ℕ) → BadCertificates i → CertificatesPlace i at → CertificatesFault i at
  pub marks_place : (at : ℕ) → BadMarks i → MarksPlace i at → MarksFault i at
