-- The laws of permits. Each is the contract of a function of the crate.
use Rattle.std.specs.Prelude.{◌≡◌, ℕ, ◌^◌, ◌<◌, ◌≤◌, true, List, length, Some, Option}
use Rattle.format.specs.Elements.{all_bytes, Reads}
use Rattle.trust.specs.Chains.{Certificate}
use Rattle.element.specs.Limits.{deepest, longest}
use Rattle.certificate.specs.declared.Certificate.{Certificate as CertificateFields}
use Rattle.certificate.specs.Numbers.{number_bytes, bytes_value}
use Rattle.certificate.specs.Permits.{permit_row, permit_bytes, certificate_of, InRange, Decoded}

-- the bytes of a number have its value, and of all bytes with that value, one at least, they are the fewest
pub record FewestBytes (n : ℕ) (bytes : List ℕ) : Type 0 where
  pub each : all_bytes bytes ≡ true
  pub value : bytes_value bytes ≡ n
  pub some : 0 < length bytes
  pub fewest : (other : List ℕ) → all_bytes other ≡ true → bytes_value other ≡ n → 0 < length other → length bytes ≤ length other

abbrev pub NumberBytes : Type 0
NumberBytes = (n : ℕ) → n < 2 ^ 32 → FewestBytes n (number_bytes n)

-- bytes are the permit of one certificate or of none
abbrev pub OnePermit : Type 0
OnePermit = (c d : Certificate) → InRange c → InRange d → permit_bytes c ≡ permit_bytes d → c ≡ d

-- the bytes of a permit are well-formed, and read as its row
abbrev pub PermitReads : Type 0
PermitReads = (c : Certificate) → InRange c → Reads deepest longest (permit_bytes c) (permit_row c)

-- decoding the bytes of a certificate gives that certificate
abbrev pub DecodesBack : Type 0
DecodesBack = (h : CertificateFields) (answer : Option CertificateFields) → InRange (certificate_of h) → Decoded (permit_bytes (certificate_of h)) answer → answer ≡ Some h
