-- The bytes of a permit.
use Rattle.std.specs.Prelude.{◌≡◌, ℕ, ◌^◌, ◌<◌, Bool, cond, List, [], ◌∷◌, Some, None, Option}
use Rattle.format.specs.Elements.{Row, empty, primitive, constructed, written}
use Rattle.trust.specs.Chains.{Certificate}
use Rattle.certificate.specs.declared.Certificate.{Certificate as CertificateFields}
use Rattle.certificate.specs.declared.Field.{Field}
use Rattle.certificate.specs.declared.Field.TheVariants.{Subject, Issuer, NotBefore, NotAfter, MayIssue, PathLen}
use Rattle.certificate.specs.Numbers.{number_bytes}

-- a yes or no is one byte: 1 for yes, 0 for no
abbrev pub flag_bytes : Bool → List ℕ
flag_bytes b = cond b 1 0 ∷ []

-- the tag of a field
abbrev pub tag_of : Field → ℕ
tag_of Subject = 1
tag_of Issuer = 2
tag_of NotBefore = 3
tag_of NotAfter = 4
tag_of MayIssue = 5
tag_of PathLen = 6

-- six fields, each a primitive element, in the order of their tags
unfoldable pub fields_row : Certificate → Row
fields_row c =
    primitive (tag_of Subject) (number_bytes c.subject)
    (primitive (tag_of Issuer) (number_bytes c.issuer)
    (primitive (tag_of NotBefore) (number_bytes c.not_before)
    (primitive (tag_of NotAfter) (number_bytes c.not_after)
    (primitive (tag_of MayIssue) (flag_bytes c.may_issue)
    (primitive (tag_of PathLen) (number_bytes c.path_len) empty)))))

-- the tag of a permit
abbrev pub permit_tag : ℕ
permit_tag = 128

-- a permit is one constructed element, its contents the fields
unfoldable pub permit_row : Certificate → Row
permit_row c = constructed permit_tag (fields_row c) empty

-- the bytes of a certificate
abbrev pub permit_bytes : Certificate → List ℕ
permit_bytes c = written (permit_row c)

-- each number of the certificate fits into four bytes
pub record InRange (c : Certificate) : Type 0 where
  pub subject : c.subject < 2 ^ 32
  pub issuer : c.issuer < 2 ^ 32
  pub not_before : c.not_before < 2 ^ 32
  pub not_after : c.not_after < 2 ^ 32
  pub path_len : c.path_len < 2 ^ 32

-- the bytes are the permit of the certificate
pub record Permit (bytes : List ℕ) (c : Certificate) : Type 0 where
  pub range : InRange c
  pub is : permit_bytes c ≡ bytes

-- the certificate that the struct of the code stands for
abbrev pub certificate_of : CertificateFields → Certificate
certificate_of h = record {
  subject = h.subject;
  issuer = h.issuer;
  not_before = h.not_before;
  not_after = h.not_after;
  may_issue = h.may_issue;
  path_len = h.path_len;
}

-- the certificate whose permit the bytes are; none exactly if they are no permit
abbrev pub Decoded : List ℕ → Option CertificateFields → Type 0
Decoded b (Some h) = Permit b (certificate_of h)
Decoded b None = (c : Certificate) → Permit b c → ⊥
