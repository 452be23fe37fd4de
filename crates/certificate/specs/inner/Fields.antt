-- What the private functions answer that read and write the fields of a permit.
use Rattle.std.specs.Prelude.{◌≡◌, ℕ, ◌^◌, ◌<◌, Bool, true, false, cond, List, ◌++◌, Some, None, Option, Ok, Err, Result, ◌==◌, ◌≢◌}
use Rattle.format.specs.Elements.{framed, written}
use Rattle.trust.specs.Chains.{Certificate}
use Rattle.element.specs.declared.walking.Cursor.{Cursor}
use Rattle.element.specs.Cursors.{ahead}
use Rattle.element.specs.declared.writing.WriteError.{WriteError}
use Rattle.element.specs.declared.writing.WriteError.TheVariants.{Tag, Length, Contents, Memory}
use Rattle.certificate.specs.declared.Certificate.{Certificate as CertificateFields}
use Rattle.certificate.specs.Numbers.{number_bytes}
use Rattle.certificate.specs.Permits.{fields_row, InRange, certificate_of}

-- the number whose bytes these are; none exactly if they are no number's
abbrev pub Numbered : List ℕ → Option ℕ → Type 0
Numbered b (Some n) = (n < 2 ^ 32) × (number_bytes n ≡ b)
Numbered b None = (n : ℕ) → n < 2 ^ 32 → number_bytes n ≢ b

-- a flag is 0 for no and 1 for yes
abbrev pub flag_of : ℕ → Option Bool
flag_of n = cond (n == 0) (Some false) (cond (n == 1) (Some true) None)

-- a field with this tag and this number comes first, and the cursor goes past it
pub record SaysField (c : Cursor) (tag n : ℕ) (after : Cursor) : Type 0 where
  pub range : n < 2 ^ 32
  pub front : ahead c ≡ framed tag (number_bytes n) ++ ahead after

-- the number in the next field; none exactly if no field with this tag and a number comes first
abbrev pub NextField : Cursor → (tag : ℕ) → Option ℕ → Cursor → Type 0
NextField c tag (Some n) after = SaysField c tag n after
NextField c tag None after = (n : ℕ) (behind : List ℕ) → n < 2 ^ 32 → ahead c ≢ framed tag (number_bytes n) ++ behind

-- the certificate whose fields are all that is ahead; none exactly if there is no such certificate
abbrev pub AllFields : Cursor → Option CertificateFields → Type 0
AllFields s (Some h) = InRange (certificate_of h) × (written (fields_row (certificate_of h)) ≡ ahead s)
AllFields s None = (c : Certificate) → InRange c → written (fields_row c) ≢ ahead s

-- a field with this tag and this number was appended to the old bytes
pub record AppendedField (tag n : ℕ) (old new : List ℕ) : Type 0 where
  pub range : n < 2 ^ 32
  pub behind : new ≡ old ++ framed tag (number_bytes n)

-- a result of writing whose only error is out of memory
abbrev pub OnlyMemory : Result Unit WriteError → Type 0
OnlyMemory (Ok _) = Unit
OnlyMemory (Err Tag) = ⊥
OnlyMemory (Err Length) = ⊥
OnlyMemory (Err Contents) = ⊥
OnlyMemory (Err (Memory _)) = Unit
