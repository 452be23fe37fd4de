-- Certificates, who issues whom, and the chains that lead up to a trust anchor.
use Rattle.std.specs.Prelude.{◌≡◌, ℕ, ◌+◌, ◌<◌, ◌≤◌, Bool, true, false, ◌&&◌, List, [], ◌∷◌, length, ◌==◌, nat_le, slice_index, slice_index_or}

-- what a certificate says: its subject, its issuer, its first and its last day, whether its subject may issue certificates, and the most certificates that may stand between it and the first of a chain
pub record Certificate : Type 0 where
  pub subject : ℕ
  pub issuer : ℕ
  pub not_before : ℕ
  pub not_after : ℕ
  pub may_issue : Bool
  pub path_len : ℕ

-- the certificates at hand, numbered from 0 to below count; whether the signature of a under b is valid; which are trust anchors
pub record Pool : Type 0 where
  pub count : ℕ
  pub certificate : ℕ → Certificate
  pub signed : (a b : ℕ) → Bool
  pub anchor : ℕ → Bool

-- a certificate holds from its first day to its last, both included
unfoldable pub holds : Certificate → (day : ℕ) → Bool
holds c day = nat_le c.not_before day && nat_le day c.not_after

-- a is an issuer of b: it may issue, its subject is b's issuer, and its signature under b is valid
unfoldable pub issues : Pool → (a b : ℕ) → Bool
issues p a b = (p.certificate a).may_issue && ((p.certificate a).subject == (p.certificate b).issuer && p.signed a b)

-- b can stand next above a, with k certificates between b and the first of the chain: it is an issuer of a, allows that many between, and holds on the day
unfoldable pub follows : Pool → (day k a b : ℕ) → Bool
follows p day k a b = issues p b a && (nat_le k (p.certificate b).path_len && holds (p.certificate b) day)

-- a list of certificates climbs to a trust anchor, with k certificates between the second one and the first of the chain: each next one can stand above the one before, and the last one is a trust anchor
unfoldable pub climbs : Pool → (day k : ℕ) → List ℕ → Bool
climbs p day k [] = false
climbs p day k (a ∷ []) = p.anchor a
climbs p day k (a ∷ (b ∷ xs)) = follows p day k a b && climbs p day (k + 1) (b ∷ xs)

-- a chain of the pool on a day: it begins with the certificate asked about, which holds, and climbs to a trust anchor
pub record Chain (p : Pool) (day first : ℕ) (xs : List ℕ) : Type 0 where
  pub begins : slice_index_or xs 0 0 ≡ first
  pub known : (i : ℕ) → i < length xs → slice_index xs i < p.count
  pub holding : holds (p.certificate first) day ≡ true
  pub climb : climbs p day 0 xs ≡ true

-- a chain such that none is shorter
pub record Shortest (p : Pool) (day first : ℕ) (xs : List ℕ) : Type 0 where
  pub chain : Chain p day first xs
  pub least : (ys : List ℕ) → Chain p day first ys → length xs ≤ length ys

-- q has all that p has, and perhaps more certificates after them, more valid signatures, more trust anchors
pub record Extends (p q : Pool) : Type 0 where
  pub counts : p.count ≤ q.count
  pub same : (a : ℕ) → a < p.count → q.certificate a ≡ p.certificate a
  pub signatures : (a b : ℕ) → a < p.count → b < p.count → p.signed a b ≡ true → q.signed a b ≡ true
  pub anchors : (a : ℕ) → a < p.count → p.anchor a ≡ true → q.anchor a ≡ true
