-- The input of a pool as lists of numbers and marks, and the pool that it says.
use Rattle.std.specs.Prelude.{ℕ, ◌+◌, ◌*◌, ◌&&◌, List, ◌==◌, nat_lt, slice_index}
use Rattle.trust.specs.Chains.{Certificate, Pool}
use Rattle.chain.specs.declared.input.PoolInput.{PoolInput}

-- the most certificates in a pool
abbrev pub most : ℕ
most = 200

-- unchecked input: how many certificates, six numbers for each, a signature mark for each two, an anchor mark for each
pub record Input : Type 0 where
  pub count : ℕ
  pub certificates : List ℕ
  pub signatures : List ℕ
  pub anchors : List ℕ

-- the input of a count and three lists
abbrev pub raw_input : (count : ℕ) → (certificates signatures anchors : List ℕ) → Input
raw_input n cs ss ts = record { count = n; certificates = cs; signatures = ss; anchors = ts }

-- the lists that a `PoolInput` refers to
abbrev pub input_of : PoolInput → Input
input_of p = raw_input p.count p.certificates.now p.signatures.now p.anchors.now

-- a certificate's six numbers, in this order: subject, issuer, first day, last day, 1 if it may issue, path length
abbrev pub certificate_at : List ℕ → ℕ → Certificate
certificate_at xs a = record {
  subject = slice_index xs (6 * a);
  issuer = slice_index xs (6 * a + 1);
  not_before = slice_index xs (6 * a + 2);
  not_after = slice_index xs (6 * a + 3);
  may_issue = (slice_index xs (6 * a + 4) == 1);
  path_len = slice_index xs (6 * a + 5);
}

-- among n certificates the mark of a's signature under b stands at a n + b, a's anchor mark at a; a mark of 1 says yes
abbrev pub pool : Input → Pool
pool i = record {
  count = i.count;
  certificate = certificate_at i.certificates;
  signed = λ a b. nat_lt a i.count && (nat_lt b i.count && (slice_index i.signatures (a * i.count + b) == 1));
  anchor = λ a. (slice_index i.anchors a == 1);
}
