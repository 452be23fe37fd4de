-- Where the input of a pool is rejected; places are counted from 0.
use Rattle.std.specs.Prelude.{◌≡◌, ℕ, ◌*◌, ◌<◌, ◌≤◌, Bool, true, false, length, MatchBool, ◌==◌, nat_lt}
use Rattle.chain.specs.Inputs.{most, Input}
use Rattle.chain.specs.Rejections.{above_one, all_marks, faulty}

-- the first number below n at which the test holds, or n if there is none
pub record FirstWhere (n : ℕ) (test : ℕ → Bool) (r : ℕ) : Type 0 where
  pub within : r ≤ n
  pub before : (i : ℕ) → i < r → test i ≡ false
  pub found : r < n → test r ≡ true

-- of certificates: `most` if there are more, else the first faulty one, or their count if none is
abbrev pub CertificatesPlace : Input → (at : ℕ) → Type 0
CertificatesPlace i at = MatchBool (nat_lt most i.count) (at ≡ most) (FirstWhere i.count (faulty i.certificates) at)

-- of marks: how many signature marks there are if that is wrong, else how many anchor marks if that is wrong, else the first bad mark, signatures before anchors, each counted in its own list; how many anchor marks there are if none is bad
abbrev pub MarksPlace : Input → (at : ℕ) → Type 0
MarksPlace i at =
    MatchBool (length i.signatures == i.count * i.count)
    (MatchBool (length i.anchors == i.count)
    (MatchBool (all_marks i.signatures) (FirstWhere (length i.anchors) (above_one i.anchors) at) (FirstWhere (length i.signatures) (above_one i.signatures) at))
    (at ≡ length i.anchors))
    (at ≡ length i.signatures)
