-- Why an input is rejected: the numbers of the reasons, and the first one that applies to the input of a pool.
use Rattle.std.specs.Prelude.{ℕ, zero, suc, ◌+◌, ◌*◌, Bool, true, cond, not, ◌&&◌, ◌||◌, List, [], ◌∷◌, length, ◌==◌, nat_le, nat_lt, slice_index, Some, None, Option}
use Rattle.chain.specs.declared.input.Rejection.{Rejection}
use Rattle.chain.specs.declared.input.Rejection.TheVariants.{Certificates, Marks, Unknown, Buffer}
use Rattle.chain.specs.Inputs.{most, Input}

-- the number by which a rejection is known
abbrev pub rejection_number : Rejection → ℕ
rejection_number Certificates = 1
rejection_number Marks = 2
rejection_number Unknown = 3
rejection_number Buffer = 4

-- the number at k, a mark, is above 1
abbrev pub above_one : List ℕ → ℕ → Bool
above_one xs k = nat_lt 1 (slice_index xs k)

-- each mark is 0 or 1
unfoldable pub all_marks : List ℕ → Bool
all_marks [] = true
all_marks (x ∷ xs) = nat_le x 1 && all_marks xs

-- certificate a is not there whole, or its may_issue is above 1
abbrev pub faulty : (certificates : List ℕ) → ℕ → Bool
faulty cs a = nat_lt (length cs) (6 * a + 6) || above_one cs (6 * a + 4)

-- the test fails at each number below n
unfoldable pub none_below : (n : ℕ) → (test : ℕ → Bool) → Bool
none_below zero test = true
none_below (suc n) test = none_below n test && not (test n)

-- at least one certificate and at most `most`, six numbers for each, and no may_issue above 1
abbrev pub certificates_well : Input → Bool
certificates_well i = nat_lt 0 i.count && (nat_le i.count most && (length i.certificates == 6 * i.count && none_below i.count (faulty i.certificates)))

-- a signature mark for each two certificates, an anchor mark for each, and none above 1
abbrev pub marks_well : Input → Bool
marks_well i = length i.signatures == i.count * i.count && (length i.anchors == i.count && (all_marks i.signatures && all_marks i.anchors))

-- the first rejection that applies to the input of a pool, if any
abbrev pub pool_rejection : Input → Option Rejection
pool_rejection i = cond (certificates_well i) (cond (marks_well i) None (Some Marks)) (Some Certificates)
