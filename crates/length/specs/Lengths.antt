-- What reading a length from the front of bytes answers.
use Rattle.std.specs.Prelude.{◌≡◌, ℕ, ◌+◌, ◌*◌, ◌<◌, ◌≤◌, cond, ◌&&◌, List, ◌++◌, length, drop, Some, None, Option, ◌==◌, ◌≢◌, nat_le, nat_lt, slice_index}
use Rattle.format.specs.Elements.{greatest_length, written_length}
use Rattle.length.specs.declared.Length.{Length}

abbrev pub sized : (value size : ℕ) → Option Length
sized v k = Some (record { value = v; size = k })

-- the length at the front of bytes: a byte below 128 itself; after 129 a byte from 128 on; after 130 two bytes, the higher first and not 0
abbrev pub front_length : List ℕ → Option Length
front_length b =
    cond (nat_lt (length b) 1) None
    (cond (nat_lt (slice_index b 0) 128) (sized (slice_index b 0) 1)
    (cond (slice_index b 0 == 129 && nat_le 2 (length b)) (cond (nat_lt (slice_index b 1) 128) None (sized (slice_index b 1) 2))
    (cond (slice_index b 0 == 130 && nat_le 3 (length b)) (cond (slice_index b 1 == 0) None (sized (256 * slice_index b 1 + slice_index b 2) 3)) None)))

-- the first size bytes are the written length of this value
pub record LengthFront (b : List ℕ) (value size : ℕ) : Type 0 where
  pub is : b ≡ written_length value ++ drop size b
  pub takes : size ≡ length (written_length value)
  pub within : size ≤ length b
  pub limit : value ≤ greatest_length

-- the length that is written at the front of the bytes, or none where none is
abbrev pub LengthAt : List ℕ → Option Length → Type 0
LengthAt b (Some l) = LengthFront b l.value l.size
LengthAt b None = (n : ℕ) (r : List ℕ) → b ≢ written_length n ++ r

-- what front_length says is the length that is written at the front of the bytes
abbrev pub ReadsLength : Type 0
ReadsLength = (b : List ℕ) → ((i : ℕ) → slice_index b i < 256) → LengthAt b (front_length b)
