-- Numbers below 2^32 as bytes.
use Rattle.std.specs.Prelude.{ℕ, zero, suc, ◌+◌, ◌*◌, ◌/◌, ◌%◌, ◌^◌, cond, List, [], ◌∷◌, ◌++◌, length, nat_lt}

-- a number in a given number of bytes, the higher first
unfoldable pub big_endian : (size : ℕ) → ℕ → List ℕ
big_endian zero n = []
big_endian (suc k) n = big_endian k (n / 256) ++ (n % 256 ∷ [])

-- how many bytes a number below 2^32 takes, 1 to 4
abbrev pub number_size : ℕ → ℕ
number_size n = cond (nat_lt n (2 ^ 8)) 1 (cond (nat_lt n (2 ^ 16)) 2 (cond (nat_lt n (2 ^ 24)) 3 4))

-- a number below 2^32 in the fewest bytes, the higher first
unfoldable pub number_bytes : ℕ → List ℕ
number_bytes n = big_endian (number_size n) n

-- the value of bytes in base 256, the higher first
abbrev pub bytes_value : List ℕ → ℕ
bytes_value [] = 0
bytes_value (x ∷ xs) = x * 256 ^ length xs + bytes_value xs
