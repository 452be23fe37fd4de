-- The numbers and bytes that words write.
use Rattle.std.specs.Prelude.{ℕ, ◌+◌, ◌-◌, ◌*◌, cond, ◌&&◌, List, [], ◌∷◌, ◌++◌, Some, None, Option, nat_le, nat_lt}

-- a function of two values, if both are there
abbrev pub both : {X Y Z : Type 0} → (X → Y → Z) → Option X → Option Y → Option Z
both f None o = None
both f (Some x) None = None
both f (Some x) (Some y) = Some (f x y)

-- the value of a digit of base ten
abbrev pub digit : ℕ → Option ℕ
digit b = cond (nat_le 48 b && nat_le b 57) (Some (b - 48)) None

-- a number with one more digit at its end
abbrev pub with_digit : Option ℕ → ℕ → Option ℕ
with_digit o b = both (λ n d. n * 10 + d) o (digit b)

-- a number with all of these digits at its end
unfoldable pub decimal_after : Option ℕ → List ℕ → Option ℕ
decimal_after o [] = o
decimal_after o (b ∷ bs) = decimal_after (with_digit o b) bs

-- a number if it is below a limit
abbrev pub below : (limit : ℕ) → Option ℕ → Option ℕ
below limit None = None
below limit (Some n) = cond (nat_lt n limit) (Some n) None

-- the number that a word writes in base ten, of one digit or more, if it is below a limit
unfoldable pub number : (limit : ℕ) → List ℕ → Option ℕ
number limit [] = None
number limit (b ∷ bs) = below limit (decimal_after (Some 0) (b ∷ bs))

-- the value of a digit of base sixteen, in either case
abbrev pub hex_digit : ℕ → Option ℕ
hex_digit b = cond (nat_le 48 b && nat_le b 57) (Some (b - 48)) (cond (nat_le 97 b && nat_le b 102) (Some (b - 87)) (cond (nat_le 65 b && nat_le b 70) (Some (b - 55)) None))

-- the byte that two digits of base sixteen write
abbrev pub hex_pair : (high low : ℕ) → Option ℕ
hex_pair a b = both (λ h l. h * 16 + l) (hex_digit a) (hex_digit b)

-- the bytes that a word writes in base sixteen, two digits for each
unfoldable pub word_bytes : List ℕ → Option (List ℕ)
word_bytes [] = Some []
word_bytes (a ∷ []) = None
word_bytes (a ∷ (b ∷ w)) = both ◌∷◌ (hex_pair a b) (word_bytes w)

-- the bytes that words write, in order
unfoldable pub bytes_of : List (List ℕ) → Option (List ℕ)
bytes_of [] = Some []
bytes_of (w ∷ ws) = both ◌++◌ (word_bytes w) (bytes_of ws)

-- the values of words by a function, if each has one
unfoldable pub all_of : {X : Type 0} → (List ℕ → Option X) → List (List ℕ) → Option (List X)
all_of value [] = Some []
all_of value (w ∷ ws) = both ◌∷◌ (value w) (all_of value ws)

-- the numbers that words write, each below a limit
unfoldable pub numbers : (limit : ℕ) → List (List ℕ) → Option (List ℕ)
numbers limit ws = all_of (number limit) ws
