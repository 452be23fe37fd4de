-- The grammar of lines: which words are numbers and bytes, and what a line of words says.
use Rattle.std.specs.Prelude.{ℕ, ◌+◌, ◌-◌, ◌*◌, ◌^◌, ◌<◌, ◌≤◌, ◌≡◌, ◌⊎◌, List, [], ◌∷◌, ◌++◌, length, slice_index, codes}
use Rattle.std.specs.List.{All, AllZip}

-- what a line says: nothing, a paper's bytes, signature marks, anchor marks, the element of a paper by a path, or the chain from a paper on a day
pub data Meaning : Type 0 where
  nothing : Meaning
  paper : (bytes : List ℕ) → Meaning
  seals : (marks : List ℕ) → Meaning
  trusted : (marks : List ℕ) → Meaning
  piece : (paper : ℕ) → (path : List ℕ) → Meaning
  chain : (first day : ℕ) → Meaning

-- a mark is below 256, any other number below 2 ^ 64
abbrev pub mark_limit : ℕ
mark_limit = 256

abbrev pub number_limit : ℕ
number_limit = 2 ^ 64

-- a decimal digit, `0` to `9` in ASCII
abbrev pub Digit : ℕ → Type 0
Digit b = (48 ≤ b) × (b ≤ 57)

-- the sum of the digits' values, each times its power of ten
abbrev pub digits_sum : List ℕ → ℕ
digits_sum [] = 0
digits_sum (b ∷ bs) = (b - 48) * 10 ^ length bs + digits_sum bs

-- a word of decimal digits, at least one, and its number
pub record Decimal (word : List ℕ) (n : ℕ) : Type 0 where
  pub some : 0 < length word
  pub digits : All Digit word
  pub value : n ≡ digits_sum word

-- a digit of base sixteen, in lower or upper case, and its value
abbrev pub HexDigit : (byte value : ℕ) → Type 0
HexDigit b v = (v < 16) × ((b ≡ slice_index (codes "0123456789abcdef") v) ⊎ (b ≡ slice_index (codes "0123456789ABCDEF") v))

-- a word and the bytes that it writes: two digits for each byte, the higher first
pub data HexWord : (word bytes : List ℕ) → Type 0 where
  end : HexWord [] []
  pair : {word bytes : List ℕ} → (b c high low : ℕ) → HexDigit b high → HexDigit c low → HexWord word bytes → HexWord (b ∷ (c ∷ word)) ((16 * high + low) ∷ bytes)

-- a word writes this number in base ten, and it is below the limit
abbrev pub IsNumber : (limit : ℕ) → (word : List ℕ) → (n : ℕ) → Type 0
IsNumber limit word n = Decimal word n × (n < limit)

-- words and the bytes that they write, one word after the other
pub data HexWords : (words : List (List ℕ)) → (bytes : List ℕ) → Type 0 where
  no_word : HexWords [] []
  word : {word bytes more : List ℕ} {words : List (List ℕ)} → HexWord word bytes → HexWords words more → HexWords (word ∷ words) (bytes ++ more)

-- what a line of words says
pub data LineMeans : (words : List (List ℕ)) → Meaning → Type 0 where
  blank_line : LineMeans [] nothing
  comment_line : (text : List ℕ) → (words : List (List ℕ)) → LineMeans ((codes "#" ++ text) ∷ words) nothing
  paper_line : {words : List (List ℕ)} {bytes : List ℕ} → HexWords words bytes → LineMeans (codes "paper" ∷ words) (paper bytes)
  seals_line : {words : List (List ℕ)} {marks : List ℕ} → AllZip (IsNumber mark_limit) words marks → LineMeans (codes "seals" ∷ words) (seals marks)
  trusted_line : {words : List (List ℕ)} {marks : List ℕ} → AllZip (IsNumber mark_limit) words marks → LineMeans (codes "trusted" ∷ words) (trusted marks)
  piece_line : {p : List ℕ} {words : List (List ℕ)} {paper : ℕ} {path : List ℕ} → IsNumber number_limit p paper → AllZip (IsNumber number_limit) words path → LineMeans (codes "piece" ∷ (p ∷ words)) (piece paper path)
  chain_line : {a d : List ℕ} {first day : ℕ} → IsNumber number_limit a first → IsNumber number_limit d day → LineMeans (codes "chain" ∷ (a ∷ (codes "day" ∷ (d ∷ [])))) (chain first day)
