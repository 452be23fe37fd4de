-- What a line of words says, read word by word.
use Rattle.std.specs.Prelude.{ℕ, Bool, cond, List, [], ◌∷◌, Some, None, codes, Option, ◌==◌, slice_index}
use Rattle.std.specs.Option.{option_map}
use Rattle.std.specs.Str.{bytes_eq}
use Rattle.text.specs.Grammar.{Meaning, nothing, paper, seals, trusted, piece, chain, mark_limit, number_limit}
use Rattle.text.specs.inner.Figures.{both, number, numbers, bytes_of}
use Rattle.text.specs.declared.command.Key.{Key}
use Rattle.text.specs.declared.command.Key.TheVariants.{Comment, Paper, Seals, Trusted, Piece, Chain, Other}

-- a word that begins with `#` begins a comment
abbrev pub comment : List ℕ → Bool
comment w = slice_index w 0 == 35

-- what a line is about, by its first word
abbrev pub key_of : List ℕ → Key
key_of w = cond (comment w) Comment (cond (bytes_eq w (codes "paper")) Paper (cond (bytes_eq w (codes "seals")) Seals (cond (bytes_eq w (codes "trusted")) Trusted (cond (bytes_eq w (codes "piece")) Piece (cond (bytes_eq w (codes "chain")) Chain Other)))))

-- a number and nothing behind it
abbrev pub only_number : List (List ℕ) → Option ℕ
only_number [] = None
only_number (w ∷ []) = number number_limit w
only_number (w ∷ (v ∷ ws)) = None

-- the word `day` and the number of a day
abbrev pub day_of : List (List ℕ) → Option ℕ
day_of [] = None
day_of (w ∷ ws) = cond (bytes_eq w (codes "day")) (only_number ws) None

-- what the words behind `chain` say: the number of a paper and a day
abbrev pub chain_of : List (List ℕ) → Option Meaning
chain_of [] = None
chain_of (w ∷ ws) = both chain (number number_limit w) (day_of ws)

-- what the words behind `piece` say: the number of a paper and a path
abbrev pub piece_of : List (List ℕ) → Option Meaning
piece_of [] = None
piece_of (p ∷ ws) = both piece (number number_limit p) (numbers number_limit ws)

-- what the words behind the first say
abbrev pub rest_says : Key → List (List ℕ) → Option Meaning
rest_says Comment ws = Some nothing
rest_says Paper ws = option_map paper (bytes_of ws)
rest_says Seals ws = option_map seals (numbers mark_limit ws)
rest_says Trusted ws = option_map trusted (numbers mark_limit ws)
rest_says Piece ws = piece_of ws
rest_says Chain ws = chain_of ws
rest_says Other ws = None

-- what the words of a line say
abbrev pub words_say : List (List ℕ) → Option Meaning
words_say [] = Some nothing
words_say (w ∷ ws) = rest_says (key_of w) ws
