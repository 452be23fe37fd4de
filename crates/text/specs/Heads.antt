-- What a line brings, told from its first word.
use Rattle.std.specs.Prelude.{ℕ, cond, List, [], ◌∷◌, codes}
use Rattle.std.specs.Str.{bytes_eq}
use Rattle.text.specs.Grammar.{Meaning, nothing, paper, seals, trusted, piece, chain}
use Rattle.text.specs.declared.command.Head.{Head}
use Rattle.text.specs.declared.command.Head.TheVariants.{Paper, Marks, Other}

-- what the lines that begin with a word bring: `paper` a paper, `seals` and `trusted` marks, any other nothing
abbrev pub head_by : List ℕ → Head
head_by w = cond (bytes_eq w (codes "paper")) Paper (cond (bytes_eq w (codes "seals")) Marks (cond (bytes_eq w (codes "trusted")) Marks Other))

-- the head of a line of words
abbrev pub words_head : List (List ℕ) → Head
words_head [] = Other
words_head (w ∷ ws) = head_by w

-- the head of a line that says this
abbrev pub head_of : Meaning → Head
head_of nothing = Other
head_of (paper bytes) = Paper
head_of (seals marks) = Marks
head_of (trusted marks) = Marks
head_of (piece p path) = Other
head_of (chain first day) = Other
