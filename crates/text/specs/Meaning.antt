-- What a line says: by the law `MeaningStand`, what the grammar of Grammar.antt has.
use Rattle.std.specs.Prelude.{ℕ, List, Option, vec_items}
pub use Rattle.text.specs.Grammar.{Meaning, nothing, paper, seals, trusted, piece, chain, mark_limit, number_limit}
use Rattle.text.specs.Tokens.{words}
use Rattle.text.specs.inner.Saying.{words_say}
use Rattle.text.specs.declared.command.Command.{Command}
use Rattle.text.specs.declared.command.Command.TheVariants as command

-- what a line says; none if it can't be read
unfoldable pub meaning : List ℕ → Option Meaning
meaning line = words_say (words line)

-- what a command says
abbrev pub says : Command → Meaning
says command.Nothing = nothing
says (command.Paper v) = paper (vec_items v)
says (command.Seals v) = seals (vec_items v)
says (command.Trusted v) = trusted (vec_items v)
says (command.Piece p v) = piece p (vec_items v)
says (command.Chain a d) = chain a d
