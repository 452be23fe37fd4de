-- What a text brings, and the numbers of its permits.
use Rattle.std.specs.Prelude.{◌≡◌, ℕ, ◌+◌, ◌*◌, ◌<◌, ◌≤◌, List, [], ◌∷◌, length, Some, None, Option, slice_index, slice_index_or}
use Rattle.std.specs.List.{flat_map}
use Rattle.trust.specs.Chains.{Certificate}
use Rattle.certificate.specs.Permits.{Permit}
use Rattle.chain.specs.Inputs.{certificate_at}
use Rattle.text.specs.Meaning.{Meaning, nothing, paper, seals, trusted, piece, chain, meaning}
use Rattle.text.specs.Tokens.{lines}

-- papers, signature marks and anchor marks
pub record Brought : Type 0 where
  pub papers : List (List ℕ)
  pub seals : List ℕ
  pub trusted : List ℕ

-- nothing brought
abbrev pub nothing_brought : Brought
nothing_brought = record { papers = []; seals = []; trusted = [] }

-- what a line brings; a line that can't be read brings nothing
abbrev pub brings : Option Meaning → Brought
brings None = nothing_brought
brings (Some nothing) = nothing_brought
brings (Some (paper bytes)) = record { papers = bytes ∷ []; seals = []; trusted = [] }
brings (Some (seals marks)) = record { papers = []; seals = marks; trusted = [] }
brings (Some (trusted marks)) = record { papers = []; seals = []; trusted = marks }
brings (Some (piece p path)) = nothing_brought
brings (Some (chain first day)) = nothing_brought

-- what lines bring, one after the other
abbrev pub brought_by : List (List ℕ) → Brought
brought_by ls = record {
  papers = flat_map (λ line. (brings (meaning line)).papers) ls;
  seals = flat_map (λ line. (brings (meaning line)).seals) ls;
  trusted = flat_map (λ line. (brings (meaning line)).trusted) ls;
}

-- what a text brings
abbrev pub brought : (text : List ℕ) → Brought
brought text = brought_by (lines text)

-- paper i; no bytes if there is none
abbrev pub paper_at : List (List ℕ) → (i : ℕ) → List ℕ
paper_at papers i = slice_index_or papers i []

-- six numbers for each of the permits that come before the first paper that is no permit: certificate i of the numbers is the one whose permit paper i is
pub record Numbers (papers : List (List ℕ)) (numbers : List ℕ) : Type 0 where
  pub permits : ℕ
  pub within : permits ≤ length papers
  pub size : length numbers ≡ 6 * permits
  pub permit : (i : ℕ) → i < permits → Permit (paper_at papers i) (certificate_at numbers i)
  pub flag : (i : ℕ) → i < permits → slice_index numbers (6 * i + 4) ≤ 1
  pub end : permits < length papers → (c : Certificate) → Permit (paper_at papers permits) c → ⊥
