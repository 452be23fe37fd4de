-- What looking for the element at the end of a path answers.
use Rattle.std.specs.Prelude.{ℕ, List, [], Some, None, Option}
use Rattle.element.specs.Located.{Leads, LeadsNowhere}
use Rattle.element.specs.declared.walking.Element.{Element}

-- the element that the path leads to, or none exactly if there is none
abbrev pub Found : (bytes path : List ℕ) → Option Element → Type 0
Found b path (Some e) = Leads b path e.at e.whole.now
Found b path None = LeadsNowhere b path

-- the bytes of an element that was found, or no bytes
abbrev pub bytes_of : Option Element → List ℕ
bytes_of (Some e) = e.whole.now
bytes_of None = []
