-- Steps as the two lists that layers are stated of.
use Rattle.std.specs.Prelude.{ℕ, zero, suc, List, Option, Some, None}
use Rattle.shortest.specs.declared.reached.Step.{Step}
use Rattle.shortest.specs.declared.reached.Steps.{Steps}

-- the layer + 1 of each certificate, or 0 for one not reached
abbrev pub far : Steps → List ℕ
far s = s.layers

-- the certificate below each, or 0 for one not reached (`unreached` in `Steps`)
abbrev pub from : Steps → List ℕ
from s = s.belows

-- how a certificate was reached, by its numbers in both lists
abbrev pub step_of : (far from : ℕ) → Option Step
step_of zero below = None
step_of (suc k) below = Some (record { layer = k; below = below })
