-- Texts in parts.
use Rattle.std.specs.Prelude.{ℕ, List}
use Rattle.std.specs.Global.{Vec}
use Rattle.std.specs.List.{flat_map}

-- the parts, one behind the other
abbrev pub joined : List (Vec ℕ) → List ℕ
joined = flat_map (λ (part : Vec ℕ). part.items)
