-- For private contracts and proofs: the components of a command's bundle, read before it takes
-- effect.
use Rattle.std.specs.Prelude.{◌≡◌, ◌⊎◌, length}
use Rattle.ent_storage.specs.Bundle.{Bundle}

-- The list has the components of the bundle, or the bundle has one component, which needs no list.
abbrev pub IsRead : Bundle → Bundle → Type 0
IsRead bundle items = (length bundle ≡ 1) ⊎ (items ≡ bundle)
