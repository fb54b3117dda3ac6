-- A bundle: the components that an entity is given, and their values.
use Rattle.std.specs.Prelude.{ℤ, ◌^◌, ◌<◌, T, List, [], ◌∷◌}
use Rattle.std.specs.List.{All}
use Rattle.std.specs.Int.{w64}
use Rattle.std.specs.Int.RustNames.{FitsSigned}
use Rattle.std.specs.FinMap.{is_sorted, put}
use Rattle.ent_handle.specs.declared.component.ComponentId.{ComponentId}
use Rattle.ent_handle.specs.Component.{component_cmp}

-- components and their values, in strictly ascending order of number
abbrev pub Bundle : Type 0
Bundle = List (ComponentId × ℤ)

-- a component's number is a byte, and its value has 64 bits
pub record IsItem (item : ComponentId × ℤ) : Type 0 where
  pub id : item.0.0 < 2 ^ 8
  pub value : FitsSigned w64 item.1

pub record IsBundle (items : Bundle) : Type 0 where
  pub rising : T (is_sorted component_cmp items)
  pub each : All IsItem items

-- the bundle after each of the items was put into it, the first item first
abbrev pub with_put : Bundle → List (ComponentId × ℤ) → Bundle
with_put held [] = held
with_put held (item ∷ items) = with_put (put component_cmp item.0 item.1 held) items

-- the bundle of these components: if one occurs twice, its last value counts
abbrev pub bundle_of : List (ComponentId × ℤ) → Bundle
bundle_of items = with_put [] items
