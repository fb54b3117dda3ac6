-- The components of one entity: a finite map from component numbers to values.
use Rattle.std.specs.Prelude.{ℕ, ℤ, List, [], ◌∷◌, count_by, is_none}
use Rattle.std.specs.Coded.{Coded, coded_ℤ}
use Rattle.std.specs.FinMap as map
use Rattle.ent_handle.specs.declared.component.ComponentId.{ComponentId}
use Rattle.ent_handle.specs.Component.{component_cmp, component_code}

-- the value of each component that an entity has
abbrev pub Components : Type 0
Components = map.FinMap component_cmp ℤ

abbrev pub components_code : Coded Components
components_code = map.code component_code coded_ℤ

-- the components after each item was set, the first item first
abbrev pub with_items : Components → List (ComponentId × ℤ) → Components
with_items held [] = held
with_items held (item ∷ items) = with_items (map.insert held item.0 item.1) items

-- how many of the items set a component that is not there
abbrev pub missing : Components → List (ComponentId × ℤ) → ℕ
missing held items = count_by (λ item. is_none (map.get held item.0)) items
