-- The data that a part of an operation represents.
use Rattle.std.specs.Prelude.{ℕ, List, [], ◌∷◌}
use Rattle.std.specs.Borrow.{Bor}
use Rattle.serde_json.specs.Data.{Data, null, boolean, number, string, array, no_items}
use Rattle.serde_json.specs.Data.{object, Members, no_members, member}
use Rattle.serde_json.specs.View.{number_view}
use Rattle.ent_script.specs.declared.leaf.Leaf.{Leaf}
use Rattle.ent_script.specs.declared.leaf.Leaf.TheVariants as leaf
use Rattle.ent_script.specs.declared.object.Object.{Object}
use Rattle.ent_script.specs.declared.object.Object.TheVariants as of
use Rattle.ent_script.specs.declared.part.Part.{Part}
use Rattle.ent_script.specs.declared.part.Part.TheVariants as part

abbrev pub leaf_data : Leaf → Data
leaf_data leaf.Null = null
leaf_data (leaf.Bool b) = boolean b
leaf_data (leaf.Number n) = number (number_view n)
leaf_data (leaf.Text text) = string text.now
leaf_data leaf.Array = array no_items
leaf_data leaf.Object = object no_members

abbrev pub leaves_of : List (Bor (List ℕ) × Leaf) → Members
leaves_of [] = no_members
leaves_of (m ∷ ms) = member m.0.now (leaf_data m.1) (leaves_of ms)

abbrev pub members_of : Object → Members
members_of of.Empty = no_members
members_of (of.One key leaf) = member key.now (leaf_data leaf) no_members
members_of (of.Many map) = leaves_of map.entries

abbrev pub data_of : Part → Data
data_of part.Null = null
data_of (part.Bool b) = boolean b
data_of (part.Number n) = number (number_view n)
data_of (part.Text text) = string text.now
data_of part.Array = array no_items
data_of (part.Object members) = object (members_of members)
