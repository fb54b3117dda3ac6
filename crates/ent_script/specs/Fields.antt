-- The values under the keys of an operation, as they are read.
use Rattle.std.specs.Prelude.{◌≡◌, ℕ, ◌-◌, Bool, true, false, List, [], ◌∷◌, length, codes, Option}
use Rattle.std.specs.Prelude.{Some}
use Rattle.std.specs.Prelude.{None, option_map, Result, Ok, Err}
use Rattle.json.specs.Token.{Token}
use Rattle.json.specs.Json.{value, members}
use Rattle.json.specs.declared.reader.Invalid.{Invalid}
use Rattle.serde_json.specs.Data.{Data, object, Members, no_members}
use Rattle.serde_json.specs.Find.{get_member, as_object}
use Rattle.serde_json.specs.Read.{of_members, converted}
use Rattle.ent_script.specs.Part.{data_of}
use Rattle.ent_script.specs.declared.part.Part.{Part}
use Rattle.ent_script.specs.Cut.{cut}
use Rattle.ent_script.specs.Json.{keys_among, pairs_of}
use Rattle.ent_script.specs.Reading.{◌>>=◌, read_bundle, with_of, count_of, binding_of, removed_of}
use Rattle.ent_script.specs.Reading.{target_of}
use Rattle.ent_script.specs.declared.cause.Cause.{Cause}
use Rattle.ent_script.specs.declared.kind.Kind.{Kind}
use Rattle.ent_script.specs.declared.kind.Kind.TheVariants as kinds
use Rattle.ent_script.specs.declared.operation.Operation.{Operation}
use Rattle.ent_script.specs.declared.operation.Operation.TheVariants as operation
use Rattle.ent_script.specs.declared.fields.Fields.{Fields}
use Rattle.ent_script.specs.declared.fields.Kinds.{Kinds}
use Rattle.ent_script.specs.declared.read_fault.ReadFault.{ReadFault}
use Rattle.ent_script.specs.declared.read_fault.ReadFault.TheVariants as fault

-- The field has the value under the key, cut.
abbrev pub IsUnder : List ℕ → Option Part → Members → Type 0
IsUnder key field ms = option_map data_of field ≡ option_map (cut 1) (get_member key ms)

-- Whether each key is one of these.
abbrev pub AreAmong : List (List ℕ) → Bool → Members → Type 0
AreAmong allowed are ms = are ≡ keys_among allowed (pairs_of ms)

-- The kinds have all keys of the members.
pub record AreKinds (kinds : Kinds) (ms : Members) : Type 0 where
  pub spawn : AreAmong (codes "spawn" ∷ codes "as" ∷ []) kinds.spawn ms
  pub spawn_many : AreAmong (codes "spawn_many" ∷ codes "with" ∷ codes "as" ∷ []) kinds.spawn_many
      ms
  pub insert : AreAmong (codes "insert" ∷ codes "on" ∷ []) kinds.insert ms
  pub remove : AreAmong (codes "remove" ∷ codes "on" ∷ []) kinds.remove ms
  pub despawn : AreAmong (codes "despawn" ∷ []) kinds.despawn ms

-- The fields have the values under their keys.
pub record AreFields (fields : Fields) (ms : Members) : Type 0 where
  pub spawn : IsUnder (codes "spawn") fields.spawn ms
  pub spawn_many : IsUnder (codes "spawn_many") fields.spawn_many ms
  pub insert : IsUnder (codes "insert") fields.insert ms
  pub remove : IsUnder (codes "remove") fields.remove ms
  pub despawn : IsUnder (codes "despawn") fields.despawn ms
  pub «with» : IsUnder (codes "with") fields.«with» ms
  pub on : IsUnder (codes "on") fields.on ms
  pub binds : IsUnder (codes "as") fields.binds ms
  pub kinds : AreKinds fields.kinds ms

-- The fields of the members were read, unless memory ran out.
abbrev pub ReadsFields : Result Fields ReadFault → List Token → Members → List Token → Type 0
ReadsFields (Ok fields) left ms rest = AreFields fields ms × (left ≡ rest)
ReadsFields (Err e) left ms rest = e ≡ fault.Memory

-- Of the value d, the brace that begins an object was taken. Any other value was passed over.
abbrev pub BeginsObject : ℕ → Result Bool Invalid → List Token → Data → List Token → Type 0
BeginsObject depth (Ok true) left d rest = (ms : Members) × (d ≡ object ms)
    × (converted (λ ms. of_members ms no_members) (members (value (depth - 1)) (length left) left)
    ≡ Some (ms, rest))
BeginsObject depth (Ok false) left d rest = (as_object d ≡ None) × (left ≡ rest)
BeginsObject depth (Err e) left d rest = ⊥

-- What an operation of this kind with these fields does, or the first test that it fails.
unfoldable pub of_fields : List (List ℕ) → List (List ℕ) → Option ℕ → Fields → Kind
    → Result Operation Cause
of_fields components bound before fields kinds.Spawn = do
  bundle ← read_bundle components (option_map data_of fields.spawn)
  binds ← binding_of bound (option_map data_of fields.binds)
  Ok (operation.Spawn bundle binds)
of_fields components bound before fields kinds.SpawnMany = do
  count ← count_of (option_map data_of fields.spawn_many)
  bundle ← with_of components (option_map data_of fields.«with»)
  binds ← binding_of bound (option_map data_of fields.binds)
  Ok (operation.SpawnMany count bundle binds)
of_fields components bound before fields kinds.Insert = do
  bundle ← read_bundle components (option_map data_of fields.insert)
  on ← target_of components bound before (option_map data_of fields.on)
  Ok (operation.Insert bundle on)
of_fields components bound before fields kinds.Remove = do
  component ← removed_of components (option_map data_of fields.remove)
  on ← target_of components bound before (option_map data_of fields.on)
  Ok (operation.Remove component on)
of_fields components bound before fields kinds.Despawn = do
  on ← target_of components bound before (option_map data_of fields.despawn)
  Ok (operation.Despawn on)
