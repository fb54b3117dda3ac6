-- What a JSON value means as a script, or the first test that it fails.
use Rattle.std.specs.Prelude.{◌≡◌, ℕ, ℤ, ◌+◌, Bool, false, ◌&&◌, List, [], ◌∷◌, length, take, codes}
use Rattle.std.specs.Prelude.{◌==◌, nat_lt, if◌then◌else◌, Option, Some, None, option_map}
use Rattle.std.specs.Prelude.{option_and_then, is_some, unwrap_or, ok_or, Result, Ok, Err, ⊤}
use Rattle.std.specs.Global.{Vec}
use Rattle.std.specs.List.{list_all, slice_split}
use Rattle.std.specs.Str.{bytes_eq, is_utf8}
use Rattle.serde_json.specs.Data.{Data}
use Rattle.serde_json.specs.Find.{get, as_str}
use Rattle.serde_json.specs.Read.{read}
use Rattle.ent_handle.specs.declared.birth.Birth.{Birth}
use Rattle.ent_handle.specs.declared.component.ComponentId.{ComponentId}
use Rattle.ent_handle.specs.Text.{handle_of, number_of}
use Rattle.ent_storage.specs.Bundle.{bundle_of}
use Rattle.ent_script.specs.Json.{at_most, members, keys_among, whole, whole_within}
use Rattle.ent_script.specs.Names.{as_name, number_among, names_in}
use Rattle.ent_script.specs.Script.{Script}
use Rattle.ent_script.specs.Sizes.{most_components, most_frames, most_systems, most_operations}
use Rattle.ent_script.specs.Sizes.{most_spawned}
use Rattle.ent_script.specs.declared.cause.Cause.{Cause}
use Rattle.ent_script.specs.declared.cause.Cause.TheVariants as cause
use Rattle.ent_script.specs.declared.cause.ScriptCause.{ScriptCause}
use Rattle.ent_script.specs.declared.cause.ScriptCause.TheVariants as script_cause
use Rattle.ent_script.specs.declared.format.Format.{Format}
use Rattle.ent_script.specs.declared.format.Format.TheVariants as format
use Rattle.ent_script.specs.declared.heading.Heading.{Heading}
use Rattle.ent_script.specs.declared.kind.Kind.{Kind}
use Rattle.ent_script.specs.declared.kind.Kind.TheVariants as kinds
use Rattle.ent_script.specs.declared.operation.Operation.{Operation}
use Rattle.ent_script.specs.declared.operation.Operation.TheVariants as operation
use Rattle.ent_script.specs.declared.part_fault.PartFault.{PartFault}
use Rattle.ent_script.specs.declared.part_fault.PartFault.TheVariants as part_fault
use Rattle.ent_script.specs.declared.read_fault.ReadFault.{ReadFault}
use Rattle.ent_script.specs.declared.read_fault.ReadFault.TheVariants as fault
use Rattle.ent_script.specs.declared.target.Target.{Target}
use Rattle.ent_script.specs.declared.target.Target.TheVariants as target

-- ---- tests in their order

infixl 10 ◌>>=◌
abbrev pub ◌>>=◌ : {A B E : Type 0} → Result A E → (A → Result B E) → Result B E
(Ok x) >>= f = f x
(Err e) >>= f = Err e

-- a test that finds nothing
abbrev pub test : {E : Type 0} → Bool → E → Result ⊤ E
test passes e = if passes then Ok tt else Err e

-- what the elements mean, each by itself and its number from n on, or the first fault of the first
-- that means nothing
abbrev pub numbered : {A E : Type 0} → (ℕ → Data → Result A E) → ℕ → List Data → Result (List A) E
numbered f n [] = Ok []
numbered f n (d ∷ ds) = do
  x ← f n d
  xs ← numbered f (n + 1) ds
  Ok (x ∷ xs)

-- what a part means, or this value if it is absent
abbrev pub or_absent : {A : Type 0} → A → (Data → Option A) → Option Data → Option A
or_absent absent means None = Some absent
or_absent absent means (Some d) = means d

-- ---- the parts of an operation; a part is the value under one of its keys

-- the number of the component of this name
abbrev pub component_of : List (List ℕ) → List ℕ → Option ComponentId
component_of components text = option_map (λ n. record { 0 = n }) (number_among text components)

abbrev pub item_of : List (List ℕ) → List ℕ × Data → Result (ComponentId × ℤ) Cause
item_of components member = do
  id ← ok_or (component_of components member.0) cause.Component
  value ← ok_or (whole member.1) cause.Value
  Ok (id, value)

abbrev pub items_of : List (List ℕ) → List (List ℕ × Data) → Result (List (ComponentId × ℤ)) Cause
items_of components [] = Ok []
items_of components (m ∷ ms) = do
  item ← item_of components m
  items ← items_of components ms
  Ok (item ∷ items)

-- the bundle of an object's members
abbrev pub bundle_by : List (List ℕ) → List (List ℕ × Data) → Result (List (ComponentId × ℤ)) Cause
bundle_by components ms = do
  items ← items_of components ms
  Ok (bundle_of items)

unfoldable pub read_bundle : List (List ℕ) → Option Data → Result (List (ComponentId × ℤ)) Cause
read_bundle components part = do
  ms ← ok_or (option_and_then members part) cause.Bundle
  bundle_by components ms

-- an absent bundle is the empty one
abbrev pub with_of : List (List ℕ) → Option Data → Result (List (ComponentId × ℤ)) Cause
with_of components None = Ok []
with_of components (Some d) = read_bundle components (Some d)

unfoldable pub count_of : Option Data → Result ℕ Cause
count_of part = ok_or (option_and_then (whole_within 0 most_spawned) part) cause.Count

-- the number of the name that an `as` binds: its number among the names bound so far, or the next
unfoldable pub binding_of : List (List ℕ) → Option Data → Result (Option ℕ) Cause
binding_of bound None = Ok None
binding_of bound (Some d) = do
  name ← ok_or (as_name d) cause.Name
  Ok (Some (unwrap_or (number_among name bound) (length bound)))

unfoldable pub removed_of : List (List ℕ) → Option Data → Result ComponentId Cause
removed_of components part = do
  text ← ok_or (option_and_then as_str part) cause.Component
  ok_or (component_of components text) cause.Component

abbrev pub only : {A : Type 0} → List A → Option A
only (x ∷ []) = Some x
only _ = None

abbrev pub target_handle : List ℕ → Result Target Cause
target_handle text =
    elim (handle_of text) [ Ok h ↦ Ok (target.Handle h) | Err e ↦ Err cause.Handle ]

-- the number below 2^32 that a decimal writes
abbrev pub birth_number : List ℕ → Result ℕ Cause
birth_number decimal = elim (number_of decimal) [ Ok n ↦ Ok n | Err e ↦ Err cause.Birth ]

-- these numbers are those of a birth in a frame before this one
abbrev pub birth_of_numbers : ℕ → ℕ → ℕ → ℕ → Result Birth Cause
birth_of_numbers before frame system ordinal =
    if nat_lt frame before && nat_lt system most_systems
    then Ok (record { frame = frame; system = system; ordinal = ordinal })
    else Err cause.Birth

abbrev pub birth_of_parts : ℕ → List (List ℕ) → Result Birth Cause
birth_of_parts before (frame ∷ system ∷ ordinal ∷ []) = do
  f ← birth_number frame
  s ← birth_number system
  k ← birth_number ordinal
  birth_of_numbers before f s k
birth_of_parts before _ = Err cause.Birth

-- the birth in a frame before this one that a text writes: three decimals with dots between them
unfoldable pub birth_of : ℕ → List ℕ → Result Birth Cause
birth_of before text = birth_of_parts before (slice_split (λ b. b == 46) text)

-- the frame before which the births are that an operation of this frame may name, if it may
abbrev pub births_before : Format → ℕ → Option ℕ
births_before format.One frame = None
births_before format.Two frame = Some frame

-- a target's birth; in format 1 a target has no such key
abbrev pub target_birth : Option ℕ → List ℕ → Result Target Cause
target_birth None text = Err cause.Target
target_birth (Some before) text = do
  birth ← birth_of before text
  Ok (target.Birth birth)

-- the target of a key and the string under it
unfoldable pub target_at : List (List ℕ) → List (List ℕ) → Option ℕ → List ℕ → List ℕ
    → Result Target Cause
target_at components bound before key text =
    if bytes_eq key (codes "name")
    then ok_or (option_map target.Name (number_among text bound)) cause.Name
    else (if bytes_eq key (codes "handle") then target_handle text
    else (if bytes_eq key (codes "each")
    then ok_or (option_map target.Each (component_of components text)) cause.Component
    else (if bytes_eq key (codes "birth") then target_birth before text
    else Err cause.Target)))

unfoldable pub target_of : List (List ℕ) → List (List ℕ) → Option ℕ → Option Data
    → Result Target Cause
target_of components bound before part = do
  member ← ok_or (option_and_then only (option_and_then members part)) cause.Target
  text ← ok_or (as_str member.1) cause.Target
  target_at components bound before member.0 text

-- ---- operations

-- an object that has these keys, and each of its keys is one of those
unfoldable pub has_keys : List (List ℕ) → List (List ℕ) → Data → Bool
has_keys required allowed d =
    list_all (λ key. is_some (get key d)) required
    && unwrap_or (option_map (keys_among allowed) (members d)) false

unfoldable pub is_spawn : Data → Bool
is_spawn d = has_keys (codes "spawn" ∷ []) (codes "spawn" ∷ codes "as" ∷ []) d

unfoldable pub is_spawn_many : Data → Bool
is_spawn_many d =
    has_keys (codes "spawn_many" ∷ []) (codes "spawn_many" ∷ codes "with" ∷ codes "as" ∷ []) d

unfoldable pub is_insert : Data → Bool
is_insert d = has_keys (codes "insert" ∷ codes "on" ∷ []) (codes "insert" ∷ codes "on" ∷ []) d

unfoldable pub is_remove : Data → Bool
is_remove d = has_keys (codes "remove" ∷ codes "on" ∷ []) (codes "remove" ∷ codes "on" ∷ []) d

unfoldable pub is_despawn : Data → Bool
is_despawn d = has_keys (codes "despawn" ∷ []) (codes "despawn" ∷ []) d

abbrev pub kind_of : Data → Option Kind
kind_of d =
    if is_spawn d then Some kinds.Spawn
    else (if is_spawn_many d then Some kinds.SpawnMany
    else (if is_insert d then Some kinds.Insert
    else (if is_remove d then Some kinds.Remove
    else (if is_despawn d then Some kinds.Despawn
    else None))))

unfoldable pub of_kind : List (List ℕ) → List (List ℕ) → Option ℕ → Data → Kind
    → Result Operation Cause
of_kind components bound before d kinds.Spawn = do
  bundle ← read_bundle components (get (codes "spawn") d)
  binds ← binding_of bound (get (codes "as") d)
  Ok (operation.Spawn bundle binds)
of_kind components bound before d kinds.SpawnMany = do
  count ← count_of (get (codes "spawn_many") d)
  bundle ← with_of components (get (codes "with") d)
  binds ← binding_of bound (get (codes "as") d)
  Ok (operation.SpawnMany count bundle binds)
of_kind components bound before d kinds.Insert = do
  bundle ← read_bundle components (get (codes "insert") d)
  on ← target_of components bound before (get (codes "on") d)
  Ok (operation.Insert bundle on)
of_kind components bound before d kinds.Remove = do
  component ← removed_of components (get (codes "remove") d)
  on ← target_of components bound before (get (codes "on") d)
  Ok (operation.Remove component on)
of_kind components bound before d kinds.Despawn = do
  on ← target_of components bound before (get (codes "despawn") d)
  Ok (operation.Despawn on)

-- the operation that a value means, in a system whose earlier operations bind these names; a birth
-- that it names is of a frame before the one that is said, if one is
unfoldable pub operation_of : List (List ℕ) → List (List ℕ) → Option ℕ → Data
    → Result Operation Cause
operation_of components bound before d = do
  kind ← ok_or (kind_of d) cause.Shape
  of_kind components bound before d kind

-- the name that an operation binds
abbrev pub bound_name : Data → Option (List ℕ)
bound_name d = option_and_then as_name (get (codes "as") d)

-- ---- systems, frames and the whole

abbrev pub at_operation : {A : Type 0} → ℕ → ℕ → ℕ → Result A Cause → Result A ReadFault
at_operation frame system number (Ok x) = Ok x
at_operation frame system number (Err c) = Err (fault.Operation frame system number c)

-- the operation with this number, after those before it
abbrev pub operation_at : Format → List (List ℕ) → ℕ → ℕ → List Data → ℕ → Data
    → Result Operation ReadFault
operation_at format components frame system ds number d =
    at_operation frame system number
    (operation_of components (names_in bound_name (take number ds)) (births_before format frame) d)

unfoldable pub system_of : Format → List (List ℕ) → ℕ → ℕ → Data
    → Result (List Operation) ReadFault
system_of format components frame number d = do
  ds ← ok_or (at_most most_operations d) (fault.System frame number)
  numbered (operation_at format components frame number ds) 0 ds

unfoldable pub frame_of : Format → List (List ℕ) → ℕ → Data
    → Result (List (List Operation)) ReadFault
frame_of format components number d = do
  ds ← ok_or (at_most most_systems d) (fault.Frame number)
  numbered (system_of format components number) 0 ds

-- the name that a value is, if it is none of these
abbrev pub new_name : List (List ℕ) → Data → Option (List ℕ)
new_name names d =
    option_and_then (λ name. if is_some (number_among name names) then None else Some name)
    (as_name d)

-- an element is a name that no element before it is
abbrev pub component_at : List Data → ℕ → Data → Result (List ℕ) ScriptCause
component_at ds number d =
    ok_or (new_name (names_in as_name (take number ds)) d) script_cause.Components

unfoldable pub component_names : Option Data → Result (List (List ℕ)) ScriptCause
component_names part = do
  ds ← ok_or (option_and_then (at_most most_components) part) script_cause.Components
  numbered (component_at ds) 0 ds

abbrev pub script_keys : List (List ℕ)
script_keys =
    codes "format" ∷ codes "slots" ∷ codes "generations" ∷ codes "components"
    ∷ codes "frames" ∷ []

-- the format with this number
abbrev pub numbered_format : ℕ → Format
numbered_format number = if number == 1 then format.One else format.Two

-- a script that says no format is of format 1
abbrev pub format_of : Option Data → Result Format ScriptCause
format_of part =
    ok_or (option_map numbered_format (or_absent 1 (whole_within 1 2) part)) script_cause.Format

-- the heading, after the tests of all that comes before it
unfoldable pub heading_of : Data → Result Heading ScriptCause
heading_of d = do
  ms ← ok_or (members d) script_cause.Top
  _ ← test (keys_among script_keys ms) script_cause.Key
  format ← format_of (get (codes "format") d)
  slots ← ok_or (or_absent 4294967295 (whole_within 1 4294967295) (get (codes "slots") d))
      script_cause.Slots
  generations ← ok_or
      (or_absent 2147483647 (whole_within 1 2147483647) (get (codes "generations") d))
      script_cause.Generations
  Ok (record {
    format = format;
    limits = record { slots = slots; generations = generations };
  })

abbrev pub in_script : {A : Type 0} → Result A ScriptCause → Result A ReadFault
in_script (Ok x) = Ok x
in_script (Err c) = Err (fault.Script c)

-- the script that a value means, or the first test that it fails
unfoldable pub script_of : Data → Result Script ReadFault
script_of d = do
  heading ← in_script (heading_of d)
  components ← in_script (component_names (get (codes "components") d))
  ds ← ok_or (option_and_then (at_most most_frames) (get (codes "frames") d))
      (fault.Script script_cause.Frames)
  frames ← numbered (frame_of heading.format components) 0 ds
  Ok (record { limits = heading.limits; components = components; frames = frames })

-- the value that bytes are read as
abbrev pub json_of : List ℕ → Option Data
json_of text = if is_utf8 text then read text else None

-- the script that bytes mean, or the first test that they fail
abbrev pub script_of_text : List ℕ → Result Script ReadFault
script_of_text text = ok_or (json_of text) fault.Json >>= script_of

-- ---- what the readers return

-- what was returned is this, unless memory ran out
abbrev pub ReadsPart : {A : Type 0} → Result A PartFault → Result A Cause → Type 0
ReadsPart (Ok x) read = read ≡ Ok x
ReadsPart (Err (part_fault.Refused c)) read = read ≡ Err c
ReadsPart (Err part_fault.Memory) read = Unit {0}

abbrev pub ReadsAs : {A : Type 0} → Result A ReadFault → Result A ReadFault → Type 0
ReadsAs (Ok x) read = read ≡ Ok x
ReadsAs (Err fault.Memory) read = Unit {0}
ReadsAs (Err e) read = read ≡ Err e

-- the same of a list that lies in a vector
abbrev pub ReadsList : {A : Type 0} → Result (Vec A) ReadFault → Result (List A) ReadFault → Type 0
ReadsList (Ok xs) read = read ≡ Ok xs.items
ReadsList (Err fault.Memory) read = Unit {0}
ReadsList (Err e) read = read ≡ Err e
