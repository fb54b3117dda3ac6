-- What is at the place where a test of a script failed, and how it is shown.
use Rattle.std.specs.Prelude.{◌≡◌, ℕ, ◌≤◌, false, ◌||◌, ◌==◌, List, [], ◌∷◌, ◌++◌, Some, codes}
use Rattle.std.specs.Prelude.{if◌then◌else◌, length, Option, None, IfSome, unwrap_or}
use Rattle.std.specs.Prelude.{Bool, is_none, nat_lt, not, option_and_then, option_map, slice_get}
use Rattle.std.specs.Option.{option_or}
use Rattle.std.specs.Fmt.{decimal}
use Rattle.std.specs.List.{filter, flat_map, list_any}
use Rattle.std.specs.Str.{bytes_eq, chars}
use Rattle.serde_json.specs.Data.{Data, depth}
use Rattle.serde_json.specs.Find.{as_str, at, get}
use Rattle.serde_json.specs.Read.{read, max_depth}
use Rattle.serde_json.specs.View.{view}
use Rattle.serde_json.specs.Written.{compact_text, has_float}
use Rattle.ent_script.specs.Json.{elements, members, whole}
use Rattle.ent_script.specs.Names.{as_name}
use Rattle.ent_script.specs.Reading.{script_keys}
use Rattle.ent_script.specs.Sizes.{most_components}
use Rattle.ent_script.specs.declared.cause.Cause.{Cause}
use Rattle.ent_script.specs.declared.cause.Cause.TheVariants as cause
use Rattle.ent_script.specs.declared.read_fault.ReadFault.{ReadFault}
use Rattle.ent_script.specs.declared.read_fault.ReadFault.TheVariants as fault
use Rattle.ent_script.specs.declared.cause.ScriptCause.{ScriptCause}
use Rattle.ent_script.specs.declared.cause.ScriptCause.TheVariants as script_cause
use Rattle.ent_script.specs.Shown.{char_text, plain, front}
use Rattle.ent_script.specs.declared.found.instead.Instead.{Instead}
use Rattle.ent_script.specs.declared.found.instead.Instead.TheVariants as instead

pub data Place : Type 0 where
  absent : Place
  refused : Data → Place
  key : List ℕ → Place
  member : List ℕ → Data → Place
  twice : List ℕ → Place
  long : ℕ → Place

-- a JSON text of a value: the compact one, but that a number that is no integer has more than one
pub record IsJsonOf (d : Data) (text : List ℕ) : Type 0 where
  pub compact : has_float d ≡ false → text ≡ compact_text d
  pub reads : depth d ≤ max_depth → read text ≡ Some d

-- a character of a key: a quotation mark and a backslash have a backslash before them
abbrev pub key_char : ℕ → List ℕ
key_char c = if c == 34 || c == 92 then 92 ∷ c ∷ [] else char_text c

abbrev pub quoted : List ℕ → List ℕ
quoted text = codes "\"" ++ flat_map key_char (chars text) ++ codes "\""

-- its text in printable ASCII
abbrev pub Spells : Place → List ℕ → Type 0
Spells absent text = text ≡ codes "none"
Spells (refused d) text = (json : List ℕ) × IsJsonOf d json × (text ≡ plain json)
Spells (key k) text = text ≡ quoted k
Spells (member k d) text =
    (json : List ℕ) × IsJsonOf d json × (text ≡ quoted k ++ codes ":" ++ plain json)
Spells (twice k) text = text ≡ quoted k ++ codes " twice"
Spells (long n) text = text ≡ decimal n ++ codes " elements"

-- the front of that text
pub record Shows (place : Place) (shown : List ℕ) : Type 0 where
  pub text : List ℕ
  pub spells : Spells place text
  pub is : shown ≡ front text

-- what is there instead
abbrev pub place_of : Instead → Place
place_of instead.Absent = absent
place_of (instead.Refused value) = refused (view value.now)
place_of (instead.Key k) = key k.now
place_of (instead.Member k value) = member k.now (view value.now)
place_of (instead.Twice name) = twice name.now
place_of (instead.Long count) = long count

-- ---- which place it is

abbrev pub at_place : Option Data → Place
at_place None = absent
at_place (Some d) = refused d

-- a list that is too long, or what is there instead of a list
abbrev pub list_place : Option Data → Place
list_place part =
    unwrap_or (option_map (λ ds. long (length ds)) (option_and_then elements part)) (at_place part)

abbrev pub frame_in : Data → ℕ → Option Data
frame_in d frame = option_and_then (at frame) (get (codes "frames") d)

abbrev pub system_in : Data → ℕ → ℕ → Option Data
system_in d frame system = option_and_then (at system) (frame_in d frame)

abbrev pub operation_in : Data → ℕ → ℕ → ℕ → Option Data
operation_in d frame system operation =
    option_and_then (at operation) (system_in d frame system)

abbrev pub bundle_in : Data → Option Data
bundle_in d =
    option_or (option_or (get (codes "spawn") d) (get (codes "with") d)) (get (codes "insert") d)

abbrev pub target_in : Data → Option Data
target_in d = option_or (get (codes "on") d) (get (codes "despawn") d)

-- the value under a key of the target
abbrev pub under : List ℕ → Data → Option Data
under name d = option_and_then (get name) (target_in d)

-- it is one of these
abbrev pub is_among : List (List ℕ) → List ℕ → Bool
is_among known text = list_any (λ name. bytes_eq text name) known

-- the first of these members whose key is none that is known
abbrev pub key_but : (List ℕ → Bool) → List (List ℕ × Data) → Option (List ℕ)
key_but is_known ms = option_map (λ m. m.0) (slice_get (filter (λ m. not (is_known m.0)) ms) 0)

abbrev pub key_place : Option (List ℕ) → Place
key_place None = absent
key_place (Some k) = key k

-- the values that a script lists as its components
abbrev pub listed_in : Data → List Data
listed_in d = unwrap_or (option_and_then elements (get (codes "components") d)) []

abbrev pub is_text : List ℕ → Data → Bool
is_text text d = unwrap_or (option_map (bytes_eq text) (as_str d)) false

-- one of these values is this text
abbrev pub is_listed : List Data → List ℕ → Bool
is_listed listed text = list_any (is_text text) listed

-- what is removed, unless it is listed; else what the target has
abbrev pub removed_place : (List ℕ → Bool) → Option Data → Option Data → Place
removed_place is_listed None target = at_place target
removed_place is_listed (Some d) target =
    if unwrap_or (option_map is_listed (as_str d)) false then at_place target else refused d

abbrev pub key_or : Option (List ℕ) → Place → Place
key_or None other = other
key_or (Some k) other = key k

-- the first component that is not listed: of a bundle, or that is removed, or of a target
abbrev pub component_place : (List ℕ → Bool) → Option Data → Option Data → Option Data → Place
component_place is_listed bundle removed target =
    key_or (option_and_then (key_but is_listed) (option_and_then members bundle))
    (removed_place is_listed removed target)

-- a value that is no name, or a name that an earlier value is, or else another place
abbrev pub name_place : Option (List ℕ) → Data → List Data → Place → Place
name_place None d earlier other = refused d
name_place (Some text) d earlier other = if is_listed earlier text then twice text else other

-- the first of these values that is no name or that an earlier one is too
abbrev pub bad_name : List Data → List Data → Place
bad_name earlier [] = absent
bad_name earlier (d ∷ ds) = name_place (as_name d) d earlier (bad_name (earlier ++ d ∷ []) ds)

abbrev pub bad_in : List Data → Place
bad_in ds = if nat_lt most_components (length ds) then long (length ds) else bad_name [] ds

-- a list of names that is too long, its first that is bad, or what is there instead of a list
abbrev pub names_place : Option Data → Place
names_place part =
    unwrap_or (option_map bad_in (option_and_then elements part)) (at_place part)

-- the first of these members whose value is no whole number
abbrev pub unwhole_in : List (List ℕ × Data) → Option (List ℕ × Data)
unwhole_in ms = slice_get (filter (λ m. is_none (whole m.1)) ms) 0

abbrev pub member_place : Option (List ℕ × Data) → Place
member_place None = absent
member_place (Some m) = member m.0 m.1

-- the place of a cause in an operation of the script
abbrev pub operation_place : Data → Data → Cause → Place
operation_place script d cause.Shape = refused d
operation_place script d cause.Bundle = at_place (bundle_in d)
operation_place script d cause.Component =
    component_place (is_listed (listed_in script)) (bundle_in d) (get (codes "remove") d)
    (under (codes "each") d)
operation_place script d cause.Value =
    member_place (option_and_then unwhole_in (option_and_then members (bundle_in d)))
operation_place script d cause.Count = at_place (get (codes "spawn_many") d)
operation_place script d cause.Name =
    at_place (option_or (get (codes "as") d) (under (codes "name") d))
operation_place script d cause.Target = at_place (target_in d)
operation_place script d cause.Handle = at_place (under (codes "handle") d)
operation_place script d cause.Birth = at_place (under (codes "birth") d)

-- the place of a cause outside the frames
abbrev pub script_place : Data → ScriptCause → Place
script_place d script_cause.Top = refused d
script_place d script_cause.Key =
    key_place (option_and_then (key_but (is_among script_keys)) (members d))
script_place d script_cause.Format = at_place (get (codes "format") d)
script_place d script_cause.Slots = at_place (get (codes "slots") d)
script_place d script_cause.Generations = at_place (get (codes "generations") d)
script_place d script_cause.Components = names_place (get (codes "components") d)
script_place d script_cause.Frames = list_place (get (codes "frames") d)

-- the place of a fault in a value, if the fault alone says which one it is
abbrev pub place_in : Data → ReadFault → Option Place
place_in d (fault.Script c) = Some (script_place d c)
place_in d (fault.Frame f) = Some (list_place (frame_in d f))
place_in d (fault.System f s) = Some (list_place (system_in d f s))
place_in d (fault.Operation f s o c) =
    option_map (λ op. operation_place d op c) (operation_in d f s o)
place_in d other = None

-- it is at the place of this fault
abbrev pub IsPlaceOf : Data → ReadFault → Place → Type 0
IsPlaceOf d e place = IfSome (place_in d e) (λ known. place ≡ known)
