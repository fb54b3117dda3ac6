-- The text of a world: its entities in the order of births, and how many there are.
use Rattle.std.specs.Prelude.{◌≡◌, ℕ, ℤ, List, [], ◌∷◌, ◌++◌, codes, slice_get, unwrap_or}
use Rattle.std.specs.Fmt.{decimal, signed_decimal}
use Rattle.std.specs.List.{flat_map}
use Rattle.std.specs.Option.{option_map_or}
use Rattle.std.specs.FinMap as map
use Rattle.ent_handle.specs.declared.birth.Birth.{Birth}
use Rattle.ent_handle.specs.declared.component.ComponentId.{ComponentId}
use Rattle.ent_handle.specs.Handle.{Handle}
use Rattle.ent_storage.specs.EntityMap.{EntityMap}
use Rattle.ent_storage.specs.BirthOrder.{ListsAll}
use Rattle.spawnrun_lib.specs.declared.show.Show.{Show}
use Rattle.spawnrun_lib.specs.FrameText.{shown_handle}

-- which handle of which system, a dot before each number
abbrev pub within_frame_text : Birth → List ℕ
within_frame_text b = codes "." ++ decimal b.system ++ codes "." ++ decimal b.ordinal

-- the three numbers of a birth, with dots between
abbrev pub birth_text : Birth → List ℕ
birth_text b = decimal b.frame ++ within_frame_text b

-- the name at the component's number in the list; nothing if the list is too short
abbrev pub component_name : List (List ℕ) → ComponentId → List ℕ
component_name names id = unwrap_or (slice_get names id.0) []

-- a space, the component's name, `=`, and its value
abbrev pub item_text : List (List ℕ) → ComponentId × ℤ → List ℕ
item_text names item =
    codes " " ++ component_name names item.0 ++ codes "=" ++ signed_decimal item.1

-- the birth, the handle if handles are shown, and the components by rising number
abbrev pub entity_line : List (List ℕ) → Show → Handle → Birth → List (ComponentId × ℤ) → List ℕ
entity_line names s h birth items =
    birth_text birth ++ shown_handle s h ++ flat_map (item_text names) items ++ 10 ∷ []

-- the line of the entity under that handle; nothing if there is none
abbrev pub line_in : List (List ℕ) → Show → EntityMap → Handle → List ℕ
line_in names s m h =
    option_map_or (λ e. entity_line names s h e.birth (map.entries e.components)) (map.get m h) []

abbrev pub alive_line : ℕ → List ℕ
alive_line count = codes "alive " ++ decimal count ++ 10 ∷ []

-- The text has a line for each entity in the order of births, and then how many there are.
pub record IsWorldText (names : List (List ℕ)) (s : Show) (m : EntityMap) (text : List ℕ)
    : Type 0 where
  pub handles : List Handle
  pub lists : ListsAll m handles
  pub is : text ≡ flat_map (line_in names s m) handles ++ alive_line (map.len m)
