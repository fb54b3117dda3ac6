-- A queue as bytes: its commands one after the other, each a byte for its kind and then its parts.
-- All numbers are little endian.
use Rattle.std.specs.Prelude.{ℕ, ℤ, List, [], ◌∷◌, ◌++◌, length}
use Rattle.std.specs.List.{flat_map}
use Rattle.std.specs.Int.{w16, w32, w64, cast_unsigned, to_le_bytes}
use Rattle.ent_handle.specs.declared.component.ComponentId.{ComponentId}
use Rattle.ent_handle.specs.Handle.{Handle, bits}
use Rattle.ent_alloc.specs.declared.refused.Refused.{Refused as Refusal}
use Rattle.ent_alloc.specs.declared.refused.Refused.TheVariants.{Space, Quota}
use Rattle.ent_storage.specs.Bundle.{Bundle}
use Rattle.ent_queue.specs.Command.{Command, Spawn, SpawnMany, Insert, Remove, Despawn}
use Rattle.ent_queue.specs.Command.{Refused}

-- a number in 2, in 4 and in 8 bytes
unfoldable pub bytes_2 : ℕ → List ℕ
bytes_2 n = to_le_bytes w16 n

unfoldable pub bytes_4 : ℕ → List ℕ
bytes_4 n = to_le_bytes w32 n

unfoldable pub bytes_8 : ℕ → List ℕ
bytes_8 n = to_le_bytes w64 n

-- a handle in its bits
abbrev pub handle_bytes : Handle → List ℕ
handle_bytes h = bytes_8 (bits h)

-- the component's number, and its value in two's complement
abbrev pub item_bytes : ComponentId × ℤ → List ℕ
item_bytes item = item.0.0 ∷ bytes_8 (cast_unsigned w64 item.1)

-- how many items, then the items
abbrev pub bundle_bytes : Bundle → List ℕ
bundle_bytes items = bytes_2 (length items) ++ flat_map item_bytes items

-- 1 and how many handles were left, or 2 and how much quota
abbrev pub refusal_bytes : Refusal → List ℕ
refusal_bytes (Space wanted left) = 1 ∷ bytes_8 left
refusal_bytes (Quota left) = 2 ∷ bytes_8 left

abbrev pub command_bytes : Command → List ℕ
command_bytes (Spawn h items) = 0 ∷ (handle_bytes h ++ bundle_bytes items)
command_bytes (SpawnMany hs items) =
    1 ∷ (bytes_4 (length hs) ++ (flat_map handle_bytes hs ++ bundle_bytes items))
command_bytes (Insert h items) = 2 ∷ (handle_bytes h ++ bundle_bytes items)
command_bytes (Remove h id) = 3 ∷ (handle_bytes h ++ id.0 ∷ [])
command_bytes (Despawn h) = 4 ∷ handle_bytes h
command_bytes (Refused wanted why) = 5 ∷ (bytes_4 wanted ++ refusal_bytes why)

abbrev pub queue_bytes : List Command → List ℕ
queue_bytes commands = flat_map command_bytes commands
