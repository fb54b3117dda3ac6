-- For models, private contracts and proofs: what the bytes of a queue are read back as.
use Rattle.std.specs.Prelude.{◌≡◌, ℕ, zero, suc, ◌*◌, ◌/◌, ◌%◌, ◌^◌, ◌==◌, ℤ, if◌then◌else◌, List}
use Rattle.std.specs.Prelude.{[], ◌∷◌, ◌++◌, length, take, drop, map, slice_index}
use Rattle.std.specs.List.{All}
use Rattle.std.specs.Int.{w16, w32, w64, cast_signed, from_le_bytes}
use Rattle.std.specs.Simd.{first_chunks}
use Rattle.ent_handle.specs.declared.component.ComponentId.{ComponentId}
use Rattle.ent_handle.specs.Handle.{Handle}
use Rattle.ent_alloc.specs.declared.refused.Refused.{Refused as Refusal}
use Rattle.ent_alloc.specs.declared.refused.Refused.TheVariants.{Space, Quota}
use Rattle.ent_storage.specs.Bundle.{Bundle}
use Rattle.ent_queue.specs.Command.{Command, Spawn, SpawnMany, Insert, Remove, Despawn}
use Rattle.ent_queue.specs.Command.{Refused, IsCommand}
use Rattle.ent_queue.specs.Packing.{command_bytes, queue_bytes}

-- the number in the first 2, 4 or 8 bytes
unfoldable pub number_2 : List ℕ → ℕ
number_2 bytes = from_le_bytes w16 (take 2 bytes)

unfoldable pub number_4 : List ℕ → ℕ
number_4 bytes = from_le_bytes w32 (take 4 bytes)

unfoldable pub number_8 : List ℕ → ℕ
number_8 bytes = from_le_bytes w64 (take 8 bytes)

-- the handle of these bits
abbrev pub handle_of_bits : ℕ → Handle
handle_of_bits n = record { index = n % 2 ^ 32; generation = n / 2 ^ 32 }

-- what the bytes begin with
abbrev pub unpacked_handle : List ℕ → Handle
unpacked_handle bytes = handle_of_bits (number_8 bytes)

abbrev pub unpacked_handles : ℕ → List ℕ → List Handle
unpacked_handles count bytes = map unpacked_handle (first_chunks 8 count bytes)

abbrev pub unpacked_item : List ℕ → ComponentId × ℤ
unpacked_item bytes =
    (record { 0 = slice_index bytes 0 }, cast_signed w64 (number_8 (drop 1 bytes)))

abbrev pub unpacked_bundle : List ℕ → Bundle
unpacked_bundle bytes = map unpacked_item (first_chunks 9 (number_2 bytes) (drop 2 bytes))

abbrev pub unpacked_refusal : ℕ → List ℕ → Refusal
unpacked_refusal wanted bytes =
    if slice_index bytes 0 == 1
    then Space wanted (number_8 (drop 1 bytes))
    else Quota (number_8 (drop 1 bytes))

-- the command whose parts follow the byte for its kind
abbrev pub command_of_kind : ℕ → List ℕ → Command
command_of_kind kind parts =
    if kind == 0 then Spawn (unpacked_handle parts) (unpacked_bundle (drop 8 parts))
    else (if kind == 1 then SpawnMany (unpacked_handles (number_4 parts) (drop 4 parts))
    (unpacked_bundle (drop (8 * number_4 parts) (drop 4 parts)))
    else (if kind == 2 then Insert (unpacked_handle parts) (unpacked_bundle (drop 8 parts))
    else (if kind == 3 then Remove (unpacked_handle parts)
    (record { 0 = slice_index (drop 8 parts) 0 })
    else (if kind == 4 then Despawn (unpacked_handle parts)
    else Refused (number_4 parts) (unpacked_refusal (number_4 parts) (drop 4 parts))))))

abbrev pub unpacked_command : List ℕ → Command
unpacked_command bytes = command_of_kind (slice_index bytes 0) (drop 1 bytes)

-- the bytes after the first command
abbrev pub after_first : List ℕ → List ℕ
after_first bytes = drop (length (command_bytes (unpacked_command bytes))) bytes

-- that many commands, one after the other
unfoldable pub unpacked_commands : ℕ → List ℕ → List Command
unpacked_commands zero bytes = []
unpacked_commands (suc count) bytes =
    unpacked_command bytes ∷ unpacked_commands count (after_first bytes)

-- The bytes are the packing of that many commands.
pub record ArePacked (count : ℕ) (bytes : List ℕ) : Type 0 where
  pub bytes_are : bytes ≡ queue_bytes (unpacked_commands count bytes)
  pub each : All IsCommand (unpacked_commands count bytes)

-- the bytes begin with a command
pub record BeginsWith (c : Command) (bytes rest : List ℕ) : Type 0 where
  pub is : IsCommand c
  pub bytes_are : bytes ≡ command_bytes c ++ rest
