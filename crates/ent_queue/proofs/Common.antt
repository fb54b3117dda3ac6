-- The names that proofs of this crate cite, of std, of the crates below and of its own specs.
-- Declares nothing.
pub use Rattle.std.proofs.Common.{Err, Fits, Global, IfErr, IfOk, IsErrOf, IsTrue, List, Ok, OnErr}
pub use Rattle.std.proofs.Common.{OnOk, Result, Vec, [], ap, append-nil, append_assoc, arith, drop}
pub use Rattle.std.proofs.Common.{inl, inr, length, length-append, map, nat_eq, refl, rules}
pub use Rattle.std.proofs.Common.{slice_index, subst, suc, sym, take, vec_capacity, vec_len, zero}
pub use Rattle.std.proofs.Common.{ℕ, ℤ, ◌*◌, ◌++◌, ◌+◌, ◌-◌, ◌<◌, ◌^◌, ◌∙◌, ◌∷◌, ◌≡◌, ◌≤◌}
pub use Rattle.std.proofs.Math.Facts.{Fits-lt-pow, Fits-of_lt, Fits-of_z}
pub use Rattle.std.proofs.Math.Seq.{drop-append_seam}
pub use Rattle.std.proofs.lemmas.Bool.{cases_lt}
pub use Rattle.std.proofs.lemmas.Grind.{common_steps, flat_map-append}
pub use Rattle.std.proofs.lemmas.Int.{to_z-of_z}
pub use Rattle.std.proofs.lemmas.List.{drop-take, length-map, map-append, take_more}
pub use Rattle.std.proofs.lemmas.List.Elements.{All-append, All-cons, All-head, All-nil, All-push}
pub use Rattle.std.proofs.lemmas.List.Elements.{All-tail}
pub use Rattle.std.proofs.lemmas.List.Sums.{sum_by-append, sum_by-cons}
pub use Rattle.std.proofs.lemmas.Nat.{from_le_bytes-to_le_bytes_2, from_le_bytes-to_le_bytes_4}
pub use Rattle.std.proofs.lemmas.Nat.{from_le_bytes-to_le_bytes_8}
pub use Rattle.std.specs.Int.{cast_unsigned, w64}
pub use Rattle.std.specs.Int.RustNames.{FitsSigned}
pub use Rattle.std.specs.List.{All, flat_map, sum_by}
pub use Rattle.std.specs.Simd.{first_chunks}
pub use Rattle.ent_alloc.specs.Fault.{as_reserve_error}
pub use Rattle.ent_alloc.specs.Sequential.{Allocator, listed, listed_alone}
pub use Rattle.ent_alloc.proofs.Served.{one_served, served_none, served_one, served_parts}
pub use Rattle.ent_alloc.proofs.Served.{served_then}
pub use Rattle.ent_alloc.specs.Serving.{AreServed, Replying, Request, SaysWanted}
pub use Rattle.ent_alloc.specs.declared.refused.Refused.{Refused as Refusal}
pub use Rattle.ent_alloc.specs.declared.refused.Refused.TheVariants.{Quota, Space}
pub use Rattle.ent_alloc.specs.declared.reserve_error.ReserveError.{ReserveError as QueueFault}
pub use Rattle.ent_blocks.specs.Blocks.{Block, after_use}
pub use Rattle.ent_blocks.specs.Drawing.{IsDrawn}
pub use Rattle.ent_handle.specs.Handle.{Handle, IsHandle, bits}
pub use Rattle.ent_handle.specs.declared.component.ComponentId.{ComponentId}
pub use Rattle.ent_handle.specs.declared.memory.Memory.{Memory}
pub use Rattle.ent_log.specs.Spawning.{refused_by as refusal_entered, returned}
pub use Rattle.ent_log.specs.declared.entry.Entry.{Entry}
pub use Rattle.ent_shared.specs.Phase.{Reserver, Shared}
pub use Rattle.ent_shared.specs.Record.{after_reservation, reservation_at}
pub use Rattle.ent_shared.specs.Replies.{IsReturned}
pub use Rattle.ent_shared.specs.declared.record.Record.{Record}
pub use Rattle.ent_storage.proofs.Few.{few_items}
pub use Rattle.ent_storage.specs.Bundle.{Bundle, IsBundle, IsItem}
pub use Rattle.ent_queue.specs.Command.{Command, Despawn, HasRange, Insert, IsCommand, IsRefusal}
pub use Rattle.ent_queue.specs.Command.{Refused, Remove, Spawn, SpawnMany}
pub use Rattle.ent_queue.specs.declared.commands.Commands.{Commands}
pub use Rattle.ent_queue.specs.Commands.{Extends, IsReady, output_of, reserver_of, source_of}
pub use Rattle.ent_queue.specs.Drawing.{AreDrawnBy, Draws, IsDrawnBy, after_commands, used_by}
pub use Rattle.ent_queue.specs.Entry.{command_of}
pub use Rattle.ent_queue.specs.Issuing.{Issues}
pub use Rattle.ent_queue.specs.Logging.{Logs, request_of}
pub use Rattle.ent_queue.specs.Packing.{bundle_bytes, command_bytes, handle_bytes, item_bytes}
pub use Rattle.ent_queue.specs.Packing.{queue_bytes, refusal_bytes}
unfoldable pub use Rattle.ent_queue.specs.Packing.{bytes_2, bytes_4, bytes_8}
pub use Rattle.ent_queue.specs.Reserving.{FitQuota, FitsQuota, Gains, as_list, cost, queued}
pub use Rattle.ent_queue.specs.Reserving.{refused_by, requests_of, stands_for}
pub use Rattle.ent_queue.specs.Unpacking.{ArePacked, BeginsWith, after_first, command_of_kind}
pub use Rattle.ent_queue.specs.Unpacking.{handle_of_bits, unpacked_bundle, unpacked_command}
pub use Rattle.ent_queue.specs.Unpacking.{unpacked_handle, unpacked_handles, unpacked_item}
pub use Rattle.ent_queue.specs.Unpacking.{unpacked_refusal}
unfoldable pub use Rattle.ent_queue.specs.Unpacking.{
  number_2,
  number_4,
  number_8,
  unpacked_commands,
}
