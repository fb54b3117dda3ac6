-- The names that proofs of this crate cite, of std, of the crates below and of its own specs.
-- Declares nothing.
pub use Rattle.std.proofs.Common.{All, AllPairs, Bool, Contains, Err, IfNone, IfOk, IfSome}
pub use Rattle.std.proofs.Common.{IsPermutation, IsTrue, List, None, Ok, OnErr, Option, Result}
pub use Rattle.std.proofs.Common.{Some, [], add-zero, ap, arith, cond, drop, eqb, false, filter}
pub use Rattle.std.proofs.Common.{get_or, inl, inr, le_of_eq, leb, length, ltb, map, nat_abs}
pub use Rattle.std.proofs.Common.{negsuc, not, of_z, pos, refl, replicate, reverse, rules, set}
pub use Rattle.std.proofs.Common.{slice_get, slice_index_or, subst, suc, sum, swap, sym, take, to_z}
pub use Rattle.std.proofs.Common.{true, true≢false, vec_len, w64, zero, zero-add, ℕ, ℤ, ◌&&◌, ◌*◌}
pub use Rattle.std.proofs.Common.{◌++◌, ◌+◌, ◌-ℤ◌, ◌-◌, ◌/◌, ◌<◌, ◌==◌, ◌^◌, ◌||◌, ◌↔◌, ◌∙◌, ◌∷◌}
pub use Rattle.std.proofs.Common.{◌≡◌, ◌≢◌, ◌≤ℤ◌, ◌≤◌, ◌⊎◌}
pub use Rattle.std.proofs.Math.Bool.{and-false, or-false, or-true, or_assoc, or_comm}
pub use Rattle.std.proofs.Math.ListN.{get_or-map as get_or_mapped}
pub use Rattle.std.proofs.Math.Nat.{min-eq_left, min-eq_right}
pub use Rattle.std.proofs.Math.Seq.{drop-append-add, drop-append_seam, take-add, take-append-add}
pub use Rattle.std.proofs.Math.Seq.{take-append_seam}
pub use Rattle.std.proofs.lemmas.Bool.{and_from, and_parts, cases_Bool, cases_eq, cases_lt}
pub use Rattle.std.proofs.lemmas.Bool.{cond-false, cond-true, eq-eqb, eqb-true, false_from_ne_true}
pub use Rattle.std.proofs.lemmas.Bool.{false≢true, le-leb, le-ltb, leb-true, lt-leb, lt-ltb}
pub use Rattle.std.proofs.lemmas.Bool.{ltb-true, ne_eqb}
pub use Rattle.std.proofs.lemmas.Bool.Decides.{Decides-eqb, nat_tests}
pub use Rattle.std.proofs.lemmas.Cmp.{eq_by_cmp_equiv}
pub use Rattle.std.proofs.lemmas.Grind.{common_steps}
pub use Rattle.std.proofs.lemmas.Int.{ints}
pub use Rattle.std.proofs.lemmas.List.{append-nil, append_assoc, append_cancel_right}
pub use Rattle.std.proofs.lemmas.List.{drop-append-le, drop-drop, drop-map, drop-set, drop-take}
pub use Rattle.std.proofs.lemmas.List.{drop_all, drop_at, drop_more, flat_map_more}
pub use Rattle.std.proofs.lemmas.List.{get_or-append-add, get_or-append_right, get_or-drop}
pub use Rattle.std.proofs.lemmas.List.{get_or-map, get_or-replicate, get_or-reverse}
pub use Rattle.std.proofs.lemmas.List.{get_or-set_other, get_or-set_same, get_or-take}
pub use Rattle.std.proofs.lemmas.List.{get_or_append_left, get_or_default, get_or_past, get_or_push}
pub use Rattle.std.proofs.lemmas.List.{get_or_read, length-append, length-drop, length-map}
pub use Rattle.std.proofs.lemmas.List.{length-replicate, length-reverse, length-set, length-take}
pub use Rattle.std.proofs.lemmas.List.{length-take-le, length_push, map-append, map_push}
pub use Rattle.std.proofs.lemmas.List.{nil_from_length, reverse-append, reverse-reverse, same_lists}
pub use Rattle.std.proofs.lemmas.List.{take-append-drop, take-append-le, take-map, take-set-le}
pub use Rattle.std.proofs.lemmas.List.{set-get_or, take-take, take_all, take_at, take_more}
pub use Rattle.std.proofs.lemmas.List.{take_rest, with_items_is}
pub use Rattle.std.proofs.lemmas.List.Edits.{Swapped, length-swap, swapped_from_swap}
pub use Rattle.std.proofs.lemmas.List.Elements.{All-append, All-cons, All-contains}
pub use Rattle.std.proofs.lemmas.List.Elements.{All-contains_itself, All-drop, All-filter, All-head}
pub use Rattle.std.proofs.lemmas.List.Elements.{All-map, All-nil, All-push, All-tail, All-take}
pub use Rattle.std.proofs.lemmas.List.Elements.{All-weaker, Contains-append_left}
pub use Rattle.std.proofs.lemmas.List.Elements.{Contains-append_right, Contains-get_or}
pub use Rattle.std.proofs.lemmas.List.Elements.{filter-append, filter_passes}
pub use Rattle.std.proofs.lemmas.List.Folds.{Any-from_list_any, flat_map-map, list_any-append}
pub use Rattle.std.proofs.lemmas.List.Folds.{list_any_at, list_any_none, map_fixed}
pub use Rattle.std.proofs.lemmas.List.FromFn.{get_or-range_with_len, length-range_with_len}
pub use Rattle.std.proofs.lemmas.List.Kept.{AllPairs-cons, AllPairs-filter}
pub use Rattle.std.proofs.lemmas.List.Quantifiers.{all_pairs_push}
pub use Rattle.std.proofs.lemmas.List.Sorted.{All-permutation, Contains-permutation}
pub use Rattle.std.proofs.lemmas.List.Sorted.{IsPermutation-append, IsPermutation-append_comm}
pub use Rattle.std.proofs.lemmas.List.Sorted.{IsPermutation-append_left, IsPermutation-append_right}
pub use Rattle.std.proofs.lemmas.List.Sorted.{IsPermutation-filter_both, IsPermutation-keeps}
pub use Rattle.std.proofs.lemmas.List.Sorted.{IsPermutation-refl, IsPermutation-reverse}
pub use Rattle.std.proofs.lemmas.List.Sorted.{IsPermutation-sym, IsPermutation-trans}
pub use Rattle.std.proofs.lemmas.List.Sorted.{length_permutation, list_any-IsPermutation}
pub use Rattle.std.proofs.lemmas.List.Sums.{sum_by-cons}
pub use Rattle.std.proofs.lemmas.Map.Views.{Contains-from_any, tells_apart}
pub use Rattle.std.proofs.lemmas.Nat.{div-mul-add}
pub use Rattle.std.proofs.lemmas.Option.{get_or_from_slice_get, slice_get-get_or, slice_get_read}
pub use Rattle.std.proofs.lemmas.Option.{slice_get_within}
pub use Rattle.std.proofs.lemmas.Simd.{map-map}
pub use Rattle.std.proofs.lemmas.Slice.Eq.{starts_is}
pub use Rattle.std.specs.FinMap.{find}
pub use Rattle.std.specs.List.{count_by, flat_map, list_any, range_with_len, starts_with}
pub use Rattle.std.specs.Ordering.{eq_by_cmp}
pub use Rattle.std.specs.Prelude.{if◌then◌else◌, min, nat_eq, vec_capacity}
pub use Rattle.std.specs.Result.{IfErr, IsErrAnd, IsErrOf}
pub use Rattle.std.specs.Simd.{first_chunks}
pub use Rattle.ent_handle.specs.Handle.{Handle, IsHandle, handle_cmp, handle_cmp-IsAntisymmetric}
pub use Rattle.ent_handle.specs.Handle.{handle_cmp_total}
pub use Rattle.ent_alloc.specs.Entities.{AreReserved, Entities, HasRowsOfLiving, allocator_of}
pub use Rattle.ent_alloc.specs.Entities.{beneath, entities_of, idle}
pub use Rattle.ent_alloc.specs.FirstFault.{Test, first_failing, first_fault, front_tests}
pub use Rattle.ent_alloc.specs.FirstFault.{generation_of, has_place, header_fault, header_in}
pub use Rattle.ent_alloc.specs.FirstFault.{header_tests, is_slot, is_taken, kind_in, number_in}
pub use Rattle.ent_alloc.specs.FirstFault.{position_test, slot_test, slots_tests, waits_at}
unfoldable pub use Rattle.ent_alloc.specs.FirstFault.{long_at, word_at}
pub use Rattle.ent_alloc.specs.Front.{AreSlotsOf, moved, new_waiting, placed, slots_of, waiting_at}
pub use Rattle.ent_alloc.specs.Front.{with_front}
pub use Rattle.ent_alloc.specs.History.{Call, IsLegal, after_history, given_in, handles_in}
pub use Rattle.ent_alloc.specs.History.{requests_of}
pub use Rattle.ent_alloc.specs.Image.{AreSlots, HasImage, header, image, kept_bytes, kind_of}
pub use Rattle.ent_alloc.specs.Image.{living_slot, magic, number_of, occupied, retired_slot, roster}
pub use Rattle.ent_alloc.specs.Image.{version, waiting_slot}
unfoldable pub use Rattle.ent_handle.specs.Bytes.{long, word}
unfoldable pub use Rattle.ent_alloc.specs.Image.{
  header_bytes,
  numbers_bytes,
  slot,
  slot_bytes,
  slots_bytes,
}
pub use Rattle.ent_alloc.specs.ImageRecords.{AreNumbers, AreRead, AreServed, CanWait, IsGeneration}
pub use Rattle.ent_alloc.specs.ImageRecords.{IsWritten, kept, kept_generation, record_bytes}
pub use Rattle.ent_alloc.specs.ImageRecords.{rowless_bytes, vacant, with_waiting, without_row}
pub use Rattle.ent_alloc.specs.ImageRecords.{without_row_of}
pub use Rattle.ent_alloc.specs.Limits.{AreLimits, Limits}
pub use Rattle.ent_alloc.specs.Portions.{AreUsed, after_portions, arranged, count_of, front_of}
pub use Rattle.ent_alloc.specs.Portions.{left_of, reach_of, size_of, used_of}
pub use Rattle.ent_alloc.specs.Reserved.{AreToList, handles_of, reserved_handles}
pub use Rattle.ent_alloc.specs.Roster.{Roster, freed_roster, retired_roster}
pub use Rattle.ent_alloc.specs.Runs.{IsRun, MayCome, Step, after_run, after_step, given_in_run}
pub use Rattle.ent_alloc.specs.Runs.{given_in_step}
pub use Rattle.ent_alloc.specs.Sequential.{Allocator, after_alloc, after_allocs, after_flush}
pub use Rattle.ent_alloc.specs.Sequential.{after_free, after_take, asked_at, available}
pub use Rattle.ent_alloc.specs.Sequential.{before_requests, born, cursor, following, has_slot}
pub use Rattle.ent_alloc.specs.Sequential.{in_front, is_fresh, is_old, listed, listed_alone}
pub use Rattle.ent_alloc.specs.Sequential.{made_at_flush, next, opening, pool_at, reply_from}
pub use Rattle.ent_alloc.specs.Sequential.{reply_to, retired, settled, stands_in, state_of, top}
unfoldable pub use Rattle.ent_alloc.specs.Sequential.{fresh}
pub use Rattle.ent_alloc.specs.Slots.{AreLinked, handle_at, is_alive, is_pending_from, lives}
pub use Rattle.ent_alloc.specs.Slots.{new_record, no_slot, occupancy_of, occupants, record_at}
pub use Rattle.ent_alloc.specs.Slots.{reuse, reused, roster_of, row_kept, row_of, rows_from}
pub use Rattle.ent_alloc.specs.Slots.{waits_from}
pub use Rattle.ent_alloc.specs.Sound.{AreApart, IsLive, IsSound, IsWithin}
pub use Rattle.ent_alloc.specs.Span.{IsSpanOf}
pub use Rattle.ent_alloc.specs.Spent.{AreSpent, IsSpent}
pub use Rattle.ent_alloc.specs.Within.{IsBeyond, allowed, slots_after_flush, within}
pub use Rattle.ent_alloc.specs.declared.fault.AllocFault.{AllocFault}
pub use Rattle.ent_alloc.specs.declared.image.Header.{Header}
pub use Rattle.ent_alloc.specs.declared.image_fault.ImageFault.{ImageFault}
pub use Rattle.ent_alloc.specs.declared.image_fault.ImageFault.TheVariants.{Bound, Counts, Length}
pub use Rattle.ent_alloc.specs.declared.image_fault.ImageFault.TheVariants.{Limits as BadLimits}
pub use Rattle.ent_alloc.specs.declared.image_fault.ImageFault.TheVariants.{Magic, Memory, Position}
pub use Rattle.ent_alloc.specs.declared.image_fault.ImageFault.TheVariants.{Slot, Version}
pub use Rattle.ent_alloc.specs.declared.portion.Portion.{Portion}
pub use Rattle.ent_alloc.specs.declared.refused.Refused.{Refused}
pub use Rattle.ent_alloc.specs.declared.requests.Requests.{Requests}
pub use Rattle.ent_alloc.specs.declared.reserve_error.ReserveError.{ReserveError}
pub use Rattle.ent_alloc.specs.declared.slot_record.Occupancy.{Occupancy}
pub use Rattle.ent_alloc.specs.declared.slot_record.Occupancy.TheVariants.{Alive, AliveWithRow}
pub use Rattle.ent_alloc.specs.declared.slot_record.Occupancy.TheVariants.{Pending, Retired}
pub use Rattle.ent_alloc.specs.declared.slot_record.SlotRecord.{SlotRecord}
pub use Rattle.ent_alloc.specs.declared.space.Space.{Space}
pub use Rattle.ent_alloc.specs.declared.span.Span.{Span}
pub use Rattle.ent_alloc.specs.declared.state.State.TheVariants.{Gone, Reserved}
