-- The names that proofs of this crate cite, of std, of the crates below and of its own specs.
-- Declares nothing.
pub use Rattle.std.proofs.Common.{Bool, Contains, Err, IfErr, IfNone, IfOk, IfSome, IsSome}
pub use Rattle.std.proofs.Common.{IsSomeAnd, IsTrue, List, MutBor, None, Ok, OnErr, OnOk, Option}
pub use Rattle.std.proofs.Common.{Ordering, Result, Some, T, [], add-one, ap, arith, cond, drop}
pub use Rattle.std.proofs.Common.{eqb, eqb-true, false, filter, get_or, inl, inr, is_none, is_some}
pub use Rattle.std.proofs.Common.{length, lt-ltb, ltb, map, map as mapped, min, not, pos, refl}
pub use Rattle.std.proofs.Common.{replicate, reverse, rules, set, slice_get, subst, suc, sym, take}
pub use Rattle.std.proofs.Common.{true, true≢false, vec_len, zero, ℕ, ℤ, ◌&&◌, ◌*◌, ◌++◌, ◌+◌, ◌-◌}
pub use Rattle.std.proofs.Common.{◌<◌, ◌^◌, ◌||◌, ◌↔◌, ◌∙◌, ◌∷◌, ◌≡◌, ◌≢◌, ◌≤◌, ◌⊎◌}
pub use Rattle.std.proofs.Math.Facts.{Fits-lt-pow, Fits-of_z}
pub use Rattle.std.proofs.Math.Seq.{take-append_seam}
pub use Rattle.std.proofs.lemmas.Bool.{cases_eq, cases_lt, cases_order, eq-eqb, false_from_ne_true}
pub use Rattle.std.proofs.lemmas.Bool.{false≢true, or_right}
pub use Rattle.std.proofs.lemmas.Bool.Decides.{nat_tests}
pub use Rattle.std.proofs.lemmas.Fn.{filter_same}
pub use Rattle.std.proofs.lemmas.Grind.{common_steps}
pub use Rattle.std.proofs.lemmas.Int.{to_z-of_z}
pub use Rattle.std.proofs.lemmas.List.{append-nil, append_assoc, at_drop_more, drop-set-lt}
pub use Rattle.std.proofs.lemmas.List.{drop_all, drop_more, flat_map_more, get_or-map}
pub use Rattle.std.proofs.lemmas.List.{get_or-set_other, get_or-set_same, get_or-take}
pub use Rattle.std.proofs.lemmas.List.{get_or_append_left, get_or_default, get_or_past, get_or_push}
pub use Rattle.std.proofs.lemmas.List.{length-append, length-map, length-replicate, length-set}
pub use Rattle.std.proofs.lemmas.List.{length-take, length-take-le, length_push, map-set, map_more}
pub use Rattle.std.proofs.lemmas.List.{map_push, nil_from_length, same_lists, take-append-drop}
pub use Rattle.std.proofs.lemmas.List.{set_at, take_all, take_more, take_more_set}
pub use Rattle.std.proofs.lemmas.List.Concat.{flat_map-append}
pub use Rattle.std.proofs.lemmas.List.Edits.{get_or-insert_above, get_or-insert_at}
pub use Rattle.std.proofs.lemmas.List.Edits.{get_or-insert_below, insert_end, length-insert}
pub use Rattle.std.proofs.lemmas.List.Elements.{All-cons, All-contains, All-filter, All-head}
pub use Rattle.std.proofs.lemmas.List.Elements.{All-map, All-nil, All-tail, Contains-append_left}
pub use Rattle.std.proofs.lemmas.List.Elements.{Contains-append_right, Contains-push}
pub use Rattle.std.proofs.lemmas.List.Elements.{Contains-push_cases, all_zip_more, filter_passes}
pub use Rattle.std.proofs.lemmas.List.Elements.{length_all_zip}
pub use Rattle.std.proofs.lemmas.List.Filters.{length-filter_more}
pub use Rattle.std.proofs.lemmas.List.Kept.{AllPairs-cons, AllPairs-filter}
pub use Rattle.std.proofs.lemmas.List.Sorted.{All-permutation, Contains-permutation}
pub use Rattle.std.proofs.lemmas.List.Sorted.{IsPermutation-trans, answers_always, ranks_by}
pub use Rattle.std.proofs.lemmas.List.Sorted.{searchable_from_sorted, searched, sorted_far}
pub use Rattle.std.proofs.lemmas.Map.Keys.{IsDistinct-IsPermutation, IsDistinct-from_apart}
pub use Rattle.std.proofs.lemmas.Map.Keys.{apart_from_distinct}
pub use Rattle.std.proofs.lemmas.Map.Made.{Contains-tail}
pub use Rattle.std.proofs.lemmas.Map.Steps.{length-le_from_distinct_below}
pub use Rattle.std.proofs.lemmas.Map.Views.{Contains-from_any}
pub use Rattle.std.proofs.lemmas.Option.{IfSome_then, get_or_from_slice_get, none-some}
pub use Rattle.std.proofs.lemmas.Option.{option_and_then_some, same_Some, slice_get-get_or}
pub use Rattle.std.proofs.lemmas.Option.{slice_get-map, slice_get_cases, slice_get_past}
pub use Rattle.std.proofs.lemmas.Option.{slice_get_read, slice_get_within, some_pair_parts}
pub use Rattle.std.proofs.lemmas.Result.{IfOk-weaker, on_err_weaker, on_ok_weaker}
pub use Rattle.std.specs.Cmp.{IsTotalOrder, eq_by_cmp_equiv, nat_cmp_total, on_total, then_total}
pub use Rattle.std.specs.Cmp.{tied_itself}
pub use Rattle.std.specs.Cmp.Lexicographic.{options_total}
pub use Rattle.std.specs.FinMap.{FinMap, IsAntisymmetric, contains_key as fin_contains_key}
pub use Rattle.std.specs.FinMap.{empty as fin_empty, empty_of_len as fin_empty_of_len}
pub use Rattle.std.specs.FinMap.{entries as fin_entries}
pub use Rattle.std.specs.FinMap.{entries-from_sorted as fin_entries-from_sorted}
pub use Rattle.std.specs.FinMap.{entries-insert as fin_entries-insert, find}
pub use Rattle.std.specs.FinMap.{from_entries as fin_from_entries}
pub use Rattle.std.specs.FinMap.{from_entries_push as fin_from_entries_push}
pub use Rattle.std.specs.FinMap.{from_sorted as fin_from_sorted, get as fin_get}
pub use Rattle.std.specs.FinMap.{get-empty as fin_get-empty}
pub use Rattle.std.specs.FinMap.{get-from_entries as fin_get-from_entries}
pub use Rattle.std.specs.FinMap.{get-from_sorted as fin_get-from_sorted}
pub use Rattle.std.specs.FinMap.{get-insert as fin_get-insert, get-remove as fin_get-remove}
pub use Rattle.std.specs.FinMap.{get-retain_keys as fin_get-retain_keys, insert as fin_insert}
pub use Rattle.std.specs.FinMap.{is_sorted, keys as fin_keys, len as fin_len}
pub use Rattle.std.specs.FinMap.{len-empty as fin_len-empty, len-entries as fin_len-entries}
pub use Rattle.std.specs.FinMap.{len-insert as fin_len-insert, nat_cmp-IsAntisymmetric, put}
pub use Rattle.std.specs.FinMap.{remove as fin_remove, same_entries_map as fin_same_entries_map}
pub use Rattle.std.specs.FinMap.{same_map as fin_same_map, values as fin_values}
pub use Rattle.std.specs.FinMap.Entries.{below_all, by_order, find-put, is_sorted-put, length-put}
pub use Rattle.std.specs.FinMap.Entries.{same_entries as fin_same_entries}
pub use Rattle.std.specs.Int.{cast_signed, cast_unsigned, w64}
pub use Rattle.std.specs.Int.RustNames.{FitsSigned}
pub use Rattle.std.specs.List.{All, AllPairs, AllWithin, AllZip, HoldsAt, IsDistinct, count_by}
pub use Rattle.std.specs.List.{flat_map, insert, list_any, range_with_len, refill}
pub use Rattle.std.specs.List.Sorted.{IsBinarySearchResult, IsSearchInRange}
pub use Rattle.std.specs.Map.Calls.{MayWrite}
pub use Rattle.std.specs.Option.{option_map}
pub use Rattle.std.specs.Ordering.{eq_by_cmp, is_eq, is_lt, nat_cmp, ordering_reverse}
pub use Rattle.std.specs.Ordering.{ordering_then}
pub use Rattle.std.specs.Prelude.{option_and_then, vec_capacity}
pub use Rattle.std.specs.Slice.Iter.{iter_rest}
pub use Rattle.std.specs.Vec.Iter.{into_iter_items, into_iter_len}
pub use Rattle.std.specs.declared.cmp.Ordering.TheVariants.{Equal, Greater, Less}
pub use Rattle.ent_handle.specs.Birth.{birth_cmp, birth_cmp_total}
pub use Rattle.ent_handle.specs.Component.{component_cmp, component_cmp-IsAntisymmetric}
pub use Rattle.ent_handle.specs.Component.{component_cmp_total}
pub use Rattle.ent_handle.specs.HandedBack.{HandedBack}
pub use Rattle.ent_handle.specs.Handle.{Handle, handle_cmp, handle_cmp-IsAntisymmetric}
pub use Rattle.ent_handle.specs.Handle.{handle_cmp-IsAntisymmetric as same, handle_cmp_total}
pub use Rattle.ent_handle.specs.Handle.{handle_cmp_total as total, handle_eq}
pub use Rattle.ent_handle.specs.declared.birth.Birth.{Birth}
pub use Rattle.ent_handle.specs.declared.component.ComponentId.{ComponentId}
pub use mathlib.Core.Bool.{Bool-set}
pub use mathlib.Core.List.{reverse_aux}
pub use Rattle.ent_storage.specs.BirthOrder.{IsInOrder, IsLeastOf, ListsAll, ListsByBirth}
pub use Rattle.ent_storage.specs.BirthOrder.{ListsWith, birth_order, packed_birth, pair_cmp}
pub use Rattle.ent_storage.specs.Bundle.{Bundle, IsBundle, IsItem, bundle_of, with_put}
pub use Rattle.ent_storage.specs.Components.{Components, missing, with_items}
pub use Rattle.ent_storage.specs.Copies.{IsCopy}
pub use Rattle.ent_storage.specs.EntityMap.{AreBare, Entity, EntityMap, Store, birth_of}
pub use Rattle.ent_storage.specs.EntityMap.{components_of, value_at_place, value_of, with_birth}
pub use Rattle.ent_storage.specs.EntityMap.{with_components}
pub use Rattle.ent_storage.specs.Entry.{IsFilled, entry_value, with_value as with_entry_value}
pub use Rattle.ent_storage.specs.FirstFault.{AreFirst, HasFault, IsNoEntity}
pub use Rattle.ent_storage.specs.HandleMap.{HandleMap, HandleValues, HasLater, error_of}
pub use Rattle.ent_storage.specs.HandleMap.{same_handle, some_written, with_written, without_slot}
pub use Rattle.ent_storage.specs.Image.{AreStored, IsBirth, IsStored, birth_bytes, component}
pub use Rattle.ent_storage.specs.Image.{entities_bytes, is_held, value_bytes, values_bytes}
pub use Rattle.ent_storage.specs.Image.{width_below}
unfoldable pub use Rattle.ent_handle.specs.Bytes.{long, word}
unfoldable pub use Rattle.ent_storage.specs.Image.{entity_bytes, width}
pub use Rattle.ent_storage.specs.Indexed.{AreApart, HasAll, IsFree, IsIndexed, IsKeptIndex, Keeps}
pub use Rattle.ent_storage.specs.Indexed.{counted}
pub use Rattle.ent_storage.specs.Indexed.{entity_of, handles_by_place, has_handle_at, map_of}
pub use Rattle.ent_storage.specs.Living.{AreColumnsOf, AreInUse, IsMovedInto, IsValueAt, Living}
pub use Rattle.ent_storage.specs.Living.{LivingEntity, born_at, change_at, column_at, components_at}
pub use Rattle.ent_storage.specs.Living.{entities_from, items_from, items_of, value_at}
pub use Rattle.ent_storage.specs.Living.{with_birth_at, with_value}
pub use Rattle.ent_storage.specs.Places.{AreWithout, Places}
pub use Rattle.ent_storage.specs.Position.{IsAt, IsGapFor}
pub use Rattle.ent_storage.specs.Retained.{CalledAt, Retains, RetainsSlot}
pub use Rattle.ent_storage.specs.Slots.{AreCounted, AreSlotClones, any_value, count_at}
pub use Rattle.ent_storage.specs.Slots.{entries_from, generation_of, handle_in, map_of_slots}
pub use Rattle.ent_storage.specs.Slots.{padded, slot_at, value_in, value_under}
pub use Rattle.ent_storage.specs.SparseMap.{AreCloned, AreEntries, IsEntryClone}
pub use Rattle.ent_storage.specs.SparseMap.{IsFree as IsFreeSlot, IsPositioned, SparseMap}
pub use Rattle.ent_storage.specs.SparseMap.{some_written as some_written_in, values_of}
pub use Rattle.ent_storage.specs.SparseMap.{with_written_in}
pub use Rattle.ent_storage.specs.SparseSet.{Column, Fits, HasRoomAt, HasRoomFor, IsDense}
pub use Rattle.ent_storage.specs.SparseSet.{IsMovedDown, Values, no_column}
pub use Rattle.ent_storage.specs.declared.handle_map.entry.OccupiedEntry.{OccupiedEntry}
pub use Rattle.ent_storage.specs.declared.handle_map.error.InsertError.TheVariants.{Later, Memory}
pub use Rattle.ent_storage.specs.declared.handle_map.error.InsertError.{InsertError}
pub use Rattle.ent_storage.specs.declared.handle_map.slot.Slot.{Slot}
pub use Rattle.ent_storage.specs.declared.handle_map.slot.Slot.TheVariants.{Occupied, Vacant}
pub use Rattle.ent_storage.specs.declared.living.Resident.{Resident}
pub use Rattle.ent_storage.specs.SparseEntry.{IsFilled as IsFilledIn, entry_value as entry_value_in}
pub use Rattle.ent_storage.specs.SparseEntry.{with_value as with_value_in}
pub use Rattle.ent_storage.specs.declared.sparse_map.entry.OccupiedEntry.{OccupiedEntry as OccupiedEntryIn}
pub use Rattle.ent_storage.specs.declared.image_fault.StorageImageFault.TheVariants.{Entity as NoEntity}
