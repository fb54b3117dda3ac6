-- The lemmas that close goals without an answer: the prover tries them together at each such goal
-- of this crate.
use Rattle.ent_storage.proofs.Common.{common_steps, to_z-of_z, append_assoc, get_or_default}
use Rattle.ent_storage.proofs.Common.{length-map, all_zip_more, get_or_from_slice_get, none-some}
use Rattle.ent_storage.proofs.Common.{same_Some, slice_get-get_or, slice_get_within, on_err_weaker}
use Rattle.ent_storage.proofs.Common.{on_ok_weaker, some_written, map_of_slots, some_written_in}
use Rattle.ent_storage.proofs.Clones.{cloned_values}
use Rattle.ent_storage.proofs.ColumnsAtPlaces.{column_kept, column_set, components_remove}
use Rattle.ent_storage.proofs.ColumnsAtPlaces.{entries_components, remove_others, room_inside}
use Rattle.ent_storage.proofs.ColumnsAtPlaces.{taken_none}
use Rattle.ent_storage.proofs.Copied.{entities_same, fits, some_values, entities_copied, no_places}
use Rattle.ent_storage.proofs.Counted.{swept_has}
use Rattle.ent_storage.proofs.Dense.{at, missing as dense_missing, moved_down, not_past}
use Rattle.ent_storage.proofs.Dense.{removed_none}
use Rattle.ent_storage.proofs.EntitiesOfResidents.{births_from, changed_from, inside_from}
use Rattle.ent_storage.proofs.EntitiesOfResidents.{length_from, none_within, pushed_from, same_from}
use Rattle.ent_storage.proofs.EntitiesOfResidents.{test_past, value_from, written_back}
use Rattle.ent_storage.proofs.Entries.{entries_map, get_map, len_map, map-take, map-write, map_none}
use Rattle.ent_storage.proofs.Entries.{pairs_rising}
use Rattle.ent_storage.proofs.Found.{counted-take, few_values, found, got, had, made, no_later}
use Rattle.ent_storage.proofs.Found.{put-map, read_of, remove_absent}
use Rattle.ent_storage.proofs.ImageEntities.{entity_alone}
use Rattle.ent_storage.proofs.ImageRead.{too_few, too_wide}
use Rattle.ent_storage.proofs.ImageValues.{below_more, values_more}
use Rattle.ent_storage.proofs.InUse.{in_use_changed, in_use_none, in_use_set, passed_all}
use Rattle.ent_storage.proofs.InUse.{removed_rest, count_items, items_in_use}
use Rattle.ent_storage.proofs.Indexed.{len_living}
use Rattle.ent_storage.proofs.Kept.{counts_one}
use Rattle.ent_storage.proofs.Keys.{get-remove_same}
use Rattle.ent_storage.proofs.Missing.{on_err}
use Rattle.ent_storage.proofs.Placed.{at_place, inside_at, place_from_placed, placed_from_place}
use Rattle.ent_storage.proofs.Placed.{placed_known, same_places}
use Rattle.ent_storage.proofs.Changed.{length_reborn}
use Rattle.ent_storage.proofs.Rising.{from_sorted-nil}
use Rattle.ent_storage.proofs.Sparse.{are_entries, cloned, cloned_positioned, counted, few_entries}
use Rattle.ent_storage.proofs.Sparse.{in_slots, missing, more_slots, not_handle, on_err_never}
use Rattle.ent_storage.proofs.Sparse.{pushed_values, some_slot}
use Rattle.ent_storage.proofs.Written.{filled_over, filled_over_in, got_inserted, occupied_written}
use Rattle.ent_storage.proofs.Written.{occupied_written_in, written_twice, written_twice_in}

pub ruleset laws = (
  common_steps,
  all_zip_more,
  append_assoc,
  are_entries,
  at,
  at_place,
  below_more,
  births_from,
  changed_from,
  cloned,
  cloned_positioned,
  cloned_values,
  column_kept,
  column_set,
  components_remove,
  count_items,
  counted,
  counted-take,
  counts_one,
  dense_missing,
  entities_copied,
  entities_same,
  entity_alone,
  entries_components,
  entries_map,
  few_entries,
  few_values,
  filled_over,
  filled_over_in,
  fits,
  found,
  from_sorted-nil,
  get-remove_same,
  get_map,
  get_or_default,
  get_or_from_slice_get,
  got,
  got_inserted,
  had,
  in_slots,
  in_use_changed,
  in_use_none,
  in_use_set,
  inside_at,
  inside_from,
  items_in_use,
  len_living,
  len_map,
  length-map,
  length_from,
  length_reborn,
  made,
  map-take,
  map-write,
  map_none,
  map_of_slots,
  missing,
  more_slots,
  moved_down,
  no_later,
  no_places,
  none-some,
  none_within,
  not_handle,
  not_past,
  occupied_written,
  occupied_written_in,
  on_err,
  on_err_never,
  on_err_weaker,
  on_ok_weaker,
  pairs_rising,
  passed_all,
  place_from_placed,
  placed_from_place,
  placed_known,
  pushed_from,
  pushed_values,
  put-map,
  read_of,
  remove_absent,
  remove_others,
  removed_none,
  removed_rest,
  room_inside,
  same_Some,
  same_from,
  same_places,
  slice_get-get_or,
  slice_get_within,
  some_slot,
  some_values,
  some_written,
  some_written_in,
  swept_has,
  taken_none,
  test_past,
  to_z-of_z,
  too_few,
  too_wide,
  value_from,
  values_more,
  written_back,
  written_twice,
  written_twice_in,
)
