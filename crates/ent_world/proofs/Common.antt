-- The names that proofs of this crate cite, of std, of the crates below and of its own specs.
-- Declares nothing.
pub use Rattle.std.proofs.Common.{All, AllPairs, Bool, Contains, Err, FitsSigned, IfErr, IfOk}
pub use Rattle.std.proofs.Common.{IfSome, IsErrAnd, IsSomeAnd, IsTrue, Less, List, None, Ok, OnErr}
pub use Rattle.std.proofs.Common.{OnOk, Option, Ordering, Result, Some, T, [], ap, append-nil}
pub use Rattle.std.proofs.Common.{arith, cond, drop, drop_of_length-le, eq-eqb, eqb, false, filter}
pub use Rattle.std.proofs.Common.{get_or, inl, inr, is_err, is_none, is_some, length, map, max, min}
pub use Rattle.std.proofs.Common.{not, option_map, refl, rules, slice_get, suc, sym, take, true}
pub use Rattle.std.proofs.Common.{true≢false, unwrap_or, vec_capacity, vec_len, w64, zero, ℕ, ℤ}
pub use Rattle.std.proofs.Common.{◌&&◌, ◌*◌, ◌++◌, ◌+◌, ◌-◌, ◌<◌, ◌^◌, ◌∙◌, ◌∷◌, ◌≡◌, ◌≢◌, ◌≤◌, ◌⊎◌}
pub use Rattle.std.proofs.lemmas.Bool.{cases_lt, false_from_ne_true, or_left, or_right}
pub use Rattle.std.proofs.lemmas.Bool.Decides.{nat_tests}
pub use Rattle.std.proofs.lemmas.Cmp.{eq_by_cmp_equiv, tied_itself}
pub use Rattle.std.proofs.lemmas.Grind.{common_steps}
pub use Rattle.std.proofs.lemmas.List.{append_assoc, drop_at, drop_more, get_or_default}
pub use Rattle.std.proofs.lemmas.List.{length-append, length-drop, length-take, map-append}
pub use Rattle.std.proofs.lemmas.List.{nil_from_length, same_lists, take-append-drop, take-take}
pub use Rattle.std.proofs.lemmas.List.{take_more}
pub use Rattle.std.proofs.lemmas.List.Concat.{flat_map-cons}
pub use Rattle.std.proofs.lemmas.List.Elements.{All-append, All-cons, All-contains}
pub use Rattle.std.proofs.lemmas.List.Elements.{All-contains_itself, All-head, All-nil, All-tail}
pub use Rattle.std.proofs.lemmas.List.Elements.{filter_passes}
pub use Rattle.std.proofs.lemmas.List.Folds.{Any-from_list_any, list_any-append, list_any-from_Any}
pub use Rattle.std.proofs.lemmas.List.Sorted.{Contains-permutation, length_permutation}
pub use Rattle.std.proofs.lemmas.List.Sorted.{list_any-IsPermutation}
pub use Rattle.std.proofs.lemmas.List.Sums.{sum_by-cons}
pub use Rattle.std.proofs.lemmas.Map.Keys.{any_passes_from_place}
pub use Rattle.std.proofs.lemmas.Map.Views.{Contains-from_any, any-filter_same, tells_apart}
pub use Rattle.std.proofs.lemmas.Option.{none-some, same_Some, slice_get-get_or, slice_get_past}
pub use Rattle.std.proofs.lemmas.Option.{slice_get_within}
pub use Rattle.std.proofs.lemmas.Result.{err_from_is_err_and}
pub use Rattle.std.proofs.lemmas.Slice.Zip.{all_zipped_more}
pub use Rattle.std.specs.Cmp.{IsTotalOrder}
pub use Rattle.std.specs.FinMap.{IsAntisymmetric, find, is_sorted, put}
pub use Rattle.std.specs.FinMap.Entries.{below_all, find-put, find-where_key, is_sorted-put}
pub use Rattle.std.specs.FinMap.Entries.{is_sorted-where_key, same_entries}
pub use Rattle.std.specs.List.{AllZip, flat_map, list_any, position_from, sum_by}
pub use Rattle.std.specs.Ordering.{eq_by_cmp, is_lt}
pub use Rattle.ent_alloc.proofs.Flushes.{born-IsPermutation, born-apart, born-lives, born-not_live}
pub use Rattle.ent_alloc.proofs.Flushes.{live-after_flush, live-stays}
pub use Rattle.ent_alloc.proofs.GivenOnce.{flush-given, free-given, refused-given, take-given}
pub use Rattle.ent_alloc.proofs.HandleSets.{Contains-from_stands_in, itself, same_handle}
pub use Rattle.ent_alloc.proofs.HandleSets.{stands_in-from_Contains}
pub use Rattle.ent_alloc.proofs.Histories.{after_history-takes}
pub use Rattle.ent_alloc.proofs.ImageHeader.{length-header_bytes}
pub use Rattle.ent_alloc.proofs.ImageOf.{few_wait, length-slots_bytes}
pub use Rattle.ent_alloc.proofs.ImageSound.{roster_slots}
pub use Rattle.ent_alloc.proofs.ListLaws.{AllPairs-head, AllPairs-tail, drop-append}
pub use Rattle.ent_alloc.proofs.PoolLaw.{live-after_takes, reply-cursor, top-after_takes}
pub use Rattle.ent_alloc.proofs.Replies.{not_apart, reply-not_live}
pub use Rattle.ent_alloc.proofs.Retired.{retired-rest}
pub use Rattle.ent_alloc.proofs.Soundness.{after_alloc-sound, after_flush-sound, after_free-sound}
pub use Rattle.ent_alloc.proofs.Soundness.{after_take-sound, opening-sound}
pub use Rattle.ent_alloc.proofs.Taken.{length-available, made-after_flush}
pub use Rattle.ent_alloc.specs.Entities.{without_rows}
pub use Rattle.ent_alloc.specs.History.{Call, IsLegal, after_history, given_in, handles_in}
pub use Rattle.ent_alloc.specs.Image.{HasImage as HasAllocatorImage, image as allocator_image}
pub use Rattle.ent_alloc.specs.Limits.{AreLimits, Limits}
pub use Rattle.ent_alloc.specs.Sequential.{Allocator, after_alloc, after_flush, after_free}
pub use Rattle.ent_alloc.specs.Sequential.{after_take, available, born, cursor, fresh, is_old}
pub use Rattle.ent_alloc.specs.Sequential.{listed_alone, opening, pool_at, reply_from, reply_to}
pub use Rattle.ent_alloc.specs.Sequential.{stands_in, top}
pub use Rattle.ent_alloc.specs.Sound.{AreApart, IsLive, IsSound}
pub use Rattle.ent_alloc.specs.Spent.{AreSpent}
pub use Rattle.ent_alloc.specs.declared.space.Space.{Space}
pub use Rattle.ent_blocks.proofs.Dealing.{dealt_from}
pub use Rattle.ent_blocks.specs.Blocks.{blocks_from, dealt, lesser}
pub use Rattle.ent_handle.specs.Birth.{birth_cmp, birth_cmp-IsAntisymmetric, birth_cmp_total}
pub use Rattle.ent_handle.specs.Component.{component_cmp, component_cmp-IsAntisymmetric}
pub use Rattle.ent_handle.specs.Component.{component_cmp_total}
pub use Rattle.ent_handle.specs.Handle.{Handle, handle_cmp, handle_cmp-IsAntisymmetric}
pub use Rattle.ent_handle.specs.Handle.{handle_cmp-IsAntisymmetric as same, handle_cmp_total}
pub use Rattle.ent_handle.specs.Handle.{handle_cmp_total as total}
pub use Rattle.ent_handle.specs.declared.birth.Birth.{Birth}
pub use Rattle.ent_handle.specs.declared.component.ComponentId.{ComponentId}
pub use Rattle.ent_queue.specs.Command.{Command, Despawn, Insert, Refused, Remove, Spawn, SpawnMany}
pub use Rattle.ent_shared.specs.Order.{history_of}
pub use Rattle.ent_shared.specs.Phase.{records_of}
pub use Rattle.ent_storage.proofs.ElementsAt.{at_push_before, at_push_end, at_pushed}
pub use Rattle.ent_handle.proofs.Spelled.{length-long, length-word, same_longs, same_parts}
pub use Rattle.ent_handle.proofs.Spelled.{same_words}
pub use Rattle.ent_storage.proofs.ImageEntities.{entities_least, never_stored}
pub use Rattle.ent_storage.proofs.Indexed.{same_number}
pub use Rattle.ent_storage.proofs.Keys.{get-insert_other, get-insert_same, get-remove_other}
pub use Rattle.ent_storage.proofs.Keys.{get-remove_same, same_or_apart}
pub use Rattle.ent_storage.proofs.Overwritten.{find-filter, is_sorted-filter, passed}
pub use Rattle.ent_storage.specs.BirthOrder.{ListsByBirth, birth_order}
pub use Rattle.ent_storage.specs.Bundle.{Bundle, with_put}
pub use Rattle.ent_storage.specs.Components.{Components, missing, with_items}
pub use Rattle.ent_storage.specs.EntityMap.{AreBare, Entity, EntityMap, birth_of, components_of}
pub use Rattle.ent_storage.specs.EntityMap.{newborn, value_of, with_birth, with_components}
pub use Rattle.ent_storage.specs.Image.{AreStored, IsBirth, component, entities_bytes, entity_bytes}
pub use Rattle.ent_storage.specs.Image.{width_below}
pub use Rattle.ent_handle.specs.Bytes.{word}
unfoldable pub use Rattle.ent_handle.specs.Bytes.{long}
unfoldable pub use Rattle.ent_storage.specs.Image.{width}
pub use Rattle.ent_storage.specs.Places.{AreWithout}
pub use Rattle.ent_world.specs.BirthsAlone.{AppliedAlone, BirthCommand, BirthMap}
pub use Rattle.ent_world.specs.BirthsAlone.{after_birth_command, after_birth_commands}
pub use Rattle.ent_world.specs.BirthsAlone.{after_birth_queues, births_in, births_of, despawned}
pub use Rattle.ent_world.specs.BirthsAlone.{entered_alone, frame_alone, held_by, inserted, on_birth}
pub use Rattle.ent_world.specs.BirthsAlone.{on_each_birth, removed}
pub use Rattle.ent_world.specs.Effects.{Applied, after_command, after_commands, after_despawn}
pub use Rattle.ent_world.specs.Effects.{after_insert, after_queues, after_remove, after_spawn}
pub use Rattle.ent_world.specs.Effects.{applied, on_each, on_entity, spawned, with_fault}
pub use Rattle.ent_world.specs.Entering.{AreNew, birth_after, first_birth, is_unnamed, named}
pub use Rattle.ent_world.specs.Entering.{named_handles, named_queues, next_birth, numbered}
pub use Rattle.ent_world.specs.FirstFault.{AreFramed, HaveAllocator, MayTakeMemory}
pub use Rattle.ent_world.specs.Image.{HasImage, allocator_of, framed, image, least, living, magic}
pub use Rattle.ent_world.specs.Image.{version}
unfoldable pub use Rattle.ent_world.specs.Image.{header_bytes}
pub use Rattle.ent_world.specs.Memory.{TakesMemoryIn, command_takes_memory, insert_takes_memory}
pub use Rattle.ent_world.specs.Memory.{one_takes_memory}
pub use Rattle.ent_world.specs.Named.{AreBelow, AreListed, AreNamed, AreNamedAfter, AreNamedBy}
pub use Rattle.ent_world.specs.Named.{AreNames, IsNamedBy, IsSameFault, IsThere}
pub use Rattle.ent_world.specs.Read.{IsRead}
pub use Rattle.ent_world.specs.Rest.{HasStoppedSo, IsLater, IsLaterIn, after_left}
pub use Rattle.ent_world.specs.Rest.{after_left_queues, last_part, left_commands}
pub use Rattle.ent_world.specs.Rows.{ArePlaces, AreRows, Rows, with_moved, with_rows}
pub use Rattle.ent_world.specs.Sync.{after_births, birth_in, cut, cut_commands, first_part}
pub use Rattle.ent_world.specs.Sync.{handles_listed, listed_birth, listed_by, no_system, ordinal}
pub use Rattle.ent_world.specs.Sync.{stops, sync, sync_until, unlisted, unlisted_birth, with_born}
pub use Rattle.ent_world.specs.World.{AreLiving, IsWorld, World, first_world, lives_in}
pub use Rattle.ent_world.specs.declared.fault.Fault.{Fault}
pub use Rattle.ent_world.specs.declared.image_fault.WorldImageFault.{WorldImageFault}
pub use Rattle.ent_world.specs.declared.image_fault.WorldImageFault.TheVariants.{Memory}
