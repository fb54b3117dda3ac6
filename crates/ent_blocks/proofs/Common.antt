-- The names that proofs of this crate cite, of std, of the crates below and of its own specs.
-- Declares nothing.
pub use Rattle.std.proofs.Common.{All, AllPairs, Contains, Err, IsPermutation, List, Ok, Result}
pub use Rattle.std.proofs.Common.{Some, [], ap, append_assoc, arith, cond, drop, false, flat_map}
pub use Rattle.std.proofs.Common.{get_or, inl, inr, length, length-append, map, max, nat_le, pos}
pub use Rattle.std.proofs.Common.{refl, rules, slice_get, subst, suc, sum, sum_by, sym, take}
pub use Rattle.std.proofs.Common.{take-add, true, vec_capacity, vec_len, zero, ℕ, ℤ, ◌*◌, ◌++◌, ◌+◌}
pub use Rattle.std.proofs.Common.{◌-ℤ◌, ◌-◌, ◌<ℤ◌, ◌<◌, ◌^◌, ◌↔◌, ◌∙◌, ◌∷◌, ◌≡◌, ◌≢◌, ◌≤ℤ◌, ◌≤◌}
pub use Rattle.std.proofs.Common.{◌⊎◌}
pub use Rattle.std.proofs.lemmas.Bool.{cases_Bool, le-leb, lt-leb}
pub use Rattle.std.proofs.lemmas.List.{length-take, map-append, take-append-drop}
pub use Rattle.std.proofs.lemmas.List.Elements.{All-append, All-cons, All-contains}
pub use Rattle.std.proofs.lemmas.List.Elements.{All-contains_itself, All-drop, All-head, All-more}
pub use Rattle.std.proofs.lemmas.List.Elements.{All-nil, All-push, All-tail, All-take, All-weaker}
pub use Rattle.std.proofs.lemmas.List.Elements.{Contains-append_cases, Contains-append_right}
pub use Rattle.std.proofs.lemmas.List.Sorted.{All-permutation, Contains-permutation}
pub use Rattle.std.proofs.lemmas.List.Sorted.{IsPermutation-sym}
pub use Rattle.ent_alloc.proofs.Common.{Allocator, AreApart, Handle, IsLive, IsSound, after_flush}
pub use Rattle.ent_alloc.proofs.Common.{asked_at, available, common_steps, cursor, drop-drop}
pub use Rattle.ent_alloc.proofs.Common.{drop-take, drop_all, drop_more, get_or-drop, get_or-map}
pub use Rattle.ent_alloc.proofs.Common.{get_or_default, get_or_from_slice_get, ints, length-drop}
pub use Rattle.ent_alloc.proofs.Common.{length-map, length-take-le, length_permutation, listed}
pub use Rattle.ent_alloc.proofs.Common.{listed_alone, pool_at, reply_from, slice_get_read}
pub use Rattle.ent_alloc.proofs.Common.{take-take, take_all, take_more, top, with_front}
pub use Rattle.ent_alloc.proofs.Flushes.{live-after_flush, live-stays, taken-lives}
pub use Rattle.ent_alloc.proofs.FrontPools.{with_front-sound}
pub use Rattle.ent_alloc.proofs.Histories.{after_history-takes, given_in-legal}
pub use Rattle.ent_alloc.proofs.LaidOut.{flushed-laid_out}
pub use Rattle.ent_alloc.proofs.ListLaws.{All-left, All-right, AllPairs-IsPermutation}
pub use Rattle.ent_alloc.proofs.ListLaws.{AllPairs-across, AllPairs-left, AllPairs-right}
pub use Rattle.ent_alloc.proofs.Meaning.{asked_at-is}
pub use Rattle.ent_alloc.proofs.PoolLaw.{after_take-none, after_takes, after_takes-sound}
pub use Rattle.ent_alloc.proofs.PoolLaw.{asked-after_take, asked-after_takes, available-after_takes}
pub use Rattle.ent_alloc.proofs.PoolLaw.{limits-after_take, limits-after_takes, live-after_take}
pub use Rattle.ent_alloc.proofs.PoolLaw.{live-after_takes, made-after_take, made-after_takes}
pub use Rattle.ent_alloc.proofs.PoolLaw.{taken_is, top-after_take}
pub use Rattle.ent_alloc.proofs.PortionPools.{after_portions-sound, portions_taken}
pub use Rattle.ent_alloc.proofs.Portioned.{first_used, front_same, length-used, others_used}
pub use Rattle.ent_alloc.proofs.Portioned.{reach_within, take_of_take}
pub use Rattle.ent_alloc.proofs.Replies.{apart_both, listed-IsPermutation, not_apart}
pub use Rattle.ent_alloc.proofs.RequestLaws.{taken-after_takes}
pub use Rattle.ent_alloc.proofs.Taken.{length-available}
pub use Rattle.ent_alloc.specs.History.{given_in, handles_in}
unfoldable pub use Rattle.ent_alloc.specs.Limits.{quota}
pub use Rattle.ent_alloc.specs.Portions.{AreUsed, after_portions, arranged, count_of, front_of}
pub use Rattle.ent_alloc.specs.Portions.{left_of, reach_of, size_of}
pub use Rattle.ent_alloc.specs.Sequential.{after_take, before_requests}
pub use Rattle.ent_alloc.specs.Serving.{AreServed, Request, SaysWanted}
pub use Rattle.ent_alloc.specs.declared.portion.Portion.{Portion}
pub use Rattle.ent_alloc.specs.declared.refused.Refused.{Refused}
pub use Rattle.ent_alloc.specs.declared.space.Space.{Space}
pub use Rattle.ent_alloc.specs.declared.span.Span.{Span}
pub use Rattle.ent_shared.proofs.Common.{Respects, after_meeting, after_reservation}
pub use Rattle.ent_shared.proofs.Common.{after_take-served, after_take-sound, as_call}
pub use Rattle.ent_shared.proofs.Common.{available-after_take, cases_lt, handles_given, handles_of}
pub use Rattle.ent_shared.proofs.Common.{history_of, insert_reservation, own_of_all}
pub use Rattle.ent_shared.proofs.Common.{own_reservations, reservation_at, reservations_of}
pub use Rattle.ent_shared.proofs.Common.{sum_by-cons}
pub use Rattle.ent_shared.proofs.Records.{own-made}
pub use Rattle.ent_shared.proofs.Sorting.{all_sorted}
pub use Rattle.ent_shared.specs.Phase.{IsOf as IsReserverOf, Reserver as SharedReserver, Shared}
pub use Rattle.ent_shared.specs.Phase.{after_loss, records_of}
pub use Rattle.ent_shared.specs.Record.{opened as opened_record, requested_by}
unfoldable pub use Rattle.ent_shared.specs.Record.{opened_records}
pub use Rattle.ent_shared.specs.Replies.{Reserves}
pub use Rattle.ent_shared.specs.Rule.{HasItsReply}
pub use Rattle.ent_shared.specs.declared.record.Record.{Record}
pub use Rattle.ent_shared.specs.declared.record.Reservation.{Reservation}
pub use Rattle.ent_blocks.specs.Blocks.{AreDealt, AreLaid, Block, Blocks, IsOf, Reserver, accounted}
pub use Rattle.ent_blocks.specs.Blocks.{after_blocks, after_use, are_among, blocks_from, blocks_of}
pub use Rattle.ent_blocks.specs.Blocks.{dealt, is_same, lesser, portions_of, rest_of, unused}
pub use Rattle.ent_blocks.specs.Blocks.{used_of}
pub use Rattle.ent_blocks.specs.Drawing.{left_of as left_of_block}
pub use Rattle.ent_blocks.specs.Overflow.{Caller, HasDealt, IsBehind, IsCallerOf, IsDealer, IsFresh}
pub use Rattle.ent_blocks.specs.Overflow.{IsInOrder, IsPhase, IsServed, Overflow, behind_blocks}
pub use Rattle.ent_blocks.specs.Overflow.{own_blocks, past_block, past_history, past_of}
pub use Rattle.ent_blocks.specs.Overflow.{past_records}
