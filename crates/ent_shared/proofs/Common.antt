-- The names that proofs of this crate cite, of std, of the crates below and of its own specs.
-- Declares nothing.
pub use Rattle.std.proofs.Common.{All, AllPairs, Bool, Contains, Err, IsPermutation, List, Ok}
pub use Rattle.std.proofs.Common.{Result, [], add-mul, add-zero, ap, append-nil, append_assoc}
pub use Rattle.std.proofs.Common.{arith, cond, count_by, drop, false, flat_map, get_or, inl, inr}
pub use Rattle.std.proofs.Common.{int_lt, le-leb, length, length-append, length-drop, map, nat_abs}
pub use Rattle.std.proofs.Common.{nat_le, neg_ℤ, of_z, pos, refl, rules, set, subst, suc, suc-mul}
pub use Rattle.std.proofs.Common.{sum, sum_by, sym, take, to_z, true, vec_capacity, vec_len, w64}
pub use Rattle.std.proofs.Common.{zero, zero-add, ℕ, ℤ, ⊎_elim, ◌%◌, ◌*◌, ◌++◌, ◌+ℤ◌, ◌+◌, ◌-ℤ◌}
pub use Rattle.std.proofs.Common.{◌-◌, ◌<ℤ◌, ◌<◌, ◌==◌, ◌^◌, ◌↔◌, ◌∙◌, ◌∷◌, ◌≡◌, ◌≢◌, ◌≤ℤ◌, ◌≤◌}
pub use Rattle.std.proofs.Common.{◌⊎◌}
pub use Rattle.std.proofs.lemmas.Int.{by_lt_z, ints, to_z-of_z}
pub use Rattle.std.proofs.lemmas.List.{drop-take, drop_all, get_or_default, length-map, length-take}
pub use Rattle.std.proofs.lemmas.List.{length-take-le, map-append, nil_from_length, set_comm}
pub use Rattle.std.proofs.lemmas.List.{take-append-drop, take-take, take_all}
pub use Rattle.std.proofs.lemmas.List.Concat.{flat_map-append, length-flat_map}
pub use Rattle.std.proofs.lemmas.List.Elements.{All-append, All-cons, All-contains}
pub use Rattle.std.proofs.lemmas.List.Elements.{All-contains_itself, All-drop, All-filter, All-head}
pub use Rattle.std.proofs.lemmas.List.Elements.{All-nil, All-set, All-tail, All-take, All-weaker}
pub use Rattle.std.proofs.lemmas.List.Elements.{Contains-append_left, Contains-push}
pub use Rattle.std.proofs.lemmas.List.Folds.{fold-map}
pub use Rattle.std.proofs.lemmas.List.Sorted.{All-permutation, IsPermutation-append}
pub use Rattle.std.proofs.lemmas.List.Sorted.{IsPermutation-append_comm, IsPermutation-append_right}
pub use Rattle.std.proofs.lemmas.List.Sorted.{IsPermutation-cons, IsPermutation-middle}
pub use Rattle.std.proofs.lemmas.List.Sorted.{IsPermutation-refl, IsPermutation-sym}
pub use Rattle.std.proofs.lemmas.List.Sorted.{IsPermutation-trans, length_permutation}
pub use Rattle.std.proofs.lemmas.List.Sorted.{sum_by-IsPermutation}
pub use Rattle.std.proofs.lemmas.List.Sums.{sum_by-append, sum_by-cons}
pub use Rattle.std.specs.Int.{int_max, int_min}
pub use Rattle.atomic_table.proofs.Lists.{set_again, set_else}
pub use Rattle.atomic_table.specs.Seated.{TableId}
pub use Rattle.atomic_table.specs.Table.{Allows, Enters, Joins, Me, Splits, State, keeps, opening}
pub use Rattle.ent_alloc.proofs.Common.{AllPairs-cons, Allocator, Entities, IsLive, IsSound}
pub use Rattle.ent_alloc.proofs.Common.{after_flush, after_take, asked_at, available, cases_lt}
pub use Rattle.ent_alloc.proofs.Common.{common_steps, cursor, listed, listed_alone, lt-leb}
pub use Rattle.ent_alloc.proofs.Common.{nat_tests, pool_at, reply_from, settled, slice_get-get_or}
pub use Rattle.ent_alloc.proofs.Common.{top}
pub use Rattle.ent_alloc.proofs.Flushes.{live-after_flush, live-stays, taken-lives}
pub use Rattle.ent_alloc.proofs.Histories.{after_history-settled, after_history-takes}
pub use Rattle.ent_alloc.proofs.Histories.{given_in-bring_to_life, given_in-distinct}
pub use Rattle.ent_alloc.proofs.Histories.{given_in-not_live, given_in-taken}
pub use Rattle.ent_alloc.proofs.LaidOut.{flushed-laid_out}
pub use Rattle.ent_alloc.proofs.ListLaws.{All-left, All-right, AllPairs-IsPermutation}
pub use Rattle.ent_alloc.proofs.ListLaws.{AllPairs-head, AllPairs-tail}
pub use Rattle.ent_alloc.proofs.Meaning.{asked_at-is}
pub use Rattle.ent_alloc.proofs.PoolLaw.{after_takes-sound, asked-after_takes}
pub use Rattle.ent_alloc.proofs.PoolLaw.{available-after_takes, cursor-after_take}
pub use Rattle.ent_alloc.proofs.PoolLaw.{cursor-after_takes, length-taken, made-after_take}
pub use Rattle.ent_alloc.proofs.PoolLaw.{pool_at-cursor}
pub use Rattle.ent_alloc.proofs.Replies.{listed-IsPermutation, not_apart}
pub use Rattle.ent_alloc.proofs.Settled.{length-all}
pub use Rattle.ent_alloc.proofs.Soundness.{after_take-sound}
pub use Rattle.ent_alloc.proofs.Taken.{after_take-refused, after_take-served, available-after_take}
pub use Rattle.ent_alloc.proofs.Taken.{length-available, length-pool}
pub use Rattle.ent_alloc.specs.History.{handles_in}
unfoldable pub use Rattle.ent_alloc.specs.Limits.{quota}
pub use Rattle.ent_alloc.specs.declared.space.Space.{Space}
pub use Rattle.ent_alloc.specs.declared.span.Span.{Span}
pub use Rattle.ent_handle.specs.Handle.{Handle, handle_cmp, handle_eq}
pub use lib.ListN.{get_elem?}
pub use mathlib.Core.Option.{some, some-injective, some-ne-none}
pub use Rattle.ent_shared.specs.Moves.{after_meeting, met_in}
pub use Rattle.ent_shared.specs.Order.{FollowsEntries, Respects, StandsBefore, as_call}
pub use Rattle.ent_shared.specs.Order.{by_falling_high, handles_given, handles_of, history_of}
pub use Rattle.ent_shared.specs.Order.{insert_reservation, own_of_all, reservations_by}
pub use Rattle.ent_shared.specs.Order.{reservations_of}
pub use Rattle.ent_shared.specs.Phase.{IsOf, IsPhase, IsHolding, Reserver, Shared, after_loss}
pub use Rattle.ent_shared.specs.Phase.{own_of, records_of}
pub use Rattle.ent_shared.specs.Record.{after_reservation, known_reservations, low, opened}
pub use Rattle.ent_shared.specs.Record.{own_reservations, requested_by, reservation_at}
pub use Rattle.ent_shared.specs.Record.{reservations_in}
unfoldable pub use Rattle.ent_shared.specs.Record.{opened_records}
pub use Rattle.ent_shared.specs.Rule.{AfterReserve, Follow, HasItsReply, InOrder, IsClosed, IsKept}
pub use Rattle.ent_shared.specs.Rule.{IsRuled, IsStart, ReserveTells, cursor_of, floor_after}
pub use Rattle.ent_shared.specs.Rule.{floor_of, least_floor, weigh}
unfoldable pub use Rattle.ent_shared.specs.Rule.{offset}
pub use Rattle.ent_shared.specs.Holders.{GoesByRecords, records_in}
pub use Rattle.ent_shared.specs.declared.record.Record.{Record}
pub use Rattle.ent_shared.specs.declared.record.RecordEntry.{RecordEntry}
pub use Rattle.ent_shared.specs.declared.record.RecordEntry.TheVariants.{Met, Own}
pub use Rattle.ent_shared.specs.declared.record.Reservation.{Reservation}
pub use Rattle.ent_shared.specs.declared.rule.Opening.{Opening}
