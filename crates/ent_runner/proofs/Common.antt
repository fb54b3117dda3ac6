-- The names that proofs of this crate cite, of std, of the crates below and of its own specs.
-- Declares nothing.
pub use Rattle.std.proofs.Common.{Bool, Global, List, None, Option, Result, Some, Vec, [], ap}
pub use Rattle.std.proofs.Common.{append-nil, append_assoc, arith, cond, drop, eq-eqb, false}
pub use Rattle.std.proofs.Common.{get_or, inl, inr, is_err, is_some, le-ltb, length, lt-ltb, map}
pub use Rattle.std.proofs.Common.{ne_eqb, not, refl, remove, reverse, rules, set, subst, suc, swap}
pub use Rattle.std.proofs.Common.{sym, take, true≢false, vec_len, zero, ℕ, ⊎_elim, ◌%◌, ◌*◌, ◌++◌}
pub use Rattle.std.proofs.Common.{◌+◌, ◌-◌, ◌<◌, ◌^◌, ◌∙◌, ◌∷◌, ◌≡◌, ◌≢◌, ◌≤◌, ◌⊎◌}
pub use Rattle.std.proofs.Math.ListN.{drop_of_length-le}
pub use Rattle.std.proofs.Math.Nat.{mod-eq_of_lt}
pub use Rattle.std.proofs.Math.Seq.{get_or-append_seam}
pub use Rattle.std.proofs.lemmas.Bool.{cases_eq, cases_lt}
pub use Rattle.std.proofs.lemmas.Fn.{FoldsTo-push}
pub use Rattle.std.proofs.lemmas.Grind.{common_steps}
pub use Rattle.std.proofs.lemmas.List.{get_or-append_right, get_or-map, get_or-replicate}
pub use Rattle.std.proofs.lemmas.List.{get_or-set_other, get_or-set_same, get_or_append_left}
pub use Rattle.std.proofs.lemmas.List.{get_or_push, length-append, length-drop, length-map}
pub use Rattle.std.proofs.lemmas.List.{length-replicate, length-reverse, length-set, length-take}
pub use Rattle.std.proofs.lemmas.List.{map-append, replicate-append-replicate, set-append_left}
pub use Rattle.std.proofs.lemmas.List.{take-append-le, take_all}
pub use Rattle.std.proofs.lemmas.List.Concat.{flat_map-append}
pub use Rattle.std.proofs.lemmas.List.Edits.{swap_is}
pub use Rattle.std.proofs.lemmas.List.Elements.{All-append, All-cons, All-contains, All-head}
pub use Rattle.std.proofs.lemmas.List.Elements.{All-map, All-nil, All-push, All-replicate, All-rest}
pub use Rattle.std.proofs.lemmas.List.Elements.{All-set, All-tail, Contains-append_left}
pub use Rattle.std.proofs.lemmas.List.Elements.{Contains-append_right, Contains-get_or}
pub use Rattle.std.proofs.lemmas.List.Folds.{flat_map-map, fold-map, sum_by-replicate}
pub use Rattle.std.proofs.lemmas.List.FromFn.{get_or-range_with_len, length-range_with_len}
pub use Rattle.std.proofs.lemmas.List.Kept.{AllPairs-filter}
pub use Rattle.std.proofs.lemmas.List.Quantifiers.{all_pairs_push}
pub use Rattle.std.proofs.lemmas.List.Sorted.{All-permutation, Contains-permutation}
pub use Rattle.std.proofs.lemmas.List.Sorted.{IsPermutation-append_comm, IsPermutation-append_left}
pub use Rattle.std.proofs.lemmas.List.Sorted.{IsPermutation-append_right, IsPermutation-cons}
pub use Rattle.std.proofs.lemmas.List.Sorted.{IsPermutation-keeps, IsPermutation-refl}
pub use Rattle.std.proofs.lemmas.List.Sorted.{IsPermutation-remove, IsPermutation-reverse}
pub use Rattle.std.proofs.lemmas.List.Sorted.{IsPermutation-sym, IsPermutation-trans}
pub use Rattle.std.proofs.lemmas.List.Sorted.{length_permutation, sum_by-IsPermutation}
pub use Rattle.std.proofs.lemmas.List.Sorted.{sum_by_popped}
pub use Rattle.std.proofs.lemmas.List.Sums.{sum_by-append, sum_by-cons, sum_by-le-sum_by}
pub use Rattle.std.proofs.lemmas.List.Sums.{sum_by_push}
pub use Rattle.std.proofs.lemmas.Option.{get_or_from_slice_get, none-some, slice_get-get_or}
pub use Rattle.std.proofs.lemmas.Option.{slice_get-map, slice_get_within}
pub use Rattle.std.proofs.lemmas.Result.{IfErr-weaker, IfOk-weaker}
pub use Rattle.std.specs.List.{All, AllPairs, Contains, flat_map, position_from, range_with_len}
pub use Rattle.std.specs.List.{sum_by}
pub use Rattle.std.specs.List.Sorted.{IsPermutation}
pub use Rattle.std.specs.Option.{option_map}
pub use Rattle.std.specs.Ordering.{eq_by_cmp}
pub use Rattle.std.specs.Prelude.{Any, Err, IfErr, IfNone, IfOk, IfSome, IsErr, IsErrOf, IsOk}
pub use Rattle.std.specs.Prelude.{IsSome, IsTrue, Ok, OnErr, OnOk, filter, if◌then◌else◌, replicate}
pub use Rattle.std.specs.Prelude.{slice_get, slice_set, true, vec_capacity, ◌==◌, ◌↔◌}
pub use Rattle.atomic_table.specs.Seated.{TableId}
pub use Rattle.atomic_table.specs.Table.{Allows, Me, State, keeps, opening}
pub use Rattle.ent_handle.specs.Handle.{Handle, handle_cmp}
pub use Rattle.ent_alloc.proofs.Flushes.{born-IsPermutation}
pub use Rattle.ent_alloc.proofs.HandleSets.{Contains-from_stands_in, itself}
pub use Rattle.ent_alloc.proofs.HandleSets.{stands_in-from_Contains}
pub use Rattle.ent_alloc.proofs.Histories.{after_history-takes, given_in-distinct}
pub use Rattle.ent_alloc.proofs.Histories.{given_in-not_live, given_in-taken}
pub use Rattle.ent_alloc.proofs.LaidOut.{flushed-laid_out}
pub use Rattle.ent_alloc.proofs.ListLaws.{All-left, All-right, AllPairs-IsPermutation}
pub use Rattle.ent_alloc.proofs.ListLaws.{AllPairs-across, AllPairs-head, AllPairs-left}
pub use Rattle.ent_alloc.proofs.ListLaws.{AllPairs-right, AllPairs-tail, filter_all}
pub use Rattle.ent_alloc.proofs.PoolLaw.{after_takes-sound, available-after_takes, length-taken}
pub use Rattle.ent_alloc.proofs.PoolLaw.{limits-after_takes, live-after_takes, made-after_takes}
pub use Rattle.ent_alloc.proofs.Served.{one_served, served_parts}
pub use Rattle.ent_alloc.specs.History.{AreGivenOnce, Call, IsLegal, after_history, given_in}
pub use Rattle.ent_alloc.specs.History.{handles_in}
pub use Rattle.ent_alloc.specs.Limits.{quota}
pub use Rattle.ent_alloc.specs.Sequential.{Allocator, available, born, listed_alone, stands_in}
pub use Rattle.ent_alloc.specs.Sequential.{state_of}
pub use Rattle.ent_alloc.specs.Serving.{AreServed, Replying, Request}
pub use Rattle.ent_alloc.specs.Sound.{IsLive, IsSound}
pub use Rattle.ent_alloc.specs.declared.refused.Refused.{Refused}
pub use Rattle.ent_alloc.specs.declared.space.Space.{Space}
pub use Rattle.ent_log.specs.Logs.{entries_of, first_unreserved, is_reserved, spawned_by}
pub use Rattle.ent_log.specs.Logs.{spawned_in}
pub use Rattle.ent_log.specs.declared.entry.Entry.{Entry}
pub use Rattle.ent_log.specs.declared.entry.Entry.TheVariants.{Spawn}
pub use Rattle.ent_shared.proofs.HandedIn.{items_all}
pub use Rattle.ent_shared.proofs.Regrouping.{all_regrouped, length-regrouped, sum_regrouped}
pub use Rattle.ent_shared.proofs.Returned.{given_more, given_no_more}
pub use Rattle.ent_shared.proofs.Sorting.{all_sorted}
pub use Rattle.ent_shared.proofs.Weighing.{all_at, all_one, sum_at, sum_by-flat_map, whole_weighs}
pub use Rattle.ent_shared.specs.Holders.{GoesByRecords}
pub use Rattle.ent_shared.specs.Order.{Respects, as_call, handles_given, handles_of, history_of}
pub use Rattle.ent_shared.specs.Order.{own_of_all, reservations_by, reservations_of}
pub use Rattle.ent_shared.specs.Phase.{IsOf, Reserver, Shared, records_of}
pub use Rattle.ent_shared.specs.Record.{opened, own_reservations, reservation_at}
unfoldable pub use Rattle.ent_shared.specs.Record.{opened_records}
pub use Rattle.ent_shared.specs.Replies.{IsReturned, Tells}
pub use Rattle.ent_shared.specs.declared.record.Record.{Record}
pub use Rattle.ent_shared.specs.declared.record.RecordEntry.TheVariants.{Own}
pub use Rattle.ent_shared.specs.declared.record.Reservation.{Reservation}
pub use Rattle.ent_blocks.specs.Blocks.{Blocks}
pub use Rattle.ent_blocks.specs.Drawing.{IsDrawn, IsOfPhase}
pub use Rattle.ent_queue.proofs.Gaining.{gains_nothing, gains_of, gains_then}
pub use Rattle.ent_queue.specs.Command.{Command}
pub use Rattle.ent_queue.specs.Commands.{Extends, output_of, reserver_of, source_of}
pub use Rattle.ent_queue.specs.Logging.{Logs, request_of}
pub use Rattle.ent_queue.specs.Reserving.{Gains, stands_for}
pub use Rattle.ent_queue.specs.declared.commands.Commands.{Commands}
pub use Rattle.ent_world.proofs.Born.{get-with_born, no_entity, no_index}
pub use Rattle.ent_world.proofs.GivenOnce.{history-sound}
pub use Rattle.ent_world.specs.OpenWorld.{OpenWorld, View, world_at_start}
pub use Rattle.ent_world.specs.Rest.{HasStoppedSo}
pub use Rattle.ent_world.specs.Sync.{IfStopped, IsStop, after_births, birth_in, handles_listed}
pub use Rattle.ent_world.specs.Sync.{listed_birth, ordinal, sync}
pub use Rattle.ent_world.specs.World.{AreLiving, IsWorld, World}
pub use Rattle.ent_world.specs.declared.fault.Fault.{Fault}
pub use Rattle.ent_world.specs.declared.fault.SyncFault.{SyncFault}
pub use Rattle.ent_world.specs.declared.fault.SyncReport.{SyncReport}
pub use lib.ListN.{get_elem?}
pub use mathlib.Core.Logic.{dite}
pub use mathlib.Core.Option.{some}
pub use native.Mathlib.Decide.{ℕ_discrete}
pub use Rattle.ent_runner.specs.Blocks.{HaveFilled}
pub use Rattle.ent_runner.specs.Crew.{AreBrokenOff, AreDone, Crew, DidAll, DidUntil, DoesAt, Ended}
pub use Rattle.ent_runner.specs.Crew.{OfEach, Stopped}
pub use Rattle.ent_runner.specs.Crew.Claims.{AreFirst, Claimer, Claims, IsClaimedBy}
pub use Rattle.ent_runner.specs.Crew.Claims.{IsClaimerHolding, IsClaimerOf}
pub use Rattle.ent_runner.specs.Crew.Collecting.{AreCollected, error_in, first_error, outputs_put}
pub use Rattle.ent_runner.specs.Crew.Record.{after_claim, claims_of, nothing_claimed}
pub use Rattle.ent_runner.specs.Crew.Rule.{AfterClaim, AreClaimsClosed, AreClaimsRuled, ClaimTells}
pub use Rattle.ent_runner.specs.Crew.Rule.{IsClaimKept, ended_in}
pub use Rattle.ent_runner.specs.Crew.Worker.{HasClaimed, HasStoppedAt, HasWorked, HaveAllWorked}
pub use Rattle.ent_runner.specs.Crew.Worker.{HaveDoneFirst, HaveEnded, IsLostFor, IsNewWorker}
pub use Rattle.ent_runner.specs.Crew.Worker.{IsRoom, IsRoomForOne, IsUnused, all_done, numbers_of}
pub use Rattle.ent_runner.specs.Frame.{Ends, EndsInOrder, IsBrokenOff, IsFrame, IsLost, IsWork}
pub use Rattle.ent_runner.specs.Frame.{StopsAt, SystemMayIssue, SystemMayLeave, calls_in_order}
pub use Rattle.ent_runner.specs.Frame.{commands_of, first_call, queue_at, requests_by, reserved_by}
pub use Rattle.ent_runner.specs.Frame.{view_of}
pub use Rattle.ent_runner.specs.Logs.{HaveLogged, HaveRun, SystemMayLog, entries_by, given_to}
pub use Rattle.ent_runner.specs.Logs.{log_at, requests_in}
pub use Rattle.ent_runner.specs.Runs.{AreRun, StopShort, first_some}
pub use Rattle.ent_runner.specs.Filling.{IsFilled}
pub use Rattle.ent_runner.specs.Stage.{AreReady, IsDealt}
pub use Rattle.ent_runner.specs.declared.crew.record.ClaimRecord.{ClaimRecord}
pub use Rattle.ent_runner.specs.declared.crew.record.ClaimRecord.{ClaimRecord as Claimed}
pub use Rattle.ent_runner.specs.declared.crew.worker.Done.{Done}
pub use Rattle.ent_runner.specs.declared.crew.worker.Worker.{Worker}
