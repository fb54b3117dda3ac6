-- The names that proofs of this crate cite, of std, of the crates below and of its own specs.
-- Declares nothing.
pub use Rattle.std.proofs.Common.{All, AllPairs, Bool, Contains, Err, IsPermutation, List, None, Ok}
pub use Rattle.std.proofs.Common.{Option, Result, Some, [], ap, arith, cond, drop, eq-eqb, eqb}
pub use Rattle.std.proofs.Common.{false, filter, get_or, if◌then◌else◌, inl, inr, length, map, max}
pub use Rattle.std.proofs.Common.{min, nat_lt, ne_eqb, not, of_z, pos, refl, replicate, rules, set}
pub use Rattle.std.proofs.Common.{slice_get, subst, suc, sym, take, to_z, true, true≢false}
pub use Rattle.std.proofs.Common.{vec_capacity, vec_len, w64, zero, ℕ, ℤ, ◌&&◌, ◌*◌, ◌++◌, ◌+ℤ◌}
pub use Rattle.std.proofs.Common.{◌+◌, ◌-ℤ◌, ◌-◌, ◌<◌, ◌^◌, ◌∙◌, ◌∷◌, ◌≡◌, ◌≢◌, ◌≤ℤ◌, ◌≤◌, ◌⊎◌}
pub use Rattle.std.proofs.Math.ListN.{get_or-eq_default}
pub use Rattle.std.proofs.Math.Numerals.{add-one}
pub use Rattle.std.proofs.Math.Seq.{drop-append_seam, drop-cons}
pub use Rattle.std.proofs.lemmas.Bool.{and_from, and_parts, cases_Bool, cases_eq, cases_lt}
pub use Rattle.std.proofs.lemmas.Bool.{cond-false, cond-true, cond_both, eqb-true, le-ltb, lt-ltb}
pub use Rattle.std.proofs.lemmas.Bool.Decides.{nat_tests}
pub use Rattle.std.proofs.lemmas.Grind.{common_steps, get_or-set_at}
pub use Rattle.std.proofs.lemmas.Int.{ints}
pub use Rattle.std.proofs.lemmas.List.{append-nil, append_assoc, drop-drop, drop-set-lt, drop_all}
pub use Rattle.std.proofs.lemmas.List.{get_or-drop, get_or-set_other, get_or-take, length-append}
pub use Rattle.std.proofs.lemmas.List.{length-drop, length-take, nil_from_length, reverse-append}
pub use Rattle.std.proofs.lemmas.List.{take-append-drop, take_all, take_more}
pub use Rattle.std.proofs.lemmas.List.Edits.{map_over_more}
pub use Rattle.std.proofs.lemmas.List.Elements.{All-cons, All-filter, All-from_recursion, All-head}
pub use Rattle.std.proofs.lemmas.List.Elements.{All-nil, All-tail, filter-append}
pub use Rattle.std.proofs.lemmas.List.Elements.{recursion_from_All}
pub use Rattle.std.proofs.lemmas.List.Folds.{flat_map-map}
pub use Rattle.std.proofs.lemmas.List.Sorted.{Contains-permutation}
pub use Rattle.std.proofs.lemmas.List.Sorted.{IsNonDecreasingBy-from_sort_by_key}
pub use Rattle.std.proofs.lemmas.List.Sorted.{IsPermutation-append_comm, IsPermutation-append_left}
pub use Rattle.std.proofs.lemmas.List.Sorted.{IsPermutation-append_right, IsPermutation-map}
pub use Rattle.std.proofs.lemmas.List.Sorted.{IsPermutation-refl, IsPermutation-sym}
pub use Rattle.std.proofs.lemmas.List.Sorted.{IsPermutation-trans, answers_always}
pub use Rattle.std.proofs.lemmas.List.Sorted.{length_permutation, sum_by-IsPermutation}
pub use Rattle.std.proofs.lemmas.List.Kept.{IsNonDecreasingBy-filter}
pub use Rattle.std.proofs.lemmas.List.Splits.{join_with_byte-slice_split, length-slice_split}
pub use Rattle.std.proofs.lemmas.List.Splits.{slice_split_at, slice_split_none}
pub use Rattle.std.proofs.lemmas.List.Sums.{AllPass-from_list_all, sum_by-cons, sum_by_push}
pub use Rattle.std.proofs.lemmas.Map.{lookup-set_value}
pub use Rattle.std.proofs.lemmas.Option.{get_or_from_slice_get, none-some, same_Some}
pub use Rattle.std.proofs.lemmas.Option.{slice_get_within}
pub use Rattle.std.proofs.lemmas.Result.{err_from_is_err_and}
pub use Rattle.std.proofs.lemmas.Slice.Eq.{slice_eq-Decides}
pub use Rattle.std.specs.BTreeMap.{BTreeMap, is_at}
pub use Rattle.std.specs.Bool.{Decides}
pub use Rattle.std.specs.Char.{is_ascii_digit}
pub use Rattle.std.specs.Cmp.{eq_by_cmp_equiv, nat_cmp_total, unsigned_tied}
pub use Rattle.std.specs.FinMap.{FinMap, empty_of_len, find, get-empty, get-entries}
pub use Rattle.std.specs.FinMap.{get-from_entries, get-insert, get-remove, len-empty}
pub use Rattle.std.specs.FinMap.{nat_cmp-IsAntisymmetric, same_map}
pub use Rattle.std.specs.Fmt.{decimal}
pub use Rattle.std.specs.List.{AllByRecursion, before_first, flat_map, join_with_byte, list_all}
pub use Rattle.std.specs.List.{onto_first, slice_split}
pub use Rattle.std.specs.List.Sorted.{IsNonDecreasingBy, ties}
pub use Rattle.std.specs.Map.{lookup, set_value}
pub use Rattle.std.specs.Option.{IsSome, is_some, option_map, unwrap_or}
pub use Rattle.std.specs.Ordering.{eq_by_cmp, eq_of_both, is_lt, nat_cmp, on}
pub use Rattle.std.specs.Prelude.{IsOk, codes, nat_eq, reverse, ◌==◌}
pub use Rattle.std.specs.Result.{IfErr, IfOk, OnErr, OnOk, is_err}
pub use Rattle.std.specs.Str.{bytes_eq}
pub use Rattle.ent_alloc.proofs.Flushes.{born-IsPermutation}
pub use Rattle.ent_alloc.proofs.GivenOnce.{alloc-given, flush-given, free-given}
pub use Rattle.ent_alloc.proofs.GivenOnce.{given-IsPermutation}
pub use Rattle.ent_alloc.proofs.HandleSets.{stands_in-from_Contains}
pub use Rattle.ent_alloc.proofs.ListLaws.{All-right, AllPairs-left, AllPairs-right}
pub use Rattle.ent_alloc.proofs.Meaning.{allocator_is}
pub use Rattle.ent_alloc.proofs.PoolLaw.{after_take-none, asked-after_take, cursor-after_take}
pub use Rattle.ent_alloc.proofs.PoolLaw.{made-after_take, pool_at-cursor, reply-cursor, reply-none}
pub use Rattle.ent_alloc.proofs.PoolLaw.{top-after_take}
pub use Rattle.ent_alloc.proofs.Replies.{listed-IsPermutation, reply-refused, reply-served}
pub use Rattle.ent_alloc.proofs.RequestLaws.{requested-given}
pub use Rattle.ent_alloc.proofs.Soundness.{after_alloc-sound, after_flush-sound, after_free-sound}
pub use Rattle.ent_alloc.proofs.Soundness.{after_take-sound}
pub use Rattle.ent_alloc.proofs.Taken.{after_take-refused, available-after_take}
pub use Rattle.ent_alloc.specs.History.{AreGivenOnce, IsLegal, after_history, handles_in}
pub use Rattle.ent_alloc.specs.Limits.{Limits}
unfoldable pub use Rattle.ent_alloc.specs.Limits.{quota}
pub use Rattle.ent_alloc.specs.Sequential.{Allocator, after_alloc, after_flush, after_free}
pub use Rattle.ent_alloc.specs.Sequential.{after_take, asked_at, available, born, cursor, listed}
pub use Rattle.ent_alloc.specs.Sequential.{next, opening, pool_at, reply_from, reply_to, stands_in}
pub use Rattle.ent_alloc.specs.Sequential.{top}
pub use Rattle.ent_alloc.specs.Sound.{IsLive, IsSound}
pub use Rattle.ent_alloc.specs.declared.space.Space.{Space}
pub use Rattle.ent_alloc.specs.declared.span.Span.{Span}
pub use Rattle.ent_alloc.specs.declared.state.State.{State}
pub use Rattle.ent_handle.proofs.Decimals.{decimal_is_decimal, number_found, number_of-decimal}
pub use Rattle.ent_handle.proofs.Decimals.{plain_from_decimal}
pub use Rattle.ent_handle.proofs.HandleTexts.{handle_found, handle_of_text}
pub use Rattle.ent_handle.specs.Handle.{Handle, IsHandle}
pub use Rattle.ent_handle.specs.Text.{handle_of, handle_text}
pub use Rattle.ent_handle.specs.declared.text.TextFault.{TextFault}
pub use native.Mathlib.Decide.{ℕ_discrete}
pub use Rattle.ent_replay.specs.Checker.{AgreesWith, AllFollow, AreKeyed, AreSteady, Checked}
pub use Rattle.ent_replay.specs.Checker.{ComesAfter, Differs, Follows, HasNoOrder, IfReserve}
pub use Rattle.ent_replay.specs.Checker.{IsChecking, IsKeyed, IsLatest, IsSettled, KeyOf}
pub use Rattle.ent_replay.specs.Checker.{NoneFollows, OnDiffers, Reaches, ReachesAll, Shows}
pub use Rattle.ent_replay.specs.Checker.{keys_after, opened, raised, requested_in, reservations_of}
pub use Rattle.ent_replay.specs.Checker.{reserve_lines}
pub use Rattle.ent_replay.specs.Held.{all_held, held, held_by}
unfoldable pub use Rattle.ent_replay.specs.Held.{joined}
pub use Rattle.ent_replay.specs.Histories.{IsAtRest, Phase, StandInHistory, TellsReply, given_by}
pub use Rattle.ent_replay.specs.Histories.{given_by_all, last_of, new_phase, phase_after}
pub use Rattle.ent_replay.specs.Histories.{reservations, reserved_by_call, reserved_by_request}
pub use Rattle.ent_replay.specs.Lineup.{FitsAt, IsFirstAt, IsLineup, KeepsCallers, NamesOne}
pub use Rattle.ent_replay.specs.Lineup.{NoneFits, all_of, is_of, lines_of, reached}
pub use Rattle.ent_replay.specs.Logs.{emptied, new_logs}
pub use Rattle.ent_replay.specs.Machine.{AreConsistent, HasPassed, Makes, awaited, machine_state}
pub use Rattle.ent_replay.specs.Machine.{map_values, open_call_of, unasked}
pub use Rattle.ent_replay.specs.OutcomeText.{handles_text, spaced}
pub use Rattle.ent_replay.specs.Recording.{Compares, Finishes, Takes, TakesAll, lines_in_all}
pub use Rattle.ent_replay.specs.Recording.{numbered, numbered_after, one_more}
pub use Rattle.ent_replay.specs.Schedule.{MachineState, OpenCall, Reply, Returned, after_event}
pub use Rattle.ent_replay.specs.Schedule.{after_events, alloc_front, answer_open, answer_with}
pub use Rattle.ent_replay.specs.Schedule.{begin_with, callers, event_takes_memory, is_busy, left_of}
pub use Rattle.ent_replay.specs.Schedule.{on_alloc, on_answer, on_begin, on_event, on_flush}
pub use Rattle.ent_replay.specs.Schedule.{on_free, on_step, outcome_of, outcomes_of, refuse}
pub use Rattle.ent_replay.specs.Schedule.{reported, say, step_open, step_with}
pub use Rattle.ent_replay.specs.ScheduleText.{AreEvents, ExplainsFault, IsEvent, Spells, event_of}
pub use Rattle.ent_replay.specs.ScheduleText.{event_text, events_of, goes_on, handle_word, none}
pub use Rattle.ent_replay.specs.ScheduleText.{number_word, one, or_cause, schedule_of}
pub use Rattle.ent_replay.specs.ScheduleText.{schedule_text, two, without_empty_end, words_of}
pub use Rattle.ent_replay.specs.ScheduleText.{◌>>=◌}
unfoldable pub use Rattle.ent_replay.specs.ScheduleText.{begin_of, event_with}
pub use Rattle.ent_replay.specs.Table.{by_place, one_if_some, values_in}
pub use Rattle.ent_replay.specs.Text.{Word, and_then, before_comment, count_in, handles_told}
pub use Rattle.ent_replay.specs.Text.{is_blank, number_told, words_in}
unfoldable pub use Rattle.ent_replay.specs.Totals.{sum_below}
pub use Rattle.ent_replay.specs.Trace.{Agrees, AreAnswered, Fits, FitsReserved, IsAlone, IsOrderOf}
pub use Rattle.ent_replay.specs.Trace.{MayPass, after_front, after_line, after_lines}
pub use Rattle.ent_replay.specs.declared.event.Event.{Event}
pub use Rattle.ent_replay.specs.declared.event.Event.TheVariants.{Alloc, Answer, Begin, Flush, Free}
pub use Rattle.ent_replay.specs.declared.event.Event.TheVariants.{Step}
pub use Rattle.ent_replay.specs.declared.fault.ReplayFault.{ReplayFault}
pub use Rattle.ent_replay.specs.declared.outcome.Outcome.{Outcome}
pub use Rattle.ent_replay.specs.declared.read_fault.Cause.{Cause}
pub use Rattle.ent_replay.specs.declared.read_fault.ReadFault.{ReadFault}
pub use Rattle.ent_replay.specs.declared.read_fault.ReadFault.TheVariants.{Line}
pub use Rattle.ent_replay.specs.declared.stored_call.StoredCall.{StoredCall}
pub use Rattle.ent_replay.specs.declared.trace.call.Call.{Call}
pub use Rattle.ent_replay.specs.declared.trace.check_error.CheckError.{CheckError}
pub use Rattle.ent_replay.specs.declared.trace.checker.Checker.{Checker}
pub use Rattle.ent_replay.specs.declared.trace.difference.Difference.{Difference}
pub use Rattle.ent_replay.specs.declared.trace.lineup.Lineup.{Lineup}
pub use Rattle.ent_replay.specs.declared.trace.placed.Placed.{Placed}
pub use Rattle.ent_replay.specs.declared.trace.reply.AllocReply.{AllocReply}
pub use Rattle.ent_replay.specs.declared.trace.reply.FlushReply.{FlushReply}
pub use Rattle.ent_replay.specs.declared.trace.reply.FreeReply.{FreeReply}
pub use Rattle.ent_replay.specs.declared.trace.reply.ReserveReply.{ReserveReply}
pub use Rattle.ent_replay.specs.declared.trace.reservation.Reservation.{Reservation}
