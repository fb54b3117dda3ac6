-- The names that proofs of this crate cite, of std, of the crates below and of its own specs.
-- Declares nothing.
pub use Rattle.std.proofs.Common.{All, Bool, Bor, Contains, Equal, Greater, IfSome, IsOk, Less}
pub use Rattle.std.proofs.Common.{List, None, OnErr, OnOk, Option, Ordering, Result, Some, T, []}
pub use Rattle.std.proofs.Common.{ap, append-nil, append_assoc, arith, bytes_eq, codes, cond, drop}
pub use Rattle.std.proofs.Common.{false, filter, find, fold, get_or, inl, inr, is_some, le-leb}
pub use Rattle.std.proofs.Common.{length, length-drop, lit<, map, not, option_map, pos, refl, rules}
pub use Rattle.std.proofs.Common.{set, slice_get, string_bytes, subst, suc, sym, take, true}
pub use Rattle.std.proofs.Common.{unwrap_or, vec_capacity, vec_len, zero, ℕ, ℤ, ◌%◌, ◌&&◌, ◌++◌}
pub use Rattle.std.proofs.Common.{◌+◌, ◌-◌, ◌/◌, ◌<◌, ◌==◌, ◌^◌, ◌||◌, ◌∙◌, ◌∷◌, ◌≡◌, ◌≢◌, ◌≤◌, ◌⊎◌}
pub use Rattle.std.proofs.Math.Dec.{eqb-suc-suc, eqb-suc-zero, eqb-zero-suc}
pub use Rattle.std.proofs.lemmas.Bool.{iff_false}
pub use Rattle.std.proofs.lemmas.Grind.{take_at_read}
pub use Rattle.std.proofs.lemmas.List.{drop_all, drop_more, ext_get_or, get_or_default}
pub use Rattle.std.proofs.lemmas.List.{length-append, length-map, map-append, map-set}
pub use Rattle.std.proofs.lemmas.List.{nil_from_length, take-append-drop, take_all, take_more}
pub use Rattle.std.proofs.lemmas.List.Folds.{list_all-map, list_any-append}
pub use Rattle.std.proofs.lemmas.List.Sorted.{All-permutation, Contains-permutation}
pub use Rattle.std.proofs.lemmas.List.Sorted.{IsPartitionPoint-from_clause, IsPermutation-sym}
pub use Rattle.std.proofs.lemmas.List.Sorted.{IsPermutation-trans, length_permutation}
pub use Rattle.std.proofs.lemmas.List.Sorted.{sum_by-IsPermutation}
pub use Rattle.std.proofs.lemmas.Map.Made.{length-from_same_keys}
pub use Rattle.std.proofs.lemmas.Result.{IfOk-weaker, err_from_is_err_and, on_err_weaker}
pub use Rattle.std.proofs.lemmas.Result.{on_ok_weaker}
pub use Rattle.std.proofs.lemmas.Slice.Zip.{AllZip-long}
pub use Rattle.std.specs.FinMap.Entries.{below_all, is_sorted}
pub use Rattle.std.specs.Fmt.{decimal}
unfoldable pub use Rattle.std.specs.Fmt.{digits}
pub use Rattle.std.specs.Fmt.InlineText.{inline_text}
pub use Rattle.std.specs.List.{AllByRecursion, AllPairs, AllZip, flat_map, list_all, list_any}
pub use Rattle.std.specs.List.{range_with_len, slice_index_or, sum_by}
unfoldable pub use Rattle.std.specs.List.{IsDistinct}
pub use Rattle.std.specs.List.Sorted.{IsPartitionedBy, IsPermutation}
pub use Rattle.std.specs.Option.{option_cmp, option_eq, option_map_or}
pub use Rattle.std.specs.Str.Parse.{ExplainsUnsignedError, HasUnsignedDigitsIfOk, ParsesUnsigned}
pub use Rattle.std.specs.declared.num.ParseIntError.{ParseIntError}
unfoldable pub use Rattle.clap.proofs.OnLiterals.{clap_on_literals}
pub use Rattle.clap.proofs.ValueTestLemmas.{accepts-Accepts}
pub use Rattle.clap.proofs.WalkLemmas.{find-map, first_value-rows, list_any-map, one_text-rows}
pub use Rattle.clap.specs.Faults.{action_fault, check_fault, entered_fault, flag_word_fault}
pub use Rattle.clap.specs.Faults.{level_fault, long_fault, option_fault, react_fault, set_fault}
pub use Rattle.clap.specs.Faults.{settle_fault, short_fault, step_fault, turn_fault, use_fault}
unfoldable pub use Rattle.clap.specs.Faults.{defaults_fault, flags_fault, walk_fault}
pub use Rattle.clap.specs.Kinds.{Kinds, or_else, range_kinds}
pub use Rattle.clap.specs.Simple.{entered, filled, help_rule, label_of, new_shape, rows_at}
pub use Rattle.clap.specs.Takes.{action_passes, built_takes, default_passes, entered_passes}
pub use Rattle.clap.specs.Takes.{is_given, is_valid, level_passes, long_passes, option_passes}
pub use Rattle.clap.specs.Takes.{react_passes, settle_passes, short_passes, step_passes}
pub use Rattle.clap.specs.Takes.{value_passes, values_pass}
unfoldable pub use Rattle.clap.specs.Takes.{flags_pass, walk_passes}
pub use Rattle.clap.specs.Values.{is_request, same_text}
pub use Rattle.clap.specs.Walk.{Held, Names, Outcome, Step, Waiting, Walk, action_of, answers_to}
pub use Rattle.clap.specs.Walk.{arg_by_id, at_row, finished, has_row, long_met, long_or_other}
pub use Rattle.clap.specs.Walk.{nothing_held, option_met, reacted, reading_by, rows_after, settled}
pub use Rattle.clap.specs.Walk.{short_met, stop_after, texts, used, used_as, used_by_id}
pub use Rattle.clap.specs.Walk.{values_or_missing, walk, walked_from, with_default, word_met}
unfoldable pub use Rattle.clap.specs.Walk.{bundle_met, walked}
pub use Rattle.clap.specs.Words.{AddsArg, App, HasMatchesOf, ReadsOne, Row, Rule, Shape, Text}
pub use Rattle.clap.specs.Words.{app_of, built, fault_of, first_of, first_value, found_of}
pub use Rattle.clap.specs.Words.{is_simple, is_simple_and_free, kind_of, one_of, one_text, read_as}
pub use Rattle.clap.specs.Words.{rows_of, rule_of, subcommand_name_of, subcommand_of}
pub use Rattle.clap.specs.Words.{subcommand_rows_of, takes, with_rule}
pub use Rattle.clap.specs.declared.builder.Arg.{Arg}
pub use Rattle.clap.specs.declared.builder.ArgAction.{ArgAction}
pub use Rattle.clap.specs.declared.builder.ArgAction.TheVariants.{Set}
pub use Rattle.clap.specs.declared.builder.value_parser.ValueParser.{ValueParser}
pub use Rattle.clap.specs.declared.parser.ArgMatches.{ArgMatches}
pub use Rattle.clap.specs.declared.parser.matches.Found.{Found}
pub use Rattle.cli.proofs.Faults.{found_fault, only_memory}
pub use Rattle.cli.proofs.Numbers.{number_read}
pub use Rattle.cli.specs.Options.{HasNumber, generations_option, number_option, option_number}
pub use Rattle.cli.specs.Options.{slots_option}
pub use Rattle.ent_alloc.proofs.Common.{All-append, All-cons, All-contains_itself, All-filter}
pub use Rattle.ent_alloc.proofs.Common.{All-head, All-map, All-nil, All-tail, All-weaker, Allocator}
pub use Rattle.ent_alloc.proofs.Common.{AreLimits, AreSpent, Call, Handle, IsLegal, IsSound}
pub use Rattle.ent_alloc.proofs.Common.{after_history, after_take, cases_lt, common_steps}
pub use Rattle.ent_alloc.proofs.Common.{eq_by_cmp, false≢true, get_or-range_with_len}
pub use Rattle.ent_alloc.proofs.Common.{get_or_from_slice_get, given_in, handle_cmp}
pub use Rattle.ent_alloc.proofs.Common.{handle_cmp_total, is_fresh, is_old, length-range_with_len}
pub use Rattle.ent_alloc.proofs.Common.{listed, min-eq_left, slice_get_within, stands_in}
pub use Rattle.ent_alloc.proofs.Common.{sum_by-cons}
pub use Rattle.ent_alloc.proofs.FreshHandles.{length-fresh}
pub use Rattle.ent_alloc.proofs.Taken.{after_take-served}
unfoldable pub use Rattle.ent_alloc.specs.Limits.{quota}
pub use Rattle.ent_alloc.specs.declared.space.Space.{Space}
pub use Rattle.ent_blocks.specs.Blocks.{Block, after_use, blocks_from, lesser, rest_of}
pub use Rattle.ent_blocks.specs.Drawing.{left_of}
pub use Rattle.ent_queue.proofs.Common.{AreDrawnBy, Command, Despawn, FitQuota, FitsQuota, Memory}
pub use Rattle.ent_queue.proofs.Common.{Refused, Remove, Spawn, SpawnMany, cost, flat_map-append}
pub use Rattle.ent_queue.proofs.Common.{stands_for, sum_by-append, used_by}
pub use Rattle.ent_replay.proofs.ScheduleWords.{IsWithout, lines_first, lines_whole}
pub use Rattle.ent_replay.proofs.Schedules.{after_events-append, outcomes_of-append}
pub use Rattle.ent_replay.specs.Schedule.{MachineState, after_event, after_events, outcomes_of}
pub use Rattle.ent_replay.specs.Schedule.{starting}
pub use Rattle.ent_replay.specs.ScheduleText.{lines_of}
pub use Rattle.ent_replay.specs.declared.event.Event.{Event}
pub use Rattle.ent_runner.proofs.Common.{All-left, All-right, AreGivenOnce, Ends, IsFrame, View}
pub use Rattle.ent_runner.proofs.Common.{commands_of, first_call, given_in-taken, queue_at}
pub use Rattle.ent_runner.proofs.Common.{reserved_by, sum_by-flat_map, sum_by-le-sum_by, view_of}
pub use Rattle.ent_runner.proofs.Alone.{calls_back}
pub use Rattle.ent_runner.proofs.ListedBirths.{listed-enters, listed-few, listed-new}
pub use Rattle.ent_runner.proofs.ListedBirths.{unlisted-stays}
pub use Rattle.ent_runner.proofs.ListedOnce.{Lists, listed-IsPermutation, listed-born}
pub use Rattle.ent_runner.proofs.Lists.{all_below, all_flat, all_from_each, at_within, each_of_all}
pub use Rattle.ent_runner.proofs.Lists.{flat_all, map_map_is, sum_map}
pub use Rattle.ent_script.proofs.Common.{AllFrom, IsFrameOf, IsScript, Script, bytes_eq-Decides}
pub use Rattle.ent_script.proofs.Texts.{json_none}
pub use Rattle.ent_script.proofs.Values.{length_of_views, list_of-items_view}
pub use Rattle.ent_script.specs.Reading.{script_of_text}
pub use Rattle.ent_script.specs.declared.operation.Operation.{Operation}
pub use Rattle.ent_script.specs.declared.target.Target.{Target}
pub use Rattle.ent_storage.proofs.Common.{Birth, Bundle, ComponentId, Entity, EntityMap}
pub use Rattle.ent_storage.proofs.Common.{IsDistinct-from_apart, IsTotalOrder, ListsAll, ListsWith}
pub use Rattle.ent_storage.proofs.Common.{birth_cmp, birth_cmp_total, birth_of, birth_order}
pub use Rattle.ent_storage.proofs.Common.{component_cmp, eq_by_cmp_equiv, is_lt, none-some}
pub use Rattle.ent_storage.proofs.Common.{on_total, options_total, then_total, tied_itself}
pub use Rattle.ent_storage.proofs.ByBirth.{filter-all}
pub use Rattle.ent_storage.proofs.OfBirth.{same_birth}
pub use Rattle.ent_storage.proofs.OneList.{one_list_of_all, one_list_with, same_list}
pub use Rattle.ent_storage.proofs.Positions.{first, second}
pub use Rattle.ent_world.proofs.Common.{Applied, AreBelow, AreListed, AreLiving, AreNamed}
pub use Rattle.ent_world.proofs.Common.{AreNamedBy, AreNames, Contains-from_stands_in, IsNamedBy}
pub use Rattle.ent_world.proofs.Common.{IsSameFault, IsThere, IsWorld, World, after_births}
pub use Rattle.ent_world.proofs.Common.{after_command, after_commands, after_queues}
pub use Rattle.ent_world.proofs.Common.{birth_cmp-IsAntisymmetric, first_world, handles_listed}
pub use Rattle.ent_world.proofs.Common.{listed_by, on_each, on_entity, same_handle}
pub use Rattle.ent_world.proofs.Common.{stands_in-from_Contains, sync, with_fault}
pub use Rattle.ent_world.proofs.GivenOnce.{IsFlushed, first_world-living, first_world-sound}
pub use Rattle.ent_world.proofs.GivenOnce.{flushed-kept, frame-given, frame-living, frame-sound}
pub use Rattle.ent_world.proofs.GivenOnce.{opening-given}
pub use Rattle.ent_world.proofs.Kept.{after_queues-keeps}
pub use Rattle.ent_world.proofs.Named.{entity_there}
pub use Rattle.ent_world.proofs.NamedFrames.{frame-named, queues_births, sync-below}
pub use Rattle.ent_world.proofs.NamedLists.{listed-named}
pub use Rattle.ent_world.proofs.Worlds.{after_births-world, after_history-world}
pub use Rattle.ent_world.specs.BirthsAlone.{BirthCommand, BirthFault, BirthMap, frame_alone}
pub use Rattle.ent_world.specs.declared.fault.Fault.{Fault}
pub use Rattle.ent_world.specs.declared.fault.FaultKind.{FaultKind}
pub use Rattle.spawnrun_lib.specs.CommandLine.{AsksFor, HasRun, HasShow, MayHaveBlocks}
pub use Rattle.spawnrun_lib.specs.CommandLine.{blocks_option, most_handles, optional_number}
pub use Rattle.spawnrun_lib.specs.CommandLine.{program, program_of, references_to, show_option}
pub use Rattle.spawnrun_lib.specs.CommandLine.{show_text, shown, workers_option}
pub use Rattle.spawnrun_lib.specs.Course.{AreFew, HaveGone}
pub use Rattle.spawnrun_lib.specs.CourseInBlocks.{EndsInBlocks, HaveGoneInBlocks}
pub use Rattle.spawnrun_lib.specs.Found.{line_at}
pub use Rattle.spawnrun_lib.specs.FrameAlone.{IsFrameAlone, queues_by_births}
pub use Rattle.spawnrun_lib.specs.FrameText.{fault_line, frame_line, frame_text, kind_text}
pub use Rattle.spawnrun_lib.specs.Given.{handles_in_run}
pub use Rattle.spawnrun_lib.specs.IssuedAlone.{AreGranted, BirthBindings, IsGranted, IsNoHandle}
pub use Rattle.spawnrun_lib.specs.IssuedAlone.{NamesNoHandle, NeedsNoHandle, births_from}
pub use Rattle.spawnrun_lib.specs.IssuedAlone.{births_meant, issued_alone, queues_alone}
pub use Rattle.spawnrun_lib.specs.IssuedAlone.{with_binding}
pub use Rattle.spawnrun_lib.specs.Issuing.{Bindings, IsOfBirth, IsSpawn, IsSpawnMany, IsTargeted}
pub use Rattle.spawnrun_lib.specs.Issuing.{Issues, IssuesAll, MayIssue, MayStop, OnEach, Stops}
pub use Rattle.spawnrun_lib.specs.Issuing.{StopsAmong, StopsOnEach, bound, names_after, unbound}
pub use Rattle.spawnrun_lib.specs.Parts.{HasIssued, HasIssuedOn, HasStopped, HasStoppedAmong}
pub use Rattle.spawnrun_lib.specs.Parts.{HasStoppedOn, command_on, names_of}
pub use Rattle.spawnrun_lib.specs.Replay.{outcome_lines}
pub use Rattle.spawnrun_lib.specs.Report.{AreExecutions, Execution, IsReport, IsReportOf, born_in}
pub use Rattle.spawnrun_lib.specs.Report.{frames_text, last_world, synced}
pub use Rattle.spawnrun_lib.specs.ReportInBlocks.{IsTextFrom, IsTextInBlocks, blocks_in}
pub use Rattle.spawnrun_lib.specs.ReportInBlocks.{reserved_in, sizes_of}
pub use Rattle.spawnrun_lib.specs.Rolls.{IsFirstFrom, IsRollOf, is_before}
pub use Rattle.spawnrun_lib.specs.SameReport.{HasEnoughSlots, IsLines, IsRefusedRequest}
pub use Rattle.spawnrun_lib.specs.SameReport.{IsWithoutHandles, TellsNoRefusal}
pub use Rattle.spawnrun_lib.specs.SameReport.{requested_by_operation, requested_in_all}
pub use Rattle.spawnrun_lib.specs.ScriptAlone.{birth_fault_line, birth_line, text_alone, text_from}
pub use Rattle.ent_script.specs.Shown.{ArePrintable}
pub use Rattle.spawnrun_lib.specs.Wants.{size_wants}
pub use Rattle.spawnrun_lib.specs.Work.{Accepts, IsProductOf, Refusal, Refuses, fails, input_limit}
pub use Rattle.spawnrun_lib.specs.Work.{is_too_long, size_line}
pub use Rattle.spawnrun_lib.specs.WorldText.{IsWorldText, alive_line, item_text, line_in}
pub use Rattle.spawnrun_lib.specs.declared.show.Show.{Show}
pub use Rattle.spawnrun_lib.specs.declared.show.Show.TheVariants.{Births, Handles}
pub use Rattle.spawnrun_lib.specs.declared.task.Task.{Task}
pub use Rattle.spawnrun_lib.specs.declared.product.Product.{Product}
