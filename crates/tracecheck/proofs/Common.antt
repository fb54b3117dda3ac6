-- The names that proofs of this crate cite, of std, of the crates below and of its own specs.
-- Declares nothing.
pub use Rattle.std.proofs.Common.{All, Bool, Bor, Err, IfErr, IfSome, IsErrAnd, List, None, Ok}
pub use Rattle.std.proofs.Common.{OnErr, OnOk, Option, Result, Some, [], ap, append_assoc, arith}
pub use Rattle.std.proofs.Common.{bytes_eq, codes, eqb, false, find, if◌then◌else◌, inl, inr}
pub use Rattle.std.proofs.Common.{is_some, length, length-append, map, not, option_and_then}
pub use Rattle.std.proofs.Common.{option_map, pos, refl, rules, subst, suc, sym, take, true, zero}
pub use Rattle.std.proofs.Common.{ℕ, ◌&&◌, ◌++◌, ◌+◌, ◌<◌, ◌^◌, ◌∙◌, ◌∷◌, ◌≡◌, ◌≢◌, ◌≤◌, ◌⊎◌}
pub use Rattle.std.proofs.lemmas.Bool.{cases_lt, cond-false, eqb-true, false≢true, ne_eqb}
pub use Rattle.std.proofs.lemmas.Grind.{common_steps}
pub use Rattle.std.proofs.lemmas.List.{append-nil, length-map, nil_from_length}
pub use Rattle.std.proofs.lemmas.List.Elements.{All-append}
pub use Rattle.std.proofs.lemmas.List.Sums.{sum_by_push}
pub use Rattle.std.proofs.lemmas.Result.{err_from_is_err_and}
pub use Rattle.std.proofs.lemmas.Slice.Eq.{bytes_eq-Decides}
pub use Rattle.std.specs.Io.KnownBytes.{Consumes, IsAtEnd}
pub use Rattle.std.specs.List.{list_all, slice_index_or}
pub use Rattle.clap.proofs.CallerLemmas.{default_present, entry_by_id, same_rules_by_id}
unfoldable pub use Rattle.clap.proofs.OnLiterals.{clap_on_literals}
pub use Rattle.clap.proofs.SimpleLemmas.{ready_simple, simple_groups}
pub use Rattle.clap.proofs.WalkLemmas.{find_row, first_value-rows, one_text-rows}
pub use Rattle.clap.specs.Built.{IsAuto, IsParsedFrom, SameRules}
pub use Rattle.clap.specs.Facts.{Entry, EntryPasses, HasId, HasReading, IsFilledEntry, IsKnownGroup}
pub use Rattle.clap.specs.Facts.{MayBeEmpty, PassesArg, ValuesPass, WantsDefault, args_of}
pub use Rattle.clap.specs.Facts.{groups_of, least_values, unwrap_or_range}
pub use Rattle.clap.specs.Kinds.{HasKind, Kinds, or_else}
pub use Rattle.clap.specs.Simple.{App, HasMatchesOf, IsSimple, IsSimpleArg, app_of, is_ready}
pub use Rattle.clap.specs.Simple.{is_ready_leaf, matches_of}
pub use Rattle.clap.specs.Walk.{Row, Rule, Text, first_of, rows_of, rule_of, texts}
pub use Rattle.clap.specs.Words.{IsSignedIn, fault_of, first_value, found_of, is_simple}
pub use Rattle.clap.specs.Words.{is_simple_and_free, items_of, matched_of, takes}
pub use Rattle.clap.specs.declared.builder.ArgAction.TheVariants.{Set}
pub use Rattle.clap.specs.declared.builder.arg.Arg.{Arg}
pub use Rattle.clap.specs.declared.builder.command.Command.{Command}
pub use Rattle.clap.specs.declared.builder.value_parser.Reading.{Reading}
pub use Rattle.clap.specs.declared.builder.value_parser.Reading.TheVariants.{WithoutMinus}
pub use Rattle.clap.specs.declared.builder.value_parser.ValueParser.TheVariants.{Signed}
pub use Rattle.clap.specs.declared.error.Error.{Error}
pub use Rattle.clap.specs.declared.error.kind.ErrorKind.TheVariants.{ArgumentConflict}
pub use Rattle.clap.specs.declared.parser.ArgMatches.{ArgMatches}
pub use Rattle.clap.specs.declared.parser.matches.Found.{Found}
pub use Rattle.clap.specs.declared.parser.matches.MatchedArg.{MatchedArg}
pub use Rattle.cli.proofs.Faults.{found_fault, only_memory}
pub use Rattle.cli.specs.Fault.{IsFaultAmong, IsFaultOf}
pub use Rattle.cli.specs.Options.{HasNumber, given, number_option}
pub use Rattle.cli.specs.declared.line_fault.LineFault.{LineFault}
pub use Rattle.cli.specs.declared.line_fault.LineFault.TheVariants.{Memory}
pub use Rattle.cli.proofs.TakenInSteps.{Consumes-append}
pub use Rattle.cli.specs.Device.{Writes}
pub use Rattle.ent_alloc.specs.Entities.{Entities}
pub use Rattle.ent_alloc.specs.Limits.{Limits}
pub use Rattle.ent_alloc.specs.Sequential.{Allocator, cursor, opening}
pub use Rattle.ent_alloc.specs.declared.space.Space.{Space}
pub use Rattle.ent_handle.specs.Handle.{Handle}
pub use Rattle.ent_replay.proofs.Lists.{no_middle, parted}
pub use Rattle.ent_replay.proofs.MachineEvents.{some_of}
pub use Rattle.ent_replay.proofs.Orders.{ReachesAll-next, called-Follows, requested-next}
pub use Rattle.ent_replay.proofs.Orders.{requested_by, run_more}
pub use Rattle.ent_replay.proofs.ScheduleWords.{parts_first, parts_nonempty, parts_whole}
pub use Rattle.ent_replay.specs.Checker.{AgreesWith, AllFollow, Checked, Follows, IsTooMany}
pub use Rattle.ent_replay.specs.Checker.{NoneFollows, Reaches, ReachesAll, Shows}
pub use Rattle.ent_replay.specs.Text.{ended, line_of, lines_of, without_return, words_of}
pub use Rattle.ent_replay.specs.Trace.{Agrees, AreAnswered, Fits, FitsReserved, IsAlone, IsOrderOf}
pub use Rattle.ent_replay.specs.Trace.{after_line}
pub use Rattle.ent_replay.specs.declared.trace.call.Call.{Call}
pub use Rattle.ent_replay.specs.declared.trace.difference.Difference.{Difference}
pub use Rattle.ent_replay.specs.declared.trace.read_fault.Cause.{Cause}
pub use Rattle.ent_replay.specs.declared.trace.reservation.Reservation.{Reservation}
pub use Rattle.tracecheck.specs.Beginning.{IsImageOf, begun}
pub use Rattle.tracecheck.specs.Calls.{AskFew, Refused, calls_from, given_in, goes_on}
pub use Rattle.tracecheck.specs.Calls.{requested_after, requested_from}
pub use Rattle.tracecheck.specs.Checking.{HasRead, HasTaken}
pub use Rattle.tracecheck.specs.CommandLine.{IsFaultIn, both_fault, fault_in, has_both, has_limits}
pub use Rattle.tracecheck.specs.CommandLine.{image_in, is_taken, program}
pub use Rattle.tracecheck.specs.Status.{HasSaidFrom, IsSaidOf}
pub use Rattle.tracecheck.specs.Verdict.{AsksAt, DiffersAt, IsVerdict, MayEnd, StandsAt, agrees}
pub use Rattle.tracecheck.specs.Verdict.{asks_too_many, differs, differs_in_all, is_none}
pub use Rattle.tracecheck.specs.declared.checking.Checking.{Checking}
pub use Rattle.tracecheck.specs.declared.checking.End.{End}
pub use Rattle.tracecheck.specs.declared.command_line.Beginning.{Beginning}
pub use Rattle.tracecheck.specs.declared.status.Status.{Status}
pub use Rattle.tracecheck.specs.declared.verdict.Verdict.{Verdict}
