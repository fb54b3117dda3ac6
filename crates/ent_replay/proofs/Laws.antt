-- The lemmas that close goals without an answer: the prover tries them together at each such goal
-- of this crate.
use Rattle.std.proofs.lemmas.Grind.{common_steps}
use Rattle.std.proofs.lemmas.Bool.{eqb-true}
use Rattle.std.proofs.lemmas.Int.{ints}
use Rattle.std.proofs.lemmas.List.{append-nil, drop_all, nil_from_length, reverse-reverse, take_all}
use Rattle.std.proofs.lemmas.List.Elements.{All-nil}
use Rattle.std.proofs.lemmas.List.Sorted.{IsPermutation-map, sum_by-IsPermutation}
use Rattle.std.proofs.lemmas.Option.{slice_get_read}
use Rattle.std.specs.Cmp.{eq_by_cmp_equiv}
use Rattle.std.specs.FinMap.{get-empty, get-insert, get-remove}
use Rattle.ent_alloc.proofs.PoolLaw.{pool_at-cursor}
use Rattle.ent_replay.proofs.Histories.{all_held-none, linear}
use Rattle.ent_replay.proofs.Lineups.{IsFirstAt-head, IsFirstAt-unseen, Made-few, Made-next}
use Rattle.ent_replay.proofs.Lineups.{Passing-least, Passing-passed, lined-least, lined-passed}
use Rattle.ent_replay.proofs.Lineups.{started}
use Rattle.ent_replay.proofs.MachineEvents.{done, faulty, none_of, on_ok, some_of, told}
use Rattle.ent_replay.proofs.MachineEvents.{alloc-flushed, alloc-given, alloc-needs_flush}
use Rattle.ent_replay.proofs.MachineEvents.{answer-not_open, answer-not_stepped, begin-open}
use Rattle.ent_replay.proofs.MachineEvents.{busy-alloc, busy-flush, busy-free, flush-consistent}
use Rattle.ent_replay.proofs.MachineEvents.{flush-flushed, free-freed, free-needs_flush}
use Rattle.ent_replay.proofs.MachineEvents.{free-not_alive, step-not_open, step-stepped}
use Rattle.ent_replay.proofs.Tables.{from_entries-empty, from_entries-set, get-of_tree}
use Rattle.ent_replay.proofs.Tables.{map_values-empty, maps_alike, no_test, sum_below-none}
use Rattle.ent_replay.proofs.Tables.{by_place-emptied, by_place-past, by_place-set}
use Rattle.ent_replay.proofs.Tables.{count_from_empty, get_by_place, get_or-padded, in_table}
use Rattle.ent_replay.proofs.Tables.{none_in, values_below}
use Rattle.ent_replay.proofs.Orders.{run_more}
use Rattle.ent_replay.proofs.Recorded.{Leads-all, on_differs, on_err, Leads-popped}
use Rattle.ent_replay.proofs.ScheduleLaws.{ends, schedule_again, stops}
use Rattle.ent_replay.proofs.ScheduleWords.{fails_at, lines_first, lines_whole, one_after}
use Rattle.ent_replay.proofs.ScheduleWords.{before_first_at, word_first, word_long, words_in-blanks}
use Rattle.ent_replay.proofs.ScheduleWords.{handles_text-cons, length-handles_text, none_after}
use Rattle.ent_replay.proofs.ScheduleWords.{no_comment}
use Rattle.ent_replay.proofs.Sorted.{empty_keeps, lines}

pub ruleset laws = (
  common_steps,
  All-nil,
  IsFirstAt-head,
  IsFirstAt-unseen,
  IsPermutation-map,
  Leads-all,
  Leads-popped,
  Made-few,
  Made-next,
  Passing-least,
  Passing-passed,
  all_held-none,
  alloc-flushed,
  alloc-given,
  alloc-needs_flush,
  answer-not_open,
  answer-not_stepped,
  append-nil,
  before_first_at,
  begin-open,
  busy-alloc,
  busy-flush,
  busy-free,
  by_place-emptied,
  by_place-past,
  by_place-set,
  count_from_empty,
  done,
  drop_all,
  empty_keeps,
  ends,
  eq_by_cmp_equiv,
  eqb-true,
  fails_at,
  faulty,
  flush-consistent,
  flush-flushed,
  free-freed,
  free-needs_flush,
  free-not_alive,
  from_entries-empty,
  from_entries-set,
  get-empty,
  get-insert,
  get-of_tree,
  get-remove,
  get_by_place,
  get_or-padded,
  handles_text-cons,
  in_table,
  ints,
  length-handles_text,
  linear,
  lined-least,
  lined-passed,
  lines,
  lines_first,
  lines_whole,
  map_values-empty,
  maps_alike,
  nil_from_length,
  no_comment,
  no_test,
  none_after,
  none_in,
  none_of,
  on_differs,
  on_err,
  on_ok,
  one_after,
  pool_at-cursor,
  reverse-reverse,
  run_more,
  schedule_again,
  slice_get_read,
  some_of,
  started,
  step-not_open,
  step-stepped,
  stops,
  sum_below-none,
  sum_by-IsPermutation,
  take_all,
  told,
  values_below,
  word_first,
  word_long,
  words_in-blanks,
)
