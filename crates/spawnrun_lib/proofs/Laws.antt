-- The lemmas that close goals without an answer: the prover tries them together at each such goal
-- of this crate.
use Rattle.spawnrun_lib.proofs.Common.{All-head, All-nil, IfOk-weaker, append-nil, common_steps}
use Rattle.spawnrun_lib.proofs.Common.{drop_all, flat_map-append, iff_false, json_none}
use Rattle.spawnrun_lib.proofs.Common.{length_of_views, list_of-items_view, map-append, map-set}
use Rattle.spawnrun_lib.proofs.Common.{on_ok_weaker, take_at_read, take_more}
use Rattle.ent_queue.proofs.Extending.{extends_nothing, extends_then}
use Rattle.spawnrun_lib.proofs.SystemRunning.{has_begun, has_ended, names_set, stopped_in}
use Rattle.spawnrun_lib.proofs.CommandLineOptions.{show_read, shows_by, with_option}
use Rattle.spawnrun_lib.proofs.GivenOnce.{given_once}
use Rattle.spawnrun_lib.proofs.NextFrame.{has_begun_in_blocks}
use Rattle.spawnrun_lib.proofs.OneTextInBlocks.{one_text_in_blocks}
use Rattle.spawnrun_lib.proofs.Parts.{four_parts}

pub ruleset laws = (
  All-head,
  All-nil,
  IfOk-weaker,
  append-nil,
  common_steps,
  drop_all,
  extends_nothing,
  extends_then,
  flat_map-append,
  four_parts,
  given_once,
  has_begun,
  has_begun_in_blocks,
  has_ended,
  iff_false,
  json_none,
  length_of_views,
  list_of-items_view,
  map-append,
  map-set,
  names_set,
  on_ok_weaker,
  one_text_in_blocks,
  show_read,
  shows_by,
  stopped_in,
  take_at_read,
  take_more,
  with_option,
)
