-- The lemmas that close goals without an answer where it is said what a text has instead.
use Rattle.ent_script.proofs.Common.{All-nil, append-nil, common_steps, flat_map-append}
use Rattle.ent_script.proofs.Common.{map-append, take_more}
use Rattle.ent_script.proofs.Firsts.{next_whole}
use Rattle.ent_script.proofs.Fronts.{added, counted, front-more, front-short, go_on}
use Rattle.ent_script.proofs.Texts.{json_none}
use Rattle.ent_script.proofs.Values.{length_of_views, list_of-items_view}

pub ruleset laws = (
  All-nil,
  added,
  append-nil,
  common_steps,
  counted,
  flat_map-append,
  front-more,
  front-short,
  go_on,
  json_none,
  length_of_views,
  list_of-items_view,
  map-append,
  next_whole,
  take_more,
)
