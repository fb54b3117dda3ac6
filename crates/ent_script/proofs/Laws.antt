-- The lemmas that close goals without an answer: the prover tries them together at each such goal
-- of this crate.
use Rattle.ent_script.proofs.Common.{common_steps, bytes_eq, codes, length, left-parse_map}
use Rattle.ent_script.proofs.Common.{left_none, members_end, value-begin_array, value-begin_object}
use Rattle.ent_script.proofs.Common.{value_is, after_end_array, items, read_key, value, token_of}
use Rattle.ent_script.proofs.Common.{no_members, object, as_array, as_object, converted, of_items}
use Rattle.ent_script.proofs.Common.{of_members, view, left}
use Rattle.ent_script.proofs.Births.{birth_of_halves, birth_of_split, birth_of_whole}
use Rattle.ent_script.proofs.Cuts.{leaves_of-insert_entry, view-Object}
use Rattle.ent_script.proofs.Whole.{passes_on, returned, heading_refused}
use Rattle.ent_script.proofs.Finding.{impossible, next_item, next_member, no_array, no_object_at}
use Rattle.ent_script.proofs.Finding.{not_passed, passed}
use Rattle.ent_script.proofs.Texts.{found, headed, json_is, whole, json_none, one_more}
use Rattle.ent_script.proofs.Keyed.{apart, one_key, three_keys, two_keys, under_before, under_here}
use Rattle.ent_script.proofs.Keyed.{with_key}
use Rattle.ent_script.proofs.NamesLaws.{none_of, numbers_added}
use Rattle.ent_script.proofs.Openings.{opened_array, opened_object, text_no_object}
use Rattle.ent_script.proofs.Ranges.{returned_in}
use Rattle.ent_script.proofs.Turns.{begun, not_begun, passes_json, converted-array}
use Rattle.ent_script.proofs.Turns.{converted-object, key_refused, member_refused}
use Rattle.ent_script.proofs.Values.{elements_seen, members_seen, not_only, only_member}
use Rattle.ent_script.proofs.Values.{pairs_of-leaves_of}

pub ruleset laws = (
  common_steps,
  after_end_array,
  apart,
  as_array,
  as_object,
  begun,
  birth_of_halves,
  birth_of_split,
  birth_of_whole,
  bytes_eq,
  codes,
  converted,
  converted-array,
  converted-object,
  elements_seen,
  found,
  headed,
  heading_refused,
  impossible,
  items,
  json_is,
  json_none,
  key_refused,
  leaves_of-insert_entry,
  left,
  left-parse_map,
  left_none,
  length,
  member_refused,
  members_end,
  members_seen,
  next_item,
  next_member,
  no_array,
  no_members,
  no_object_at,
  none_of,
  not_begun,
  not_only,
  not_passed,
  numbers_added,
  object,
  of_items,
  of_members,
  one_key,
  one_more,
  only_member,
  opened_array,
  opened_object,
  pairs_of-leaves_of,
  passed,
  passes_json,
  passes_on,
  read_key,
  returned,
  returned_in,
  text_no_object,
  three_keys,
  token_of,
  two_keys,
  under_before,
  under_here,
  value,
  value-begin_array,
  value-begin_object,
  value_is,
  view,
  view-Object,
  whole,
  with_key,
)
