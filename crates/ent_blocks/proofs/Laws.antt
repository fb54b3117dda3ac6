-- The lemmas that close goals without an answer: the prover tries them together at each such goal
-- of this crate.
use Rattle.ent_blocks.proofs.Common.{common_steps, append_assoc, drop_more, get_or_default}
use Rattle.ent_blocks.proofs.Common.{length-append, length-map, take_all, All-push}
use Rattle.ent_blocks.proofs.Accounts.{accounted_none, accounted_other, accounted_same}
use Rattle.ent_blocks.proofs.Accounts.{all_accounted, among_itself, among_none, among_other}
use Rattle.ent_blocks.proofs.Accounts.{among_same, one_left, unused_accounted}
use Rattle.ent_blocks.proofs.Dealers.{none_dealt_mark, none_past}
use Rattle.ent_blocks.proofs.Dealing.{blocks_more, closed_is, dealt-push, length-from}
use Rattle.ent_blocks.proofs.Dealing.{portions_within, none_used}
use Rattle.ent_blocks.proofs.Given.{used-distinct, used-live, used-not_live}
use Rattle.ent_blocks.proofs.GoingPast.{gone_past, here, lies_few, lies_within, says_wanted}
use Rattle.ent_blocks.proofs.Positions.{served_one}

pub ruleset laws = (
  common_steps,
  All-push,
  accounted_none,
  accounted_other,
  accounted_same,
  all_accounted,
  among_none,
  among_other,
  among_same,
  append_assoc,
  blocks_more,
  closed_is,
  dealt-push,
  drop_more,
  get_or_default,
  length-map,
  none_used,
  one_left,
  portions_within,
  served_one,
  take_all,
  unused_accounted,
)

-- those of blocks that go on
pub ruleset past_laws = (
  common_steps,
  among_itself,
  gone_past,
  here,
  length-append,
  length-from,
  length-map,
  lies_few,
  lies_within,
  none_dealt_mark,
  none_past,
  says_wanted,
  used-distinct,
  used-live,
  used-not_live,
)
