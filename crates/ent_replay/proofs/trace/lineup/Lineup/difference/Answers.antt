use Rattle.ent_replay.proofs.Common.{rules, ints, pool_at-cursor}
use Rattle.ent_replay.proofs.Lineups.{lined-least, lined-passed, at_middle, here, reply-here, pools}
use Rattle.ent_replay.proofs.Lineups.{is_after}
use Rattle.ent_replay.proofs.trace.lineup.Lineup.difference.Goals as goal

pub reply_at-requires : goal.reply_at-requires
reply_at-requires c = search (rules, ints, lined-least, lined-passed)

pub front_at-requires : goal.front_at-requires
front_at-requires c = search (rules, ints, lined-least, lined-passed)

pub returns : goal.returns
returns c =
    let r = c.remove-reservation.result.reservation in
    search (rules, ints, at_middle, here, reply-here, pools, pool_at-cursor, is_after)
