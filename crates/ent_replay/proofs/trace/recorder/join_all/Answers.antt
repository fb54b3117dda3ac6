use Rattle.ent_replay.proofs.Common.{rules, arith, ◌≤◌, length, map_over_more, emptied, drop-set-lt}
use Rattle.ent_replay.proofs.Common.{add-one, drop-cons, take_all, drop_all, append-nil}
use Rattle.ent_replay.proofs.Recorded.{TakesAll-append}
use Rattle.ent_replay.proofs.trace.recorder.join_all.Goals as goal

pub loop-log-preserved : goal.loop-log-preserved
loop-log-preserved c = record {
  taken = search (rules, drop-set-lt, add-one, drop-cons, TakesAll-append);
  emptied_are = search (rules, map_over_more emptied);
}

pub returns : goal.returns
returns c =
    let over : length c.args.logs.now ≤ c.loop-log.log-index = omega arith in
    let done : length c.loop-log.logs ≤ c.loop-log.log-index = omega arith in
    search (rules, take_all, drop_all, append-nil)
