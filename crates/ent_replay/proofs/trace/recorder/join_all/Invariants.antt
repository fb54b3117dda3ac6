use Rattle.ent_replay.proofs.Common.{◌≡◌, ◌++◌, map, take, drop, emptied, lines_in_all}
use Rattle.ent_replay.proofs.Recorded.{Leads}
use Rattle.ent_replay.proofs.trace.recorder.join_all.Given as goal

abbrev pub invariant-loop-log : goal.invariant-loop-log
invariant-loop-log l = record {
  taken : Leads l.fn.checker (lines_in_all l.fn.logs) l.checker
      (lines_in_all (drop l.log-index l.logs));
  emptied_are : l.logs ≡ map emptied (take l.log-index l.fn.logs) ++ drop l.log-index l.fn.logs;
}
