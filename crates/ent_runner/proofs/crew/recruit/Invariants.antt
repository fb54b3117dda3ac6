use Rattle.ent_runner.proofs.Common.{◌≡◌, ◌≤◌, ◌+◌, ◌++◌, map, reverse, vec_len, vec_capacity}
use Rattle.ent_runner.proofs.Common.{IsRoomForOne, All}
use Rattle.ent_runner.proofs.crew.recruit.Given as goal

-- so far each worker has a claimer, from the last one on
abbrev pub invariant-loop-claimer : goal.invariant-loop-claimer
invariant-loop-claimer g l = record {
  claimers : l.claimers.items ++ reverse (map (λ w. w.claimer) l.team.items)
      ≡ l.initial.claimers.items;
  room : vec_len l.team + vec_len l.claimers ≤ vec_capacity l.team;
  kept : vec_capacity l.claimers ≡ vec_capacity l.initial.claimers;
  fresh : All (λ w. IsRoomForOne w.done) l.team.items;
}

abbrev pub decreases-loop-claimer : goal.decreases-loop-claimer
decreases-loop-claimer g l = vec_len l.claimers
