use Rattle.ent_replay.proofs.Common.{◌≡◌, ◌+◌, ◌-◌, ◌^◌, ◌≤◌, length, drop, min, spaced}
use Rattle.ent_replay.proofs.writing.spaced_len.Given as goal

-- what is counted and what is left are all, up to the greatest number
abbrev pub invariant-loop-handle : goal.invariant-loop-handle
invariant-loop-handle l = record {
  counted : min (l.len + length (spaced (drop l.handle-index l.handles))) (2 ^ 64 - 1)
      ≡ min (length (spaced l.handles)) (2 ^ 64 - 1);
  within : l.len ≤ 2 ^ 64 - 1;
}
