use Rattle.std.proofs.Common.{◌≡◌, ◌+◌, ◌≤◌, length}
use Rattle.ent_log.specs.Logs.{refused_in}
use Rattle.ent_log.proofs.log.Log.refused.Given as goal

abbrev pub invariant-loop-entry : goal.invariant-loop-entry
invariant-loop-entry g l = record {
  counted : l.refused + length (refused_in l.rest) ≡ length (refused_in l.self);
  within : l.refused + length l.rest ≤ length l.self;
}

abbrev pub decreases-loop-entry : goal.decreases-loop-entry
decreases-loop-entry g l = length l.rest
