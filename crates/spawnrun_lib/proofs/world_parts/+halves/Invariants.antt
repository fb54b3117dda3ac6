use Rattle.std.proofs.Common.{◌*◌}
use Rattle.spawnrun_lib.proofs.Common.{◌+◌, ◌-◌, length}
use Rattle.spawnrun_lib.proofs.world_parts.+halves.Given as goal

-- a half of several parts is fewer
abbrev pub decreases-write_lines : goal.decreases-write_lines
decreases-write_lines g l = 4 * length l.parts.now

abbrev pub decreases-write_both : goal.decreases-write_both
decreases-write_both g l = 4 * (length l.front.now + length l.back.now) - 1

abbrev pub decreases-write_both-one : goal.decreases-write_both-one
decreases-write_both-one g l = 4 * length l.front.now + 1

abbrev pub decreases-write_both-other : goal.decreases-write_both-other
decreases-write_both-other g l = 4 * length l.back.now + 1
