use Rattle.ent_script.proofs.Common.{◌+◌, ◌-◌, ◌*◌}
use Rattle.ent_script.proofs.divided.+halves.Given as goal

-- a half of several workers is fewer
abbrev pub decreases-script_of_share : goal.decreases-script_of_share
decreases-script_of_share g l = 4 * l.share.count

abbrev pub decreases-scripts_of_both : goal.decreases-scripts_of_both
decreases-scripts_of_both g l = 4 * (l.low.count + l.high.count) - 1

abbrev pub decreases-scripts_of_both-one : goal.decreases-scripts_of_both-one
decreases-scripts_of_both-one g l = 4 * l.low.count + 1

abbrev pub decreases-scripts_of_both-other : goal.decreases-scripts_of_both-other
decreases-scripts_of_both-other g l = 4 * l.high.count + 1
