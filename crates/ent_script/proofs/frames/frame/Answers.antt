use Rattle.ent_script.proofs.Common.{rules, frame_by}
use Rattle.ent_script.proofs.Openings.{array_begun, no_array_begun}
use Rattle.ent_script.proofs.frames.frame.Goals as goal

pub returns-then-not-branch-clause-value : goal.returns-then-not-branch-clause-value
unfolding frame_by
returns-then-not-branch-clause-value c d rest e = search
    (rules, no_array_begun, c.in_ok-begins_array.ensures.value d rest e)

pub returns-clause-value : goal.returns-clause-value
returns-clause-value c d rest e =
    search (rules, array_begun, c.in_ok-begins_array.ensures.value d rest e)
