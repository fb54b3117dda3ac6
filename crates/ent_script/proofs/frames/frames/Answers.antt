use Rattle.ent_script.proofs.Common.{arith}
use Rattle.ent_script.proofs.Openings.{array_begun, no_array_begun}
use Rattle.ent_script.proofs.frames.frames.Goals as goal

pub returns-then-not-branch-clause-value : goal.returns-then-not-branch-clause-value
returns-then-not-branch-clause-value c d rest e =
    let is =
    no_array_begun c.args.depth c.in_ok-begins_array.field-0 c.begins_array.new.reader d rest
    (c.in_ok-begins_array.ensures.value d rest e) (grind arith) in
    (rw is.0, is.1)

pub returns-clause-value : goal.returns-clause-value
returns-clause-value c d rest e =
    let is = array_begun c.args.depth c.in_ok-begins_array.field-0 c.begins_array.new.reader d rest
    (c.in_ok-begins_array.ensures.value d rest e) (grind arith) in
    rw is.1 (c.frames_inside.ensures.value _ is.0 rest is.2)
