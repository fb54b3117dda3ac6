use Rattle.ent_runner.proofs.GoingOn.{ends_frame}
use Rattle.cases_and_examples.proofs.examples.going_on.frame_that_goes_on.Goals as goal

-- The faults of both reports are those of a frame, and so is the world.
pub returns-in_ok-extend_from_slice-in-Memory-clause-ends :
    goal.returns-in_ok-extend_from_slice-in-Memory-clause-ends
returns-in_ok-extend_from_slice-in-Memory-clause-ends g c =
    let at = c.in-Memory in
    let rest = c.in_ok-rest-in-Memory in
    let found = rw c.in-Err-Sync.field-0-is at c.in-Err-Sync.ensures.stopped in
    let stopped = rw at.is at found in
    let seen = c.deref.ensures.value in
    rw (c.in_ok-extend_from_slice-in-Memory.ensures.items, c.deref-in-Memory.ensures.value)
    (ends_frame g.S.System.may_issue c.args.systems.now 2 c.args.world.now c.run_frame.new.world
    c.apply_from.new.self c.in-Err-Sync.queues.items at.system at.command at.done at.so_far
    rest.rest.faults.items
    stopped (rw seen at rest.ensures.whole_world) (rw seen at rest.ensures.whole_faults))
