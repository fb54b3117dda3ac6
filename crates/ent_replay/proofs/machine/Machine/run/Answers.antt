use Rattle.ent_replay.proofs.Common.{rules, ◌≡◌, ◌≢◌, ◌+◌, ◌++◌, ◌∷◌, [], Err, take, take_more}
use Rattle.ent_replay.proofs.Common.{take_all}
use Rattle.ent_replay.proofs.Histories.{given_once}
use Rattle.ent_replay.specs.declared.fault.ReplayFault.TheVariants as fault
use Rattle.ent_replay.proofs.Tables.{no_test}
use Rattle.ent_replay.proofs.Schedules.{after_events-append, outcomes_of-append}
use Rattle.ent_replay.proofs.machine.Machine.run.Goals as goal

pub returns-clause-outcomes : goal.returns-clause-outcomes
returns-clause-outcomes c = search (rules, take_all)

pub returns-clause-given_once : goal.returns-clause-given_once
returns-clause-given_once c = rw (returns-clause-outcomes c, ← c.self.view_is)
    (search (rules, given_once, c.args.events.now, c.self.invariant.sound, c.self.invariant.once))

pub loop-done-preserved : goal.loop-done-preserved
loop-done-preserved c =
    let event = c.index-events-done.result in
    let other : c.step-outcome.result ≢ Err fault.Memory =
    λ is. no_test (c.if-is_out_of_memory.ensures.1 is) in
    let more : take (c.loop-done.done + 1) c.args.events.now
    ≡ take c.loop-done.done c.args.events.now ++ event
    ∷ [] = search (rules, take_more, c.args.events.now, c.loop-done.done, c.index-events-done.is) in
    search (rules, after_events-append, outcomes_of-append)
