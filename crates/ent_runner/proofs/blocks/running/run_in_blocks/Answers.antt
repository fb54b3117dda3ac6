use Rattle.ent_runner.proofs.Common.{rules, AreReady}
use Rattle.ent_runner.proofs.Filled.{filled_done, broken_off}
use Rattle.ent_runner.proofs.blocks.running.run_in_blocks.Given as given
use Rattle.ent_runner.proofs.blocks.running.run_in_blocks.Goals.{After-deref}
use Rattle.ent_runner.proofs.blocks.running.run_in_blocks.Goals as goal

-- each system has a reserver of the phase
ready : (g : given.Over) (c : After-deref g)
    → AreReady c.args.blocks.now (g.T.Systems.count c.args.systems.now) c.deref.result.now
ready g c = record {
  count = search rules;
  of_phase = rw c.deref.ensures.value c.requires.own;
}

pub work-requires-clause-lent : goal.work-requires-clause-lent
work-requires-clause-lent g c κs within = λ k d less.
    ready g (goal.at.work-requires-clause-lent g c).After-deref

pub returns-clause-ok : goal.returns-clause-ok
returns-clause-ok g c =
    rw (c.split.ensures.first, c.split.ensures.second)
    ((filled_done g.O.Output.adds g.O.Output.empty c.args.blocks.now c.args.reservers.items _ _ _
    c.in-Ok-work.ensures.count (g.T.Systems.may_fill c.args.systems.now) c.in-Ok-work.done.items
    (search rules) (rw (c.in-Ok.ensures.crew.0, c.deref.ensures.value, c.how_many-count.ensures)
    at c.in-Ok-work.ensures.done)).0)

pub returns-clause-own : goal.returns-clause-own
returns-clause-own g c =
    rw c.split.ensures.second
    ((filled_done g.O.Output.adds g.O.Output.empty c.args.blocks.now c.args.reservers.items _ _ _
    c.in-Ok-work.ensures.count (g.T.Systems.may_fill c.args.systems.now) c.in-Ok-work.done.items
    (search rules) (rw (c.in-Ok.ensures.crew.0, c.deref.ensures.value, c.how_many-count.ensures)
    at c.in-Ok-work.ensures.done)).1)

pub returns-in-Err-work-clause-lost : goal.returns-in-Err-work-clause-lost
returns-in-Err-work-clause-lost g c =
    rw (c.new-in-Err-work.ensures, c.first_error.ensures)
    (broken_off g.O.Output.adds g.O.Output.empty c.args.blocks.now c.args.reservers.items _ _ _
    c.in-Err-work.ensures.count (g.T.Systems.may_fill c.args.systems.now)
    (g.T.Systems.may_leave c.args.systems.now) c.args.workers (search rules) _
    (rw (c.in-Ok.ensures.crew.0, c.deref.ensures.value, c.how_many-count.ensures)
    at c.in-Err-work.ensures.broken_off))
