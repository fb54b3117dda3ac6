use Rattle.ent_replay.proofs.Common.{none, rules, refl, allocator_is}
use Rattle.ent_replay.proofs.MachineEvents.{consistent_as, ok_not_err, told, free-needs_flush}
use Rattle.ent_replay.proofs.MachineEvents.{free-not_alive, free-freed, free-consistent}
use Rattle.ent_replay.proofs.machine.Machine.free.Goals as goal

pub invariant_of-self : goal.invariant_of-self
invariant_of-self c =
    let none = c.if-not-is_empty.ensures.0 refl in
    elim c.match-free.branch [
      | goal.in-Ok w ↦ consistent_as w.in-Ok.ensures.ok
          (free-consistent _ _ _ none _ c.self.invariant
          (λ some. ok_not_err _ _ (w.in-Ok.ensures.needs_flush.1 some)) w.in-Ok.ensures.lived)
      | goal.in-Err-NeedsFlush w ↦ consistent_as (allocator_is w.in-Err-NeedsFlush.ensures.err)
          c.self.invariant
      | goal.in-Err-NotAlive w ↦ consistent_as (allocator_is w.in-Err-NotAlive.ensures.err)
          c.self.invariant
      | goal.in-Err-Memory w ↦ consistent_as (allocator_is w.in-Err-Memory.ensures.err)
          c.self.invariant
    ]

pub returns : goal.returns
returns c = search (rules, told, free-freed, free-needs_flush, free-not_alive)
