use Rattle.ent_replay.proofs.Common.{none, rules, refl, allocator_is}
use Rattle.ent_replay.proofs.MachineEvents.{consistent_as, ok_not_err, told, alloc-needs_flush}
use Rattle.ent_replay.proofs.MachineEvents.{alloc-given, alloc-consistent, alloc-flushed}
use Rattle.ent_replay.proofs.machine.Machine.alloc.Goals as goal

pub invariant_of-self : goal.invariant_of-self
invariant_of-self c =
    let none = c.if-not-is_empty.ensures.0 refl in
    elim c.match-alloc.branch [
      | goal.in-Ok w ↦ consistent_as w.in-Ok.ensures.ok
          (alloc-consistent _ _ _ none _ c.self.invariant
          (λ some. ok_not_err _ _ (w.in-Ok.ensures.needs_flush.1 some)) w.in-Ok.ensures.front)
      | goal.in-Err-NeedsFlush w ↦ consistent_as (allocator_is w.in-Err-NeedsFlush.ensures.err)
          c.self.invariant
      | goal.in-Err-Space w ↦ consistent_as (allocator_is w.in-Err-Space.ensures.err)
          c.self.invariant
      | goal.in-Err-Memory w ↦ consistent_as (allocator_is w.in-Err-Memory.ensures.err)
          c.self.invariant
    ]

pub returns : goal.returns
returns c = search (rules, told, alloc-given, alloc-needs_flush, alloc-flushed)
