use Rattle.ent_alloc.proofs.Common.{rules, ◌+◌, ◌≤◌, length, arith}
use Rattle.ent_alloc.proofs.ImageLinked.{AreTied, are_slots, slots_bytes_are, read_all}
use Rattle.ent_alloc.proofs.ImageSound.{each_once, linked}
use Rattle.ent_alloc.proofs.slots.Slots.read_image.Goals.{In_ok-records}
use Rattle.ent_alloc.proofs.slots.Slots.read_image.Goals as goal

-- what was read points at each other
are_tied : (c : In_ok-records) → AreTied c.args.limits c.in_ok-records.field-0.records.items
    c.in_ok-records.field-0.pending.items
are_tied c = search (rules, read_all)

-- no slot counts twice
once : (c : In_ok-records) → c.in_ok-records.field-0.live
    + length c.in_ok-records.field-0.pending.items ≤ length c.in_ok-records.field-0.records.items
once c = each_once _ _ _ _ (are_tied c) c.in_ok-records.ensures.read.counted

pub overflow_sub-result-2 : goal.overflow_sub-result-2
overflow_sub-result-2 c = search (rules, arith, once)

pub invariant_of-result : goal.invariant_of-result
invariant_of-result c =
    search (
      rules,
      arith,
      linked _ _ _ _ (are_tied (goal.at.invariant_of-result c).In_ok-records)
          c.in_ok-records.ensures.read.counted,
    )

pub returns-clause-found : goal.returns-clause-found
returns-clause-found c = search (rules, slots_bytes_are, are_tied)

pub returns-clause-slots : goal.returns-clause-slots
returns-clause-slots c = search (rules, are_slots, are_tied)
