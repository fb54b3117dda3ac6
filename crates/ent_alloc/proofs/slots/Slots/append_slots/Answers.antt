use Rattle.ent_alloc.proofs.Common.{rules, ◌-◌, ◌+◌, arith, drop, drop-drop, take-add, append_assoc}
use Rattle.ent_alloc.proofs.Common.{idle, slots_of}
use Rattle.ent_alloc.proofs.slots.Slots.append_slots.Goals as goal

pub returns-clause-items : goal.returns-clause-items
returns-clause-items c =
    let all = slots_of (idle c.args.self.now) in
    let waiting = c.lesser-waiting.result in
    search (
      rules,
      arith,
      append_assoc,
      drop-drop waiting c.args.from all,
      take-add waiting (c.args.count - waiting) (drop c.args.from all),
    )
