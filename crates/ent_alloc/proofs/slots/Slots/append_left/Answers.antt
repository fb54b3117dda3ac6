use Rattle.ent_alloc.proofs.Common.{rules, ◌+◌, ◌-◌, ◌≤◌, drop, arith, length-map, All-drop, Handle}
use Rattle.ent_alloc.proofs.Common.{Portion, idle, slots_of, append_assoc}
use Rattle.ent_alloc.proofs.Portioned.{size_more, count_more, left_more, used_at, count_size}
use Rattle.ent_alloc.proofs.Portioned.{portion_is}
use Rattle.ent_alloc.proofs.slots.Slots.append_left.Goals as goal

pub loop-portion-preserved : goal.loop-portion-preserved
loop-portion-preserved c =
    let ps = c.args.portions.now in
    let k = c.loop-portion.portion-index in
    let is = portion_is ps k c.loop-portion-test.true in
    let all = length-map (idle c.args.self.now) (λ (h : Handle). h.index) in
    let rest =
    count_size (drop (k + 1) ps)
    (All-drop (λ (p : Portion). p.used ≤ p.size) (k + 1) ps c.requires.used) in
    search (
      rules,
      arith,
      all,
      rest,
      size_more ps k,
      count_more ps k,
      used_at ps k,
      is,
      left_more ps k _ c.loop-portion-test.true is (slots_of (idle c.args.self.now))
          c.loop-portion.before
          c.loop-portion.more c.lesser-count.result,
      append_assoc,
    )
