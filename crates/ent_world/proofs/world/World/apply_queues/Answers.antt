use Rattle.ent_world.proofs.Common.{rules, ◌≡◌, ◌+◌, ◌∷◌, drop, arith, err_from_is_err_and}
use Rattle.ent_world.proofs.Common.{drop_more, applied}
use Rattle.ent_world.proofs.Left.{queues_left-step, queues_cut-step}
use Rattle.ent_world.proofs.world.World.apply_queues.Goals as goal

-- it stopped in this queue
pub returns-in_err-apply_queue-clause-err : goal.returns-in_err-apply_queue-clause-err
returns-in_err-apply_queue-clause-err c =
    let left : drop c.loop-system.system c.args.queues.now ≡ c.index-queues-system.result
    ∷ drop (c.loop-system.system + 1) c.args.queues.now = search (rules, drop_more) in
    search (rules, err_from_is_err_and, queues_cut-step, left)

-- one queue more
pub loop-system-preserved : goal.loop-system-preserved
loop-system-preserved c =
    let qs = c.args.queues.now in
    let k = c.loop-system.system in
    let q = c.index-queues-system.result in
    let from = c.args.from in
    let here = c.in_queue.result in
    let start = applied c.args.self.now c.args.applying.now.faults.items in
    let left : drop k qs ≡ q ∷ drop (k + 1) qs = search (rules, drop_more) in
    let number = c.in_queue.ensures.system (omega (arith, c.if-system-from.false)) in
    let step =
    queues_left-step from.at.system from.at.command from.done qs (drop (k + 1) qs) k q start
    left
    here.at.system here.at.command here.done number (omega (arith, c.if-system-from.false))
    (λ is. let same = c.in_queue.ensures.first is in search (rules, same))
    (λ lt. let same = c.in_queue.ensures.later lt in search (rules, same)) in
    search (rules, step)
