use Rattle.ent_runner.proofs.Common.{◌≡◌, ◌≤◌, ◌+◌, ◌-◌, ◌++◌, ◌<◌, length, map, vec_len}
use Rattle.ent_runner.proofs.Common.{vec_capacity, outputs_put, All, flat_map}
use Rattle.ent_runner.proofs.crew.disband.Given as goal

-- what was taken apart so far
abbrev pub invariant-loop-worker : goal.invariant-loop-worker
invariant-loop-worker g l = record {
  all : l.yielded ++ l.worker-iterator.rest.items ≡ l.fn.workers.items;
  claimers : l.claimers.items ≡ map (λ w. w.claimer) l.yielded;
  by_number : outputs_put (flat_map (λ w. w.done.items) l.worker-iterator.rest.items) l.by_number
      ≡ outputs_put (flat_map (λ w. w.done.items) l.fn.workers.items) l.initial.by_number;
  inside : All (λ w. All (λ d. d.number < length l.by_number) w.done.items)
      l.worker-iterator.rest.items;
  lacking : l.lacking - length (flat_map (λ w. w.done.items) l.worker-iterator.rest.items)
      ≡ length l.initial.by_number - length (flat_map (λ w. w.done.items) l.fn.workers.items);
  claimers_fit : vec_len l.claimers + length l.worker-iterator.rest.items ≤ vec_capacity l.claimers;
}
