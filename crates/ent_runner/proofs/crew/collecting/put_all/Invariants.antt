use Rattle.ent_runner.proofs.Common.{◌≡◌, length, ◌<◌, All, outputs_put}
use Rattle.ent_runner.proofs.crew.collecting.put_all.Given as goal

-- what is left to be put gives the same as all of it did at the start
abbrev pub invariant-loop-one : goal.invariant-loop-one
invariant-loop-one g l = record {
  inside : All (λ d. d.number < length l.by_number) l.one-iterator.rest.items;
  same : outputs_put l.one-iterator.rest.items l.by_number
      ≡ outputs_put l.fn.done.items l.initial.by_number;
}
