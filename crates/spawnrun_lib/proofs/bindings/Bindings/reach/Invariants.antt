use Rattle.spawnrun_lib.proofs.Common.{◌≡◌, ◌+◌, ◌-◌, map, length, names_of}
use Rattle.spawnrun_lib.proofs.bindings.Bindings.reach.Given as goal

abbrev pub invariant-loop-self : goal.invariant-loop-self
invariant-loop-self l =
    names_of (map (λ list. list.items) l.self-inside.lists.items) ≡ names_of l.fn.self

abbrev pub decreases-loop-self : goal.decreases-loop-self
decreases-loop-self l = l.name + 1 - length l.self-inside.lists.items
