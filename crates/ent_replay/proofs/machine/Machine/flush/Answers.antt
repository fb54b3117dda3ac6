use Rattle.ent_replay.proofs.Common.{common_steps, rules, ◌<◌, Bool, List, length, arith}
use Rattle.ent_replay.proofs.Common.{allocator_is, filter, length_permutation, born-IsPermutation}
use Rattle.ent_replay.proofs.MachineEvents.{refused, on_err, flush-flushed}
use Rattle.ent_replay.proofs.machine.Machine.flush.Goals as goal

-- what has an element that passes has an element
some_of_filter : {X : Type 0} (p : X → Bool) (xs : List X) → 0 < length (filter p xs)
    → 0 < length xs
some_of_filter p xs some = grind (arith, common_steps)

pub returns-then-is_err : goal.returns-then-is_err
returns-then-is_err c =
    search (
      rules,
      allocator_is,
      on_err,
      some_of_filter,
      refused,
      length_permutation,
      born-IsPermutation,
      flush-flushed,
    )
