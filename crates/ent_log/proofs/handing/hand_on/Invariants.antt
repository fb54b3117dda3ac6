use Rattle.std.proofs.Common.{◌≡◌, ◌++◌, [], length, None}
use Rattle.std.specs.Option.{option_to_list}
use Rattle.ent_log.proofs.InTurn.{HasTaken}
use Rattle.ent_log.proofs.handing.hand_on.Given as goal

abbrev pub invariant-loop-next : goal.invariant-loop-next
invariant-loop-next g l = record {
  callable : goal.F-IsAlwaysCallable g l.run;
  front : l.front ≡ None;
  taken : HasTaken (goal.F-step g) l.fn.run l.fn.entities (option_to_list l.fn.front ++ l.fn.rest)
      l.run l.entities (option_to_list l.next ++ l.rest);
  done : l.next ≡ None → l.rest ≡ [];
}

abbrev pub decreases-loop-next : goal.decreases-loop-next
decreases-loop-next g l = length (option_to_list l.next ++ l.rest)
