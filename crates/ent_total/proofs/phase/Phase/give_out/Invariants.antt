use Rattle.ent_total.proofs.Common.{◌≡◌, ◌≤◌, ◌+◌, ◌++◌, length, reverse, vec_len, vec_capacity}
use Rattle.ent_total.proofs.Common.{AreOf, reservers_of, All}
use Rattle.ent_total.specs.Phases.{Reserver}
use Rattle.ent_total.proofs.phase.Phase.give_out.Given as goal

-- each time one less is returned
abbrev pub decreases-loop-reserver : goal.decreases-loop-reserver
decreases-loop-reserver g l = length l.self.returned

-- those that were given out so far, and those that are left
abbrev pub invariant-loop-reserver : goal.invariant-loop-reserver
invariant-loop-reserver g l = record {
  given : reservers_of l.reservers.items ++ reverse l.self.returned
      ≡ reservers_of l.initial.reservers.items
      ++ reverse l.initial.self.returned;
  of : AreOf l.self.number l.reservers.items;
  same : All (λ (r : Reserver _ _). r.source ≡ l.initial.self.source) l.reservers.items;
  room : vec_len l.reservers + length l.self.returned ≤ vec_capacity l.reservers;
  phase : l.self ≡ record l.initial.self { returned = l.self.returned };
}
