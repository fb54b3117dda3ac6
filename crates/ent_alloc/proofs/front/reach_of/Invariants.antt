use Rattle.ent_alloc.proofs.Common.{◌≡◌, ◌+◌, drop, if◌then◌else◌, reach_of, size_of, ◌==◌}
use Rattle.ent_alloc.proofs.front.reach_of.Given as goal

-- what is still to come does the rest
abbrev pub invariant-loop-portion : goal.invariant-loop-portion
invariant-loop-portion l = record {
  value : (if reach_of (drop l.portion-index l.portions) == 0 then l.reach else l.before
      + reach_of (drop l.portion-index l.portions)) ≡ reach_of l.portions;
  at : l.before + size_of (drop l.portion-index l.portions) ≡ size_of l.portions;
}
