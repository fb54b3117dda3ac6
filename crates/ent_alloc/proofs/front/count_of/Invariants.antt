use Rattle.ent_alloc.proofs.Common.{◌≡◌, ◌+◌, drop, count_of}
use Rattle.ent_alloc.proofs.front.count_of.Given as goal

-- what is still to come does the rest
abbrev pub invariant-loop-portion : goal.invariant-loop-portion
invariant-loop-portion l =
    record { value : l.count + count_of (drop l.portion-index l.portions) ≡ count_of l.portions }
