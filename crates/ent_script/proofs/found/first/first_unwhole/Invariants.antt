use Rattle.ent_script.proofs.Common.{◌≡◌, map, unwhole_in}
use Rattle.ent_script.proofs.Values.{pair_view}
use Rattle.ent_script.proofs.found.first.first_unwhole.Given as goal

-- the first of all is the first of those that are left
abbrev pub invariant-loop-key : goal.invariant-loop-key
invariant-loop-key l =
    unwhole_in (map pair_view l.members.entries) ≡ unwhole_in (map pair_view l.key-iterator)
