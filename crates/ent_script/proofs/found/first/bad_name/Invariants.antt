use Rattle.ent_script.proofs.Common.{◌≡◌, [], drop, map, take, view, bad_name}
use Rattle.ent_script.proofs.found.first.bad_name.Given as goal

-- the first of all is the first of those that are left
abbrev pub invariant-loop-number : goal.invariant-loop-number
invariant-loop-number l = bad_name [] (map view l.list)
    ≡ bad_name (map view (take l.number l.list)) (map view (drop l.number l.list))
