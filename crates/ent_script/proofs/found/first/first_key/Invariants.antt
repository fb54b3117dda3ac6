use Rattle.ent_script.proofs.Common.{◌≡◌, map, is_among, key_but}
use Rattle.ent_script.proofs.Values.{pair_view}
use Rattle.ent_script.proofs.found.first.first_key.Given as goal

-- the first of all is the first of those that are left
abbrev pub invariant-loop-key : goal.invariant-loop-key
invariant-loop-key l =
    key_but (is_among (map (λ key. key.now) l.known)) (map pair_view l.members.entries)
    ≡ key_but (is_among (map (λ key. key.now) l.known)) (map pair_view l.key-iterator)
