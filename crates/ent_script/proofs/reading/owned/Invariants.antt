use Rattle.ent_script.proofs.Common.{◌≡◌, map, take, string_bytes}
use Rattle.ent_script.proofs.reading.owned.Given as goal

abbrev pub invariant-loop-name : goal.invariant-loop-name
invariant-loop-name l =
    map string_bytes l.texts.items ≡ take l.name-index (map (λ name. name.now) l.names)
