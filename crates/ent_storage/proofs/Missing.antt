-- How many items set a component that is not there.
use Rattle.ent_storage.proofs.Common.{rules, common_steps, ◌≡◌, ℕ, None, ℤ, ◌<◌, List, length}
use Rattle.ent_storage.proofs.Common.{get_or, arith, Result, OnErr, ComponentId, Components}
use Rattle.ent_storage.proofs.Common.{missing, fin_get}

-- a component is missing that one of the items sets
pub missing_at : (m : Components) (items : List (ComponentId × ℤ)) (i : ℕ) (d : ComponentId × ℤ)
    → i < length items → fin_get m (get_or items i d).0 ≡ None → 0 < missing m items
missing_at m items i d l none = grind (arith, common_steps)

-- what holds, holds also if a call was refused
pub on_err : {X E : Type 0} {P : Type 0} (r : Result X E) → P → OnErr r P
on_err r p = search rules
