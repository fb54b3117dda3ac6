-- A bundle has no more items than there are components.
use Rattle.ent_storage.proofs.Common.{rules, ◌+◌, ◌≤◌, ℤ, [], ◌∷◌, length, arith, T, All, All-head}
use Rattle.ent_storage.proofs.Common.{All-tail, is_sorted, component_cmp, ComponentId, Bundle}
use Rattle.ent_storage.proofs.Common.{IsItem, IsBundle}
use Rattle.ent_storage.proofs.Positions.{second}

from_head : (item : ComponentId × ℤ) (items : Bundle) → T (is_sorted component_cmp (item ∷ items))
    → All IsItem (item ∷ items) → item.0.0 + length (item ∷ items) ≤ 256
from_head item [] rising all = let id = (All-head IsItem item [] all).id in omega arith
from_head item (next ∷ items) rising all =
    let more : next.0.0 + length (next ∷ items) ≤ 256 = from_head next items (second _ _ rising)
    (All-tail IsItem item (next ∷ items) all) in
    search rules

pub few_items : (items : Bundle) → IsBundle items → length items ≤ 256
few_items [] is = omega arith
few_items (item ∷ items) is = search (rules, from_head)
