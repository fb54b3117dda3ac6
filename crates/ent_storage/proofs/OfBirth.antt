-- The least handle of a birth, among pairs and in the map.
use Rattle.ent_storage.proofs.Common.{common_steps, rules, ◌≡◌, ◌≢◌, ◌⊎◌, inl, inr, List, [], ◌∷◌}
use Rattle.ent_storage.proofs.Common.{◌++◌, map, length, Option, Some, None, IfSome, IfNone}
use Rattle.ent_storage.proofs.Common.{IsSomeAnd, Contains, true, ℕ, false, ◌<◌, refl, subst, arith}
use Rattle.ent_storage.proofs.Common.{Greater, eq_by_cmp, option_map, false≢true, same_Some}
use Rattle.ent_storage.proofs.Common.{none-some, get_or-map, length-map, Contains-push}
use Rattle.ent_storage.proofs.Common.{Contains-push_cases, FinMap, Birth, birth_cmp, Handle}
use Rattle.ent_storage.proofs.Common.{handle_cmp, LivingEntity, Entity, birth_of, map_of, IsIndexed}
use Rattle.ent_storage.proofs.Common.{IsLeastOf, fin_get}
use Rattle.ent_storage.proofs.ByBirth.{born_of}
use Rattle.ent_storage.proofs.Indexed.{some_entity, get_placed, placed_from_get}
use Rattle.ent_storage.proofs.Keys.{apart, same_or_apart}

-- ---- births that are tested

pub same_birth : (a b : Birth) → eq_by_cmp birth_cmp a b ≡ true → a ≡ b
same_birth a b e = search (rules, same_or_apart, false≢true, apart)

pub other_birth : (a b : Birth) → eq_by_cmp birth_cmp a b ≡ false → a ≢ b
other_birth a b e is = search (rules, false≢true)

-- ---- one pair more

from_least : (o : Option Handle) (k q : Handle) → IfSome o (λ l. handle_cmp k l ≢ Greater)
    → IsSomeAnd o (λ l. handle_cmp l q ≢ Greater) → handle_cmp k q ≢ Greater
from_least o k q below at = search rules

module _ (birth : Birth) (pairs : List (Birth × Handle)) (o : Option Handle)
    (is : IsLeastOf birth pairs o) where
  pub least_other : (p : Birth × Handle) → p.0 ≢ birth → IsLeastOf birth (pairs ++ p ∷ []) o
  least_other p n = grind (arith, common_steps)

  pub least_this : (h k : Handle) → (k ≡ h) ⊎ (o ≡ Some k) → handle_cmp k h ≢ Greater
      → IfSome o (λ l. handle_cmp k l ≢ Greater)
      → IsLeastOf birth (pairs ++ (birth, h) ∷ []) (Some k)
  least_this h k one here below = record {
    listed = grind (arith, common_steps, Contains-push pairs (birth, h));
    before = λ q at. elim (Contains-push_cases pairs (birth, h) (birth, q) at) [
      | inl old ↦ from_least o k q below (is.before q old)
      | inr e ↦ subst (λ (p : Birth × Handle). handle_cmp k p.1 ≢ Greater) e here
    ];
  }

-- in the map
module _ (living : List LivingEntity) (index : FinMap handle_cmp ℕ)
    (indexed : IsIndexed living index)
    (birth : Birth) where
  pub to_map : (h : Handle) → Contains (map born_of living) (birth, h)
      → birth_of (map_of living) h ≡ Some birth
  to_map h at =
      let r : LivingEntity = some_entity h in
      let below : at.0 < length living =
      omega (arith, length-map {B = Birth × Handle} living born_of, at.1) in
      search (rules, get_or-map born_of living at.0 r (birth, h) below, get_placed, r, below)

  found : (h : Handle) (o : Option Entity) → fin_get (map_of living) h ≡ o
      → option_map (λ e. e.birth) o ≡ Some birth → Contains (map born_of living) (birth, h)
  found h None at is = absurd (none-some birth is)
  found h (Some e) at is =
      let place = placed_from_get living index indexed h e at in
      let there = get_placed living index indexed h place.0 (some_entity h) place.1 in
      search (rules, length-map, born_of, get_or-map, same_Some)

  pub from_map : (h : Handle) → birth_of (map_of living) h ≡ Some birth
      → Contains (map born_of living) (birth, h)
  from_map h is = found h _ refl is

-- ---- what the clauses say

pub least_if : (o : Option Handle) (P : Handle → Type 0)
    → ((h : Handle) → P h → IsSomeAnd o (λ l. handle_cmp l h ≢ Greater))
    → IfSome o (λ l. (h : Handle) → P h → handle_cmp l h ≢ Greater)
least_if o P f = search rules

pub none_if : (o : Option Handle) (P : Handle → Type 0)
    → ((h : Handle) → P h → IsSomeAnd o (λ l. handle_cmp l h ≢ Greater))
    → IfNone o ((h : Handle) → P h → ⊥)
none_if o P f = search rules
