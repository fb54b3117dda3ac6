-- Components that are put one after the other.
use Rattle.ent_storage.proofs.Common.{common_steps, rules, ◌≡◌, ◌∙◌, refl, ap, arith, ◌+◌, ◌<◌, ◌≤◌}
use Rattle.ent_storage.proofs.Common.{ℕ, ℤ, List, [], ◌∷◌, length, reverse, T, cond, is_some, Some}
use Rattle.ent_storage.proofs.Common.{None, reverse_aux, put, find, is_sorted, find-put, length-put}
use Rattle.ent_storage.proofs.Common.{is_sorted-put, eq_by_cmp, ComponentId, component_cmp}
use Rattle.ent_storage.proofs.Common.{component_cmp_total, Bundle, with_put, bundle_of, ◌^◌}
use Rattle.ent_storage.proofs.Common.{Ordering, All, refill, All-nil, All-head, All-tail, All-cons}
use Rattle.ent_storage.proofs.Common.{take-append_seam, Less, Equal, Greater, w64, FitsSigned}
use Rattle.ent_storage.proofs.Common.{by_order, IsItem, IsBundle}

-- A later item counts before an earlier one, and before what was held.
find_with : (id : ComponentId) (held earlier items : List (ComponentId × ℤ))
    → find component_cmp id held ≡ find component_cmp id earlier
    → find component_cmp id (with_put held items)
    ≡ find component_cmp id (reverse_aux items earlier)
find_with id held earlier [] same = same
find_with id held earlier (item ∷ items) same =
    find_with id (put component_cmp item.0 item.1 held) (item ∷ earlier) items
    (find-put component_cmp component_cmp_total id item.0 item.1 held
    ∙ ap (cond (eq_by_cmp component_cmp id item.0) (Some item.1)) same)

-- Each component has its last value.
pub last_value : (id : ComponentId) (items : List (ComponentId × ℤ))
    → find component_cmp id (bundle_of items) ≡ find component_cmp id (reverse items)
last_value id items = find_with id [] [] items refl

module _ (id : ComponentId) (value : ℤ) (held : Bundle)
    (rising : T (is_sorted component_cmp held)) where
  pub still_rising : T (is_sorted component_cmp (put component_cmp id value held))
  still_rising = is_sorted-put component_cmp component_cmp_total id value held rising

  grown : length (put component_cmp id value held)
      ≡ cond (is_some (find component_cmp id held)) (length held) (length held + 1)
  grown = length-put component_cmp component_cmp_total id value held rising

-- No component is lost.
no_shorter : (held : Bundle) (items : List (ComponentId × ℤ)) → T (is_sorted component_cmp held)
    → length held ≤ length (with_put held items)
no_shorter held [] rising = omega arith
no_shorter held (item ∷ items) rising =
    let others =
    no_shorter (put component_cmp item.0 item.1 held) items
    (still_rising item.0 item.1 held rising) in
    grind (arith, common_steps, grown item.0 item.1 held rising)

-- Where at least n are held, one that is not there makes more than n.
pub more_than : (n : ℕ) (held : Bundle) (id : ComponentId) (value : ℤ)
    (items : List (ComponentId × ℤ)) → T (is_sorted component_cmp held) → n ≤ length held
    → find component_cmp id held ≡ None
    → n < length (with_put (put component_cmp id value held) items)
more_than n held id value items rising full absent = search (rules, grown, no_shorter, still_rising)

-- ---- a bundle stays one when a component is put

module _ (id : ComponentId) (value : ℤ) where
  abbrev putting : ComponentId × ℤ → Bundle → Ordering → Bundle
  putting item items r = by_order r ((id, value) ∷ item ∷ items) ((item.0, value) ∷ items)
      (item ∷ put component_cmp id value items)

  all_put : id.0 < 2 ^ 8 → FitsSigned w64 value → (items : Bundle) → All IsItem items
      → All IsItem (put component_cmp id value items)
  all_put small fits [] all = search (rules, All-cons, All-nil)
  all_put small fits (item ∷ items) all =
      let first = All-head IsItem item items all in
      let rest = all_put small fits items (All-tail IsItem item items all) in
      elim (component_cmp id item.0) as (λ r. All IsItem (putting item items r)) [
        | Less ↦ search (rules, All-cons)
        | Equal ↦ search (rules, All-cons, All-tail)
        | Greater ↦ search (rules, All-cons)
      ]

  -- a bundle stays one
  pub bundle_put : id.0 < 2 ^ 8 → FitsSigned w64 value → (items : Bundle) → IsBundle items
      → IsBundle (put component_cmp id value items)
  bundle_put small fits items is = search (rules, is_sorted-put, all_put)

-- what is written back where a slice of all was lent
pub refill_whole : (xs ws : Bundle) → length ws ≡ length xs → refill (length xs) xs ws ≡ ws
refill_whole xs ws e = search (rules, take-append_seam)
