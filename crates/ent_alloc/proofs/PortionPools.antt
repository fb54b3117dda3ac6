-- Portions of a pool: the allocator whose pool begins with what was used, and what a request for it
-- leaves.
use Rattle.ent_alloc.proofs.Common.{◌≡◌, sym, ◌∙◌, ℕ, ◌-◌, ◌≤◌, rules, List, [], length, take}
use Rattle.ent_alloc.proofs.Common.{arith, IsPermutation, common_steps, cases_eq, length-append}
use Rattle.ent_alloc.proofs.Common.{append_assoc, take_at, drop_at, length-map, length-take-le}
use Rattle.ent_alloc.proofs.Common.{take-append-drop, length_permutation, Handle, Roster, Allocator}
use Rattle.ent_alloc.proofs.Common.{after_take, idle, allocator_of, AreReserved, with_front}
use Rattle.ent_alloc.proofs.Common.{slots_of, AreSlotsOf, Portion, Requests, used_of, size_of}
use Rattle.ent_alloc.proofs.Common.{count_of, reach_of, AreUsed, front_of, after_portions, arranged}
use Rattle.ent_alloc.proofs.Common.{IsSound, ◌≢◌}
use Rattle.ent_alloc.proofs.Meaning.{rest_is}
use Rattle.ent_alloc.proofs.FrontPools.{with_front-sound}
use Rattle.ent_alloc.proofs.LaidOut.{flushed-laid_out}
use Rattle.ent_alloc.proofs.Soundness.{after_take-sound}
use Rattle.ent_alloc.proofs.Taken.{after_take-served}
use Rattle.ent_alloc.proofs.Portioned.{front_same, behind_reach, used_is_front, left_is_behind}
use Rattle.ent_alloc.proofs.Portioned.{count_within, reach_within, length-used, front-map}

module _ (s : Allocator) (ps : List Portion) (fits : AreUsed ps)
    (within : size_of ps ≤ length s.pool) where
  abbrev front : List Handle
  front = front_of s.pool ps

  abbrev count : ℕ
  count = count_of ps

  abbrev reach : ℕ
  reach = reach_of ps

  reaches : reach ≤ length s.pool
  reaches = omega (arith, reach_within ps fits)

  same : IsPermutation (take reach s.pool) front
  same = front_same s.pool ps fits within

  front_long : length front ≡ reach
  front_long = search (rules, length_permutation, same, length-take-le, reaches)

  -- ---- the slots of the front

  module _ (is : List ℕ) (are : is ≡ slots_of front) where
    order_long : length is ≡ reach
    order_long = search (rules, length-map, front_long)

    pub order_few : length is ≤ length s.pool
    order_few = omega (arith, order_long, reaches)

    pub order_slots : AreSlotsOf (take (length is) s.pool) is
    order_slots = grind (arith, common_steps, same, order_long)

    pub order_is : (s' : Allocator) → count ≢ reach
        → ((slots : AreSlotsOf (take (length is) s.pool) is) → s' ≡ with_front s slots.front)
        → s' ≡ arranged s ps
    unfolding order_slots
    order_is s' short each =
        let moved : arranged s ps ≡ with_front s front = grind (arith, common_steps) in
        each order_slots ∙ sym moved

  -- ---- a request for what was used

  enough : count ≤ reach
  enough = count_within ps fits

  us_long : length (used_of s.pool ps) ≡ count
  us_long = length-used s.pool ps fits within

  -- the pool was arranged
  moved_taken : count ≢ reach → s.taken ≡ [] → s.asked ≡ 0
      → after_take (with_front s front) count ≡ after_portions s ps
  moved_taken short none flushed =
      search (
        rules,
        append_assoc,
        length-append,
        us_long,
        front_long,
        behind_reach,
        take-append-drop,
        take_at,
        drop_at,
        after_take-served,
      )

  pub portions_taken : s.taken ≡ [] → s.asked ≡ 0
      → after_take (arranged s ps) count ≡ after_portions s ps
  portions_taken none flushed =
      grind (
        arith,
        common_steps,
        cases_eq,
        moved_taken,
        used_is_front,
        left_is_behind,
        after_take-served,
        reaches,
        enough,
      )

  pub arranged_asked : (arranged s ps).asked ≡ s.asked
  arranged_asked = grind (arith, common_steps)

-- the slots of the front, as the vectors have them
pub front_slots : (r : Roster) (requests : Requests) (s : Allocator) (is : List ℕ)
    (ps : List Portion) → AreReserved r requests.asked requests.served
    → allocator_of r requests.asked requests.served ≡ s → s.asked ≡ 0
    → is ≡ front_of (slots_of (idle r)) ps → is ≡ slots_of (front_of s.pool ps)
front_slots r requests s is ps reserved view flushed are =
    grind (arith, common_steps, rest_is, front-map)

-- the allocator stays sound
pub after_portions-sound : (s : Allocator) (ps : List Portion) → IsSound s → s.asked ≡ 0
    → AreUsed ps → size_of ps ≤ length s.pool → IsSound (after_portions s ps)
after_portions-sound s ps sound flushed fits within = search (
  rules,
  arith,
  portions_taken s ps fits within,
  flushed-laid_out s sound flushed,
  after_take-sound,
  cases_eq (count_of ps) (reach_of ps),
  with_front-sound s (front_of s.pool ps),
  front_long s ps fits within,
  reaches s ps fits within,
  same s ps fits within,
)
