-- What a request does to the lists of a sound allocator, and what is taken by all requests.
use Rattle.ent_alloc.proofs.Common.{rules, ◌≡◌, sym, ap, ◌∙◌, ℕ, ◌+◌, ◌-◌, ◌<◌, ◌≤◌, List, [], ◌++◌}
use Rattle.ent_alloc.proofs.Common.{length, take, drop, All, arith, ◌⊎◌, common_steps, cases_lt}
use Rattle.ent_alloc.proofs.Common.{lt-leb, le-leb, take-append_seam, drop-append_seam}
use Rattle.ent_alloc.proofs.Common.{length-append, length-drop, All-take, All-append, All-weaker}
use Rattle.ent_alloc.proofs.Common.{Handle, Allocator, top, available, after_take, after_flush}
use Rattle.ent_alloc.proofs.Common.{fresh, IsSound}
use Rattle.ent_alloc.proofs.FreshHandles.{All-fresh, fresh_of_joined, take_joined, drop_joined}
use Rattle.ent_alloc.proofs.FreshHandles.{length-fresh}
use Rattle.ent_alloc.proofs.LaidOut.{old_ones, old_ones_below}

-- something was passed over, or something is left
pub aside_or_pool : (s : Allocator) → IsSound s → (s.aside ≡ []) ⊎ (s.pool ≡ [])
aside_or_pool s h = grind (arith, common_steps)

pub length-pool : (s : Allocator) → IsSound s → length s.pool ≡ length (available s) - s.asked
length-pool s h = ap length h.pool ∙ length-drop s.asked (available s)

-- a request takes nothing out of what may be given, and changes no order
pub take_moves : (taken aside pool : List Handle) (n : ℕ) → (aside ≡ []) ⊎ (pool ≡ [])
    → (taken ++ take n pool) ++ (aside ++ drop n pool) ≡ taken ++ (aside ++ pool)
take_moves taken aside pool n either = grind (arith, common_steps)

-- a request for no more than the pool has
pub after_take-served : (s : Allocator) (n : ℕ) → n ≤ length s.pool
    → after_take s n
    ≡ record s { taken = s.taken ++ take n s.pool; pool = drop n s.pool; asked = s.asked + n }
after_take-served s n enough = search (rules, le-leb)

-- a request for more than the pool has
pub after_take-refused : (s : Allocator) (n : ℕ) → length s.pool < n
    → after_take s n ≡ record s { aside = s.aside ++ s.pool; pool = []; asked = s.asked + n }
after_take-refused s n short = search (rules, lt-leb)

pub available-after_take : (s : Allocator) (n : ℕ) → IsSound s
    → available (after_take s n) ≡ available s
available-after_take s n h = search (rules, cases_lt, after_take-served, take_moves, aside_or_pool)

-- how many there are to give, or were since the last flush
pub length-available : (s : Allocator) → IsSound s
    → length (available s) ≡ top s + (s.limits.slots - s.made)
length-available s h = search (rules, length-append, old_ones, length-fresh)

-- what is taken: old handles, and fresh ones once there are no more old ones
module _ (s : Allocator) (h : IsSound s) where
  pub enough : length s.taken ≤ length (old_ones s) + (s.limits.slots - s.made)
  enough = search (rules, old_ones, length-available, length-append)

  -- first the old ones, then fresh ones
  pub taken-parts : s.taken ≡ take (length s.taken) (old_ones s)
      ++ fresh s.made (length s.taken - top s)
  taken-parts = sym (take-append_seam s.taken (s.aside ++ s.pool))
      ∙ ap (take (length s.taken)) h.order
      ∙ take_joined s.made (s.limits.slots - s.made) (old_ones s) (old_ones_below s)
      (length s.taken) enough

  -- slots of old ones were made
  taken_old_below : All (λ h. h.index < s.made) (take (length s.taken) (old_ones s))
  taken_old_below = search (rules, All-take, old_ones, old_ones_below)

  pub made-after_flush : (after_flush s).made ≡ s.made + (length s.taken - top s)
  made-after_flush =
      search (rules, length-fresh, taken-parts, fresh_of_joined, old_ones, taken_old_below)

  -- what is left by the flush
  pub left-parts : s.aside ++ s.pool ≡ drop (length s.taken) (old_ones s)
      ++ fresh (after_flush s).made (s.limits.slots - (after_flush s).made)
  left-parts =
      let joined =
      drop_joined s.made (s.limits.slots - s.made) (old_ones s) (old_ones_below s)
      (length s.taken) in
      search (rules, made-after_flush, drop-append_seam)

  -- and so every slot from which something is taken
  pub taken_below : All (λ h. h.index < (after_flush s).made) s.taken
  taken_below =
      let below = λ (h : Handle). h.index < (after_flush s).made in
      search (
        rules,
        arith,
        made-after_flush,
        taken-parts,
        All-append below,
        All-weaker,
        taken_old_below,
        All-fresh below,
      )
