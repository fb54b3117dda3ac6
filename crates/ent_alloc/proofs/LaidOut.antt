-- A sound allocator that is flushed, by the old handles of its pool.
use Rattle.ent_alloc.proofs.Common.{rules, ◌≡◌, sym, ap, ◌∙◌, ℕ, ◌+◌, ◌-◌, ◌<◌, ◌≤◌, List, [], ◌++◌}
use Rattle.ent_alloc.proofs.Common.{length, get_or, drop, filter, All, AllPairs, arith}
use Rattle.ent_alloc.proofs.Common.{nil_from_length, length-append, All-append, All-weaker}
use Rattle.ent_alloc.proofs.Common.{filter_passes, All-filter, AllPairs-filter, Handle, AreLimits}
use Rattle.ent_alloc.proofs.Common.{Allocator, available, fresh, is_old, IsSound, IsWithin}
use Rattle.ent_alloc.proofs.Common.{AreApart, IsLive}
use Rattle.ent_alloc.proofs.ListLaws.{AllPairs-append}
use Rattle.ent_alloc.proofs.FreshHandles.{first_of_slot, All-fresh, fresh_apart, old_of_joined}

-- the old handles of what may be given, which stand first in it
abbrev pub old_ones : Allocator → List Handle
old_ones s = filter (is_old s.made) (available s)

pub old_ones_below : (s : Allocator) → All (λ h. h.index < s.made) (old_ones s)
old_ones_below s = search (rules, All-weaker, filter_passes)

pub apart_by_made : (made : ℕ) (g h : Handle) → g.index < made → made ≤ h.index → AreApart g h
apart_by_made made g h lt le same = omega arith

-- A flushed state, by the old handles of its pool.
pub record IsLaidOut (s : Allocator) (old : List Handle) : Type 0 where
  pub limits : AreLimits s.limits
  pub made : s.made ≤ s.limits.slots
  pub taken : s.taken ≡ []
  pub aside : s.aside ≡ []
  pub asked : s.asked ≡ 0
  pub pool : s.pool ≡ old ++ fresh s.made (s.limits.slots - s.made)
  pub within : All (IsWithin s.limits) old
  pub below : All (λ h. h.index < s.made) old
  pub apart : AllPairs AreApart old
  pub live_within : (h : Handle) → IsLive s h → IsWithin s.limits h
  pub live_below : (h : Handle) → IsLive s h → h.index < s.made
  pub live_apart : (h : Handle) → IsLive s h → All (AreApart h) old
  pub one_occupant : (g h : Handle) → IsLive s g → IsLive s h → g.index ≡ h.index → g ≡ h

-- what holds of the first occupant of each slot that was never made
never_made : (made slots : ℕ) (P : Handle → Type 0) → ((index : ℕ) → made ≤ index → index < slots
    → P (first_of_slot index)) → All P (fresh made (slots - made))
never_made made slots P each =
    All-fresh P made (slots - made) (λ k lt. each (made + k) (omega arith) (omega arith))

-- a made slot is none of those
below_never_made : (made slots : ℕ) (h : Handle) → h.index < made
    → All (AreApart h) (fresh made (slots - made))
below_never_made made slots h below = never_made made slots (AreApart h)
    (λ index from _. apart_by_made made h (first_of_slot index) below from)

pub laid_out-sound : (s : Allocator) (old : List Handle) → IsLaidOut s old → IsSound s
laid_out-sound s old h =
    let news = fresh s.made (s.limits.slots - s.made) in
    let all : available s ≡ old ++ news = rw (h.taken, h.aside) h.pool in
    let olds : filter (is_old s.made) (available s) ≡ old = search (rules, old_of_joined) in
    let within : All (IsWithin s.limits) (available s) =
    rw all (All-append (IsWithin s.limits) old news h.within
    (never_made s.made s.limits.slots (IsWithin s.limits)
    (λ index from below.
    record { index = below; least = omega arith; greatest = h.limits.some_generation }))) in
    let apart : AllPairs AreApart (available s) = rw all (AllPairs-append AreApart old news h.apart
    (fresh_apart s.made (s.limits.slots - s.made))
    (λ i d lt. below_never_made s.made s.limits.slots (get_or old i d) (h.below i d lt))) in
    let rest : (x : Handle) → IsLive s x → All (AreApart x) (available s) =
    λ x alive. rw all (All-append (AreApart x) old
    news (h.live_apart x alive)
    (below_never_made s.made s.limits.slots x (h.live_below x alive))) in
    search (
      rules,
      all ∙ ap (◌++ news) (sym olds),
      within,
      apart,
      rest,
      h.live_within,
      h.live_below,
      h.one_occupant,
    )

-- nothing is taken or set aside where nothing was asked for
pub flushed-laid_out : (s : Allocator) → IsSound s → s.asked ≡ 0 → IsLaidOut s (old_ones s)
flushed-laid_out s h flushed =
    let none : s.aside ≡ [] = h.aside (omega arith) in
    let all : s.pool ≡ available s = h.pool ∙ ap (λ n. drop n (available s)) flushed in
    let long : length (s.taken ++ (s.aside ++ s.pool)) ≡ length s.pool = ap length (sym all) in
    let taken = nil_from_length s.taken (omega (arith, length-append {A = Handle})) in
    let apart = AllPairs-filter AreApart (is_old s.made) (available s) h.apart in
    let within = λ (x : Handle) (alive : IsLive s x). (h.live x alive).within in
    let below = λ (x : Handle) (alive : IsLive s x). (h.live x alive).made in
    let live_apart =
    λ (x : Handle) (alive : IsLive s x). All-filter (is_old s.made) (AreApart x) (available s)
    (h.live x alive).apart in
    search (
      rules,
      taken,
      all ∙ h.order,
      old_ones_below s,
      All-filter,
      apart,
      within,
      below,
      live_apart,
      h.one_occupant,
    )
