-- What is true of an allocator in every state that its steps lead to.
use Rattle.std.specs.Prelude.{◌≡◌, ◌≢◌, ◌<◌, ◌≤◌, ◌-◌, ◌++◌, [], length, drop, IsTrue}
use Rattle.std.specs.List.{All, AllPairs, filter}
use Rattle.std.specs.FinSet as set
use Rattle.ent_handle.specs.Handle.{Handle}
use Rattle.ent_alloc.specs.Limits.{Limits, AreLimits}
use Rattle.ent_alloc.specs.Sequential.{Allocator, available, fresh, is_old}

-- a handle that these limits allow
pub record IsWithin (limits : Limits) (h : Handle) : Type 0 where
  pub index : h.index < limits.slots
  pub least : 1 ≤ h.generation
  pub greatest : h.generation ≤ limits.generations

-- the two are handles of different slots
abbrev pub AreApart : Handle → Handle → Type 0
AreApart g h = g.index ≢ h.index

-- the handle is alive
abbrev pub IsLive : Allocator → Handle → Type 0
IsLive s h = IsTrue (set.contains s.live h)

-- A handle that may be alive: its slot was made, and nothing that may be given is of this slot.
pub record IsOccupant (s : Allocator) (h : Handle) : Type 0 where
  pub within : IsWithin s.limits h
  pub made : h.index < s.made
  pub apart : All (AreApart h) (available s)

pub record IsSound (s : Allocator) : Type 0 where
  pub limits : AreLimits s.limits
  pub made : s.made ≤ s.limits.slots
  -- the old handles come first, then the first occupants of all slots that were never made
  pub order : available s
      ≡ filter (is_old s.made) (available s) ++ fresh s.made (s.limits.slots - s.made)
  pub within : All (IsWithin s.limits) (available s)
  -- no slot occurs twice among those that may be given
  pub apart : AllPairs AreApart (available s)
  -- the pool is what the requests have not reached
  pub pool : s.pool ≡ drop s.asked (available s)
  -- nothing was passed over as long as there was enough
  pub aside : s.asked ≤ length (available s) → s.aside ≡ []
  pub live : (h : Handle) → IsLive s h → IsOccupant s h
  -- a slot has one occupant at a time
  pub one_occupant : (g h : Handle) → IsLive s g → IsLive s h → g.index ≡ h.index → g ≡ h
