-- What keeps a handle that was given from being given again.
use Rattle.std.specs.Prelude.{◌≡◌, ◌≢◌, ◌<◌, ◌≤◌, ◌++◌, List}
use Rattle.std.specs.List.{All, AllPairs}
use Rattle.ent_handle.specs.Handle.{Handle}
use Rattle.ent_alloc.specs.Sequential.{Allocator}
use Rattle.ent_alloc.specs.Sound.{IsLive}

-- Every handle that its slot can still give comes after it, and the occupant of its slot doesn't
-- come before it.
pub record IsSpent (s : Allocator) (h : Handle) : Type 0 where
  pub left : All (λ g. g.index ≡ h.index → h.generation < g.generation) (s.aside ++ s.pool)
  pub taken : All (λ g. g.index ≡ h.index → h.generation ≤ g.generation) s.taken
  pub live : (g : Handle) → IsLive s g → g.index ≡ h.index → h.generation ≤ g.generation

-- None of these handles was given twice, and none will be given again.
pub record AreSpent (s : Allocator) (given : List Handle) : Type 0 where
  pub distinct : AllPairs (λ g h. g ≢ h) given
  pub spent : All (IsSpent s) given
