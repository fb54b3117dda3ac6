-- Entities that are spawned outside of phases.
use Rattle.std.specs.Prelude.{◌≡◌, ◌<◌, ◌↔◌, ◌⊎◌, ℕ, [], Result, IsErrOf}
use Rattle.ent_alloc.specs.Sequential.{Allocator, top}
use Rattle.ent_alloc.specs.declared.fault.AllocFault.{AllocFault}
use Rattle.ent_alloc.specs.declared.fault.AllocFault.TheVariants as fault
use Rattle.ent_handle.specs.Handle.{Handle}
use Rattle.ent_handle.specs.declared.birth.Birth.{Birth}
use Rattle.ent_world.specs.Sync.{no_system}
use Rattle.ent_total.specs.declared.world.World.{World}

-- The birth of the entity that is spawned next: by no system, and it counts those that were spawned
-- before it since the last flush.
abbrev pub next_birth : World → Birth
next_birth w = record { frame = w.world.phase; system = no_system; ordinal = w.spawned }

-- When a spawn with that many components is refused, and why. It runs out of memory only if no slot
-- waits or there are components, and where no slot is left, only if there are more than four.
pub record IsSpawnRefused (s : Allocator) (components : ℕ) (result : Result Handle AllocFault)
    : Type 0 where
  pub needs_flush : IsErrOf result fault.NeedsFlush ↔ (0 < s.asked)
  pub space : IsErrOf result fault.Space → (s.asked ≡ 0) × (s.pool ≡ [])
  pub full : (s.asked ≡ 0) × (s.pool ≡ [])
      → IsErrOf result fault.Space ⊎ (IsErrOf result fault.Memory × (4 < components))
  pub memory : IsErrOf result fault.Memory → (top s ≡ 0) ⊎ (0 < components)
