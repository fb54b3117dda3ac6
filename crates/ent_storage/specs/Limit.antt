-- The handle that represents a map's limit.
use Rattle.std.specs.Prelude.{◌≡◌, ℕ, ◌==◌, ◌⊎◌, if◌then◌else◌}
use Rattle.ent_handle.specs.Handle.{Handle, IsHandle}
use Rattle.ent_storage.specs.HandleMap.{no_limit, placeholder}

-- the limit of which the handle is the first that is refused
abbrev pub limit_of : Handle → ℕ
limit_of end = if end.generation == 1 then end.index else no_limit

-- the handle is the first of a slot, or the placeholder
pub record IsEnd (end : Handle) : Type 0 where
  pub in_range : IsHandle end
  pub first_or_last : (end.generation ≡ 1) ⊎ (end ≡ placeholder)
