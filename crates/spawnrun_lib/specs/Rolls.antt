-- How births are looked up in a list of all entities. Only private contracts and proofs use this.
use Rattle.std.specs.Prelude.{◌≡◌, ℕ, Bool, true, false, List, [], Some, ◌⊎◌}
use Rattle.std.specs.List.Sorted.{IsPartitionPoint}
use Rattle.std.specs.Option.{option_cmp}
use Rattle.std.specs.Ordering.{is_lt}
use Rattle.ent_handle.specs.declared.birth.Birth.{Birth}
use Rattle.ent_handle.specs.Birth.{birth_cmp}
use Rattle.ent_handle.specs.Handle.{Handle}
use Rattle.ent_storage.specs.BirthOrder.{ListsAll}
use Rattle.ent_storage.specs.EntityMap.{birth_of}
use Rattle.ent_world.specs.OpenWorld.{View}

-- no entity is listed, or all entities are
abbrev pub IsRollOf : View → List Handle → Type 0
IsRollOf view handles = (handles ≡ []) ⊎ ListsAll view.entities handles

-- the entity's birth is before that one
abbrev pub is_before : View → Birth → Handle → Bool
is_before view birth h = is_lt (option_cmp birth_cmp (birth_of view.entities h) (Some birth))

-- the handles below the index have earlier births, and the others have not
abbrev pub IsFirstFrom : View → Birth → List Handle → ℕ → Type 0
IsFirstFrom view birth =
    IsPartitionPoint (λ h. is_before view birth h ≡ true) (λ h. is_before view birth h ≡ false)
