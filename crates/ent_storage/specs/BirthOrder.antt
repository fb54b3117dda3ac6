-- Lists of handles in the order of births.
use Rattle.std.specs.Prelude.{◌≡◌, ◌≢◌, Bool, true, ◌↔◌, List, map, Contains, IsTrue, IsSomeAnd}
use Rattle.std.specs.Prelude.{ℕ, ◌+◌, ◌*◌, ◌^◌}
use Rattle.std.specs.Prelude.{Option, IfSome}
use Rattle.std.specs.Option.{option_cmp}
use Rattle.std.specs.declared.cmp.Ordering.{Ordering}
use Rattle.std.specs.declared.cmp.Ordering.TheVariants.{Less, Greater}
use Rattle.std.specs.Ordering.{on, then_cmp}
use Rattle.std.specs.List.{AllPairs}
use Rattle.std.specs.List.Sorted.{IsPermutation, IsSorted}
use Rattle.std.specs.FinMap as finite
use Rattle.ent_handle.specs.declared.birth.Birth.{Birth}
use Rattle.ent_handle.specs.declared.component.ComponentId.{ComponentId}
use Rattle.ent_handle.specs.Birth.{birth_cmp}
use Rattle.ent_handle.specs.Handle.{Handle, handle_cmp}
use Rattle.ent_storage.specs.EntityMap.{Entity, EntityMap, birth_of}

-- entities by birth, then by handle
abbrev pub birth_order : EntityMap → Handle → Handle → Ordering
birth_order m = then_cmp (on (birth_of m) (option_cmp birth_cmp)) handle_cmp

-- the list has the handles of the entities that pass and no others, each once, in the order of
-- births
pub record ListsByBirth (passes : Entity → Bool) (m : EntityMap) (handles : List Handle)
    : Type 0 where
  pub rising : AllPairs (λ a b. birth_order m a b ≡ Less) handles
  pub holds : (h : Handle) → Contains handles h
      ↔ IsSomeAnd (finite.get m h) (λ e. IsTrue (passes e))

-- all entities
abbrev pub ListsAll : EntityMap → List Handle → Type 0
ListsAll = ListsByBirth (λ _. true)

-- the entities that have the component
abbrev pub ListsWith : ComponentId → EntityMap → List Handle → Type 0
ListsWith id = ListsByBirth (λ e. finite.contains_key e.components id)

-- the three numbers of a birth in one
abbrev pub packed_birth : Birth → ℕ
packed_birth b = b.frame * 2 ^ 64 + b.system * 2 ^ 32 + b.ordinal

-- pairs of a birth and a handle, in the same order
abbrev pub pair_cmp : Birth × Handle → Birth × Handle → Ordering
pair_cmp = then_cmp (on (λ pair. pair.0) birth_cmp) (on (λ pair. pair.1) handle_cmp)

-- the handles are those of the pairs, in order
pub record IsInOrder (pairs : List (Birth × Handle)) (handles : List Handle) : Type 0 where
  pub sorted : List (Birth × Handle)
  pub permutation : IsPermutation pairs sorted
  pub in_order : IsSorted pair_cmp sorted
  pub are : handles ≡ map (λ pair. pair.1) sorted

-- the handle is the least of those that the pairs have with the birth; without one, none has it
pub record IsLeastOf (birth : Birth) (pairs : List (Birth × Handle)) (least : Option Handle)
    : Type 0 where
  pub listed : IfSome least (λ h. Contains pairs (birth, h))
  pub before : (h : Handle) → Contains pairs (birth, h)
      → IsSomeAnd least (λ l. handle_cmp l h ≢ Greater)
