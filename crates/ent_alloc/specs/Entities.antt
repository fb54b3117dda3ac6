-- What an `Entities` represents, and how its slots and its two counts represent it.
use Rattle.std.specs.Prelude.{◌≡◌, ℕ, ℤ, ◌+◌, ◌-◌, ◌^◌, ◌≤◌, List, ◌++◌, length, take}
use Rattle.std.specs.Prelude.{drop, reverse, refl, None}
use Rattle.std.specs.Coded.{Coded, code_by, coded×, coded_ℕ}
use Rattle.std.specs.FinMap as map
use Rattle.ent_handle.specs.Handle.{Handle, handle_cmp, handle_code}
use Rattle.ent_alloc.specs.Roster.{Roster}
use Rattle.ent_alloc.specs.Sequential.{Allocator, allocator_code, fresh, asked_at}
use Rattle.ent_alloc.specs.Sound.{IsSound, IsLive}

-- a state of the sequential allocator, and the rows that a program keeps with living handles
pub record Entities : Type 0 where
  pub allocator : Allocator
  pub rows : map.FinMap handle_cmp ℕ

-- a handle that is not alive has no row
abbrev pub HasRowsOfLiving : Entities → Type 0
HasRowsOfLiving e = (h : Handle) → ¬ (IsLive e.allocator h) → map.get e.rows h ≡ None

-- the same entities, of which none has a row
abbrev pub without_rows : Entities → Entities
without_rows e = record { allocator = e.allocator; rows = map.empty }

-- what there is to give if nothing is reserved: the pending handles from the last on, then the
-- fresh ones
abbrev pub idle : Roster → List Handle
idle r = reverse r.pending ++ fresh r.made (r.limits.slots - r.made)

-- the allocator with so much asked, of which the first given are reserved
abbrev pub allocator_of : Roster → ℕ → ℕ → Allocator
allocator_of r asked given = record {
  limits = r.limits;
  live = r.live;
  pool = drop asked (idle r);
  taken = take given (idle r);
  aside = drop given (take asked (idle r));
  made = r.made;
  asked = asked;
}

-- the entities with so much asked, of which the first given are reserved
abbrev pub entities_of : Roster → ℕ → ℕ → Entities
entities_of r asked given = record { allocator = allocator_of r asked given; rows = r.rows }

-- For proofs: how much a position is below the top.
abbrev pub beneath : Roster → ℤ → ℕ
beneath r z = asked_at (length r.pending) z

-- What is reserved is all that was asked for, as long as there is enough, and rows are kept of the
-- living alone.
pub record AreReserved (r : Roster) (asked given : ℕ) : Type 0 where
  pub sound : IsSound (allocator_of r asked given)
  pub asked_in : asked ≤ 2 ^ 50
  pub given_in : given ≤ length r.pending + (r.limits.slots - r.made)
  pub given_least : given ≤ asked
  pub given_all : asked ≤ length r.pending + (r.limits.slots - r.made) → given ≡ asked
  pub rows : HasRowsOfLiving (entities_of r asked given)

-- it is stored as the pair of its parts
abbrev pub entities_code : Coded Entities
entities_code =
    code_by (Allocator × map.FinMap handle_cmp ℕ)
    (coded× allocator_code (map.code handle_code coded_ℕ))
    (λ e. (e.allocator, e.rows)) (λ p. record { allocator = p.0; rows = p.1 }) (λ _. refl)
