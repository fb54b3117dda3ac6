-- The slots of an allocator as its calls see them: which handles are alive, which rows they have,
-- and which handles wait to be given.
use Rattle.std.specs.Prelude.{ℕ, List, [], ◌∷◌, ◌++◌, refl}
use Rattle.std.specs.Coded.{Coded, code_by, coded×, coded_ℕ, coded_list}
use Rattle.std.specs.FinSet as set
use Rattle.std.specs.FinMap as map
use Rattle.ent_handle.specs.Handle.{Handle, handle_cmp, handle_code}
use Rattle.ent_alloc.specs.Limits.{Limits, limits_code}
use Rattle.ent_alloc.specs.Sequential.{following}

-- pending lists the handles that old slots give next; the last is given first
pub record Roster : Type 0 where
  pub limits : Limits
  pub live : set.FinSet handle_cmp
  pub rows : map.FinMap handle_cmp ℕ
  pub pending : List Handle
  pub made : ℕ

-- a roster is stored as the tuple of its fields
abbrev pub roster_code : Coded Roster
roster_code =
    code_by
    (Limits × (set.FinSet handle_cmp × (map.FinMap handle_cmp ℕ × (List Handle × ℕ))))
    (coded× limits_code (coded× (set.code handle_code)
    (coded× (map.code handle_code coded_ℕ) (coded× (coded_list handle_code) coded_ℕ))))
    (λ r. (r.limits, (r.live, (r.rows, (r.pending, r.made)))))
    (λ p. record {
      limits = p.0;
      live = p.1.0;
      rows = p.1.1.0;
      pending = p.1.1.1.0;
      made = p.1.1.1.1;
    })
    (λ _. refl)

-- The handle's entity has left its slot, which waits after all others for its next occupant; or
-- which had its last one, and is retired.
abbrev pub freed_roster : Roster → Handle → Roster
freed_roster r h = record r {
  live = set.remove r.live h;
  rows = map.remove r.rows h;
  pending = r.pending ++ following h ∷ [];
}

abbrev pub retired_roster : Roster → Handle → Roster
retired_roster r h = record r { live = set.remove r.live h; rows = map.remove r.rows h }
