-- The sequential allocator: what a single caller would see. Each call of `Entities` is one or two
-- of its steps, or reads it, except for the rows, which are kept beside it (`specs/Entities`). The
-- calls of many threads are compared with it.
use Rattle.std.specs.Prelude.{ℕ, ◌+◌, ◌-◌, ℤ, pos, negsuc, suc, zero, ◌-ℤ◌, Bool, nat_lt, nat_le}
use Rattle.std.specs.Prelude.{◌==◌, if◌then◌else◌, List, [], ◌∷◌, ◌++◌, length, take, drop, reverse}
use Rattle.std.specs.Prelude.{filter, Result, Ok, Err, Option, None, Some, not, ◌||◌, refl}
use Rattle.std.specs.List.{list_any, count_by, range_with_len}
use Rattle.std.specs.Ordering.{eq_by_cmp}
use Rattle.std.specs.Coded.{Coded, code_by, coded×, coded_ℕ, coded_list}
use Rattle.std.specs.FinSet as set
use Rattle.ent_handle.specs.Handle.{Handle, handle_cmp, handle_code}
use Rattle.ent_alloc.specs.Limits.{Limits, limits_code}
use Rattle.ent_alloc.specs.declared.space.Space.{Space}
use Rattle.ent_alloc.specs.declared.state.State.{State}
use Rattle.ent_alloc.specs.declared.state.State.TheVariants.{Alive, Reserved, Gone}

-- Where each handle is: alive, or in a list of those that may be given. The pool is given from its
-- front; `taken` is what was given and is not alive yet; `aside` is what a refused request passed
-- over. `made` counts the slots that were made, and `asked` counts all that was requested since the
-- last flush.
pub record Allocator : Type 0 where
  pub limits : Limits
  pub live : set.FinSet handle_cmp
  pub pool : List Handle
  pub taken : List Handle
  pub aside : List Handle
  pub made : ℕ
  pub asked : ℕ

-- the first occupants of that many slots, from an index on
unfoldable pub fresh : ℕ → ℕ → List Handle
fresh index zero = []
fresh index (suc slots) = record { index = index; generation = 1 } ∷ fresh (index + 1) slots

-- the allocator that has given no handles
abbrev pub opening : Limits → Allocator
opening limits = record {
  limits = limits;
  live = set.empty;
  pool = fresh 0 limits.slots;
  taken = [];
  aside = [];
  made = 0;
  asked = 0;
}

-- its slot was made; it wasn't yet
abbrev pub is_old : ℕ → Handle → Bool
is_old made h = nat_lt h.index made

abbrev pub is_fresh : ℕ → Handle → Bool
is_fresh made h = nat_le made h.index

-- what there was to give when nothing was requested yet, in the order in which it is given
abbrev pub available : Allocator → List Handle
available s = s.taken ++ (s.aside ++ s.pool)

-- how many old handles there were to give
abbrev pub top : Allocator → ℕ
top s = length (filter (is_old s.made) (available s))

-- what the atomic word counts down
abbrev pub cursor : Allocator → ℤ
cursor s = pos (top s) -ℤ pos s.asked

-- A request takes the front of the pool if there is enough; otherwise the whole pool is passed
-- over.
abbrev pub after_take : Allocator → ℕ → Allocator
after_take s n =
    if nat_le n (length s.pool)
    then record s { taken = s.taken ++ take n s.pool; pool = drop n s.pool; asked = s.asked + n }
    else record s { aside = s.aside ++ s.pool; pool = []; asked = s.asked + n }

-- how a reply lists what it gives: the old handles, the last of the pool first, then the fresh ones
abbrev pub listed : ℕ → List Handle → List Handle
listed made given = reverse (filter (is_old made) given) ++ filter (is_fresh made) given

-- the reply to a request for n if this is the pool
abbrev pub reply_from : ℕ → List Handle → ℕ → Result (List Handle) Space
reply_from made pool n =
    if nat_le n (length pool)
    then Ok (listed made (take n pool))
    else Err (record { wanted = n; left = length pool })

-- a single handle, as a list
abbrev pub listed_alone : {E : Type 0} → Result Handle E → Result (List Handle) E
listed_alone (Ok handle) = Ok (handle ∷ [])
listed_alone (Err refused) = Err refused

abbrev pub reply_to : Allocator → ℕ → Result (List Handle) Space
reply_to s n = reply_from s.made s.pool n

-- what a flush brings to life, in its order: the fresh handles, then the old ones, the last of the
-- pool first
abbrev pub born : Allocator → List Handle
born s = filter (is_fresh s.made) s.taken ++ reverse (filter (is_old s.made) s.taken)

-- how many slots a flush makes
abbrev pub made_at_flush : Allocator → ℕ
made_at_flush s = length (filter (is_fresh s.made) s.taken)

-- what was taken comes to life, and what was passed over is available again
abbrev pub after_flush : Allocator → Allocator
after_flush s = record s {
  live = set.union s.live (set.from_list s.taken);
  pool = s.aside ++ s.pool;
  taken = [];
  aside = [];
  made = s.made + made_at_flush s;
  asked = 0;
}

-- the handle at the front of the pool comes to life at once
abbrev pub after_alloc : Allocator → Handle → Allocator
after_alloc s h = record s {
  live = set.insert s.live h;
  pool = drop 1 s.pool;
  made = if is_old s.made h then s.made else s.made + 1;
}

-- after these handles have come to life one by one
abbrev pub after_allocs : Allocator → List Handle → Allocator
after_allocs s [] = s
after_allocs s (h ∷ handles) = after_allocs (after_alloc s h) handles

-- the handle of the same slot with the next generation
abbrev pub following : Handle → Handle
following h = record { index = h.index; generation = h.generation + 1 }

-- what the slot gives after this handle: nothing if the generation is the last
abbrev pub next : Limits → Handle → Option Handle
next limits h = if h.generation == limits.generations then None else Some (following h)

-- a list with this handle at its front, if there is one
abbrev pub in_front : Option Handle → List Handle → List Handle
in_front None handles = handles
in_front (Some h) handles = h ∷ handles

-- A living handle is freed, and its slot's next handle comes to the front of the pool. If there is
-- no next handle, the pool stays as it is, and the slot is retired.
abbrev pub after_free : Allocator → Handle → Allocator
after_free s h = record s {
  live = set.remove s.live h;
  pool = in_front (next s.limits h) s.pool;
}

-- the allocator after `asked` handles were requested in all, of which the first `given` were served
abbrev pub settled : Allocator → ℕ → ℕ → Allocator
settled s given asked = record s {
  taken = s.taken ++ take given s.pool;
  aside = s.aside ++ drop given (take asked s.pool);
  pool = drop asked s.pool;
  asked = s.asked + asked;
}

-- the allocator before all requests since the last flush
abbrev pub before_requests : Allocator → Allocator
before_requests s = record s { pool = available s; taken = []; aside = []; asked = 0 }

-- how much had been asked if the cursor is high
abbrev pub asked_at : ℕ → ℤ → ℕ
asked_at top (pos high) = top - high
asked_at top (negsuc below) = top + suc below

-- what was left of the pool there
abbrev pub pool_at : Allocator → ℤ → List Handle
pool_at s high = drop (asked_at (top s) high) (available s)

abbrev pub stands_in : List Handle → Handle → Bool
stands_in handles h = list_any (eq_by_cmp handle_cmp h) handles

-- the state of a handle
abbrev pub state_of : Allocator → Handle → State
state_of s h =
    if set.contains s.live h then Alive else (if stands_in s.taken h then Reserved else Gone)

-- one of these handles is of the slot
abbrev pub has_slot : List Handle → ℕ → Bool
has_slot handles index = list_any (λ (h : Handle). h.index == index) handles

-- no handle of the slot is alive or to be given
abbrev pub is_retired : Allocator → ℕ → Bool
is_retired s index = not (has_slot (set.items s.live) index || has_slot (available s) index)

-- how many of the slots that were made are retired
abbrev pub retired : Allocator → ℕ
retired s = count_by (is_retired s) (range_with_len 0 s.made)

-- an allocator is stored as the tuple of its fields
abbrev pub allocator_code : Coded Allocator
allocator_code =
    code_by
    (Limits × (set.FinSet handle_cmp × (List Handle × (List Handle × (List Handle × (ℕ × ℕ))))))
    (coded× limits_code (coded× (set.code handle_code) (coded× (coded_list handle_code)
    (coded× (coded_list handle_code) (coded× (coded_list handle_code) (coded× coded_ℕ coded_ℕ))))))
    (λ s. (s.limits, (s.live, (s.pool, (s.taken, (s.aside, (s.made, s.asked)))))))
    (λ p. record {
      limits = p.0;
      live = p.1.0;
      pool = p.1.1.0;
      taken = p.1.1.1.0;
      aside = p.1.1.1.1.0;
      made = p.1.1.1.1.1.0;
      asked = p.1.1.1.1.1.1;
    })
    (λ _. refl)
