-- For private contracts and proofs: how entities that are born get their births. All enter in the
-- order of the flush, with a birth of no system. Then the queues name them: the first birth by a
-- queue counts. Those that are left are numbered.
use Rattle.std.specs.Prelude.{◌≡◌, ◌+◌, ◌==◌, false, ◌&&◌, if◌then◌else◌, Bool, List, [], ◌∷◌}
use Rattle.std.specs.Prelude.{ℕ}
use Rattle.std.specs.Option.{option_map_or}
use Rattle.std.specs.FinMap as map
use Rattle.ent_handle.specs.declared.birth.Birth.{Birth}
use Rattle.ent_handle.specs.Handle.{Handle}
use Rattle.ent_alloc.specs.Sequential.{stands_in}
use Rattle.ent_storage.specs.EntityMap.{EntityMap, with_birth}
use Rattle.ent_queue.specs.Command.{Command}
use Rattle.ent_world.specs.Sync.{ordinal, no_system, handles_listed}

-- the birth of the first handle of a system
abbrev pub first_birth : ℕ → ℕ → Birth
first_birth phase system = record { frame = phase; system = system; ordinal = 0 }

-- the birth of the system's next one
abbrev pub next_birth : Birth → Birth
next_birth birth = record birth { ordinal = ordinal (birth.ordinal + 1) }

-- and of the one after these
abbrev pub birth_after : Birth → List Handle → Birth
birth_after birth [] = birth
birth_after birth (h ∷ hs) = birth_after (next_birth birth) hs

-- None of the handles is there yet, and each is listed once.
abbrev pub AreNew : List Handle → EntityMap → Type 0
AreNew [] m = Unit {0}
AreNew (h ∷ hs) m = (map.contains_key m h ≡ false) × (stands_in hs h ≡ false) × AreNew hs m

-- The entity is there, and its birth is one of no system.
abbrev pub is_unnamed : EntityMap → Handle → Bool
is_unnamed m h = option_map_or (λ e. e.birth.system == no_system) (map.get m h) false

-- one handle, if it is one of those that are born now
abbrev pub named : List Handle → Handle → Birth → EntityMap → EntityMap
named born h birth m =
    if stands_in born h && is_unnamed m h then with_birth m h birth else m

-- the handles of one system, from this birth on
abbrev pub named_handles : List Handle → Birth → List Handle → EntityMap → EntityMap
named_handles born birth [] m = m
named_handles born birth (h ∷ hs) m =
    named_handles born (next_birth birth) hs (named born h birth m)

-- what the queues list, from this system on
abbrev pub named_queues : List Handle → ℕ → ℕ → List (List Command) → EntityMap → EntityMap
named_queues born phase system [] m = m
named_queues born phase system (q ∷ qs) m =
    named_queues born phase (system + 1) qs
    (named_handles born (first_birth phase system) (handles_listed q) m)

-- those of the handles that have no other birth, from this one on
abbrev pub numbered : Birth → List Handle → EntityMap → EntityMap
numbered birth [] m = m
numbered birth (h ∷ hs) m =
    if is_unnamed m h
    then numbered (next_birth birth) hs (with_birth m h birth)
    else numbered birth hs m
