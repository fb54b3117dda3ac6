-- What logs have: what their spawns returned, and their entries one after the other.
use Rattle.std.specs.Prelude.{List, [], ◌∷◌, Bool, true, false, not, Option, flat_map, find}
use Rattle.ent_handle.specs.Handle.{Handle}
use Rattle.ent_alloc.specs.Sequential.{Allocator, state_of}
use Rattle.ent_alloc.specs.declared.refused.Refused.{Refused as Refusal}
use Rattle.ent_alloc.specs.declared.state.State.{State}
use Rattle.ent_alloc.specs.declared.state.State.TheVariants.{Alive, Reserved, Gone}
use Rattle.ent_log.specs.declared.entry.Entry.{Entry}
use Rattle.ent_log.specs.declared.entry.Entry.TheVariants.{Spawn, Refused, Command}

module _ {C : Type 0} where
  -- the handle that a spawn returned
  abbrev pub spawned_by : Entry C → List Handle
  spawned_by (Spawn h) = h ∷ []
  spawned_by (Refused why) = []
  spawned_by (Command command) = []

  -- the handles that the spawns among these entries returned, in order
  abbrev pub spawned_in : List (Entry C) → List Handle
  spawned_in entries = flat_map spawned_by entries

  -- why a spawn was refused
  abbrev pub refusal_of : Entry C → List Refusal
  refusal_of (Spawn h) = []
  refusal_of (Refused why) = why ∷ []
  refusal_of (Command command) = []

  -- why those spawns were refused that were, in order
  abbrev pub refused_in : List (Entry C) → List Refusal
  refused_in entries = flat_map refusal_of entries

  -- the entries of all logs, one log after the other
  abbrev pub entries_of : List (List (Entry C)) → List (Entry C)
  entries_of logs = flat_map (λ (log : List (Entry C)). log) logs

abbrev pub is_reserved : State → Bool
is_reserved Reserved = true
is_reserved Alive = false
is_reserved Gone = false

-- the first of these handles that isn't reserved in the allocator
abbrev pub first_unreserved : Allocator → List Handle → Option Handle
first_unreserved s handles = find (λ (h : Handle). not (is_reserved (state_of s h))) handles
