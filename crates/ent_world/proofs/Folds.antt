-- Commands in order: what was applied so far, one more, where it stopped, and where it may take
-- memory.
use Rattle.ent_world.proofs.Common.{[], rules, ◌≡◌, refl, ℕ, ◌+◌, ◌<◌, List, ◌∷◌, ◌++◌, length}
use Rattle.ent_world.proofs.Common.{take, drop, arith, common_steps, take_more, drop_more}
use Rattle.ent_world.proofs.Common.{length-drop, Handle, Command, World, Applied, on_each}
use Rattle.ent_world.proofs.Common.{after_command, after_commands, after_queues, first_part, true}
use Rattle.ent_world.proofs.Common.{slice_get, Some, zero, suc, max, nat_tests, slice_get-get_or}
use Rattle.ent_world.proofs.Common.{Bundle, insert_takes_memory, one_takes_memory}
use Rattle.ent_world.proofs.Common.{command_takes_memory, TakesMemoryIn}

-- the next element of a list, of which the first ones are done
module _ {X : Type 0} (xs rest : List X) (k : ℕ) (x : X) (left : drop k xs ≡ x ∷ rest) where
  pub next_below : k < length xs
  next_below = grind (arith, common_steps)

  pub next_taken : take (k + 1) xs ≡ take k xs ++ x ∷ []
  next_taken = search (rules, drop_more xs k x, take_more xs k x, next_below)

  pub next_left : rest ≡ drop (k + 1) xs
  next_left = search (rules, drop_more xs k x, next_below)

  next_at : slice_get xs k ≡ Some x
  next_at = search (rules, drop_more xs k x, slice_get-get_or xs k x, next_below)

-- some are left before the end
pub some_left : {X : Type 0} (xs : List X) (k : ℕ) → k < length xs → drop k xs ≡ [] → ⊥
some_left xs k lt none = grind (arith, common_steps, length-drop k xs)

-- Handles.

pub on_each-append : (system command : ℕ) (change : Handle → World → World) (xs ys : List Handle)
    (a : Applied) → on_each system command change (xs ++ ys) a
    ≡ on_each system command change ys (on_each system command change xs a)
on_each-append system command change [] ys a = refl
on_each-append system command change (x ∷ xs) ys a = on_each-append _ _ _ xs ys _

-- Commands.

pub after_commands-append : (system command : ℕ) (xs ys : List Command) (a : Applied)
    → after_commands system command (xs ++ ys) a ≡ after_commands system (command + length xs) ys
    (after_commands system command xs a)
after_commands-append system command [] ys a = search (rules)
after_commands-append system command (x ∷ xs) ys a = search
    (rules, after_commands-append system (command + 1) xs ys (after_command system command x a))

pub first_alone : (done : ℕ) (c : Command) (rest : List Command)
    → first_part done (c ∷ rest) ≡ first_part done (c ∷ [])
first_alone done it rest = search rules

-- Queues.

pub after_queues-append : (system : ℕ) (xs ys : List (List Command)) (a : Applied)
    → after_queues system (xs ++ ys) a
    ≡ after_queues (system + length xs) ys (after_queues system xs a)
after_queues-append system [] ys a = search (rules)
after_queues-append system (x ∷ xs) ys a = search
    (rules, after_queues-append (system + 1) xs ys (after_commands system 0 x a))

-- Where a command may take memory.

at_takes_memory : (w : World) (items : Bundle) (hs : List Handle) (k : ℕ) → k < length hs
    → 1 < length items → one_takes_memory w items (slice_get hs k) ≡ true
at_takes_memory w items [] k lt some = absurd (omega arith)
at_takes_memory w items (h ∷ hs) zero lt some = search (rules, nat_tests)
at_takes_memory w items (h ∷ hs) (suc k) lt some = at_takes_memory w items hs k (omega arith) some

-- to the first of the handles that are left
pub stop_takes_memory : (w : World) (items : Bundle) (hs : List Handle) (k : ℕ) → (hs ≡ [] → ⊥)
    → k < max 1 (length hs) → 1 < length items → one_takes_memory w items (slice_get hs k) ≡ true
stop_takes_memory w items hs k some_handle lt some = grind (arith, common_steps, at_takes_memory)

-- to the next of them
pub next_takes_memory : (w : World) (items : Bundle) (hs rest : List Handle) (k : ℕ) (h : Handle)
    → drop k hs ≡ h ∷ rest → insert_takes_memory w items h ≡ true
    → one_takes_memory w items (slice_get hs k) ≡ true
next_takes_memory w items hs rest k h left takes = search (rules, next_at)

-- at this command of a queue
pub takes_memory_in : (w : World) (q rest : List Command) (k done : ℕ) (c : Command)
    → drop k q ≡ c ∷ rest → command_takes_memory w done c ≡ true → TakesMemoryIn w k done q
takes_memory_in w q rest k done c left takes = search (rules, next_at)
