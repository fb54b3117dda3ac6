use Rattle.ent_alloc.proofs.Common.{rules, ◌≡◌, ℕ, ◌+◌, ◌-◌, ◌<◌, false, length, drop, leb, get_or}
use Rattle.ent_alloc.proofs.Common.{◌∙◌, arith, lt-leb, Handle, Roster, Allocator, available, fresh}
use Rattle.ent_alloc.proofs.Common.{stands_in, allocator_of, AreReserved, le-leb, ◌≤◌, true, ◌||◌}
use Rattle.ent_alloc.proofs.Common.{List, slice_get, Some, common_steps, get_or-append-add}
use Rattle.ent_alloc.proofs.Common.{get_or_append_left, length-reverse, get_or-reverse}
use Rattle.ent_alloc.proofs.Common.{list_any-append, slice_get-get_or, idle}
use Rattle.ent_alloc.proofs.Looked.{fresh_no}
use Rattle.ent_alloc.proofs.Meaning.{allocator_is, available_is, length-idle}
use Rattle.ent_alloc.proofs.FreshHandles.{length-fresh, get_or-fresh}
use Rattle.ent_alloc.proofs.HandleSets.{Contains-from_stands_in}
use Rattle.ent_alloc.proofs.ListLaws.{list_any-reverse}
use Rattle.ent_alloc.proofs.entities.Entities.place.Goals.{In-Some-Pending}
use Rattle.ent_alloc.proofs.entities.Entities.place.Goals as goal

-- what there was to give, by the vectors
available_view : (r : Roster) (asked given : ℕ) (s : Allocator) → AreReserved r asked given
    → allocator_of r asked given ≡ s → available s ≡ idle r
available_view r asked given s reserved view = search (rules, available_is)

-- it waits in the pending list, or it is a fresh one
stands_idle : (r : Roster) (h : Handle) → stands_in (idle r) h
    ≡ (stands_in r.pending h || stands_in (fresh r.made (r.limits.slots - r.made)) h)
stands_idle r h = search (rules, list_any-append, list_any-reverse)

-- who waits from a position on, and not from the next one on, waits there
waits_here : (hs : List Handle) (h : Handle) (n : ℕ) → stands_in (drop n hs) h ≡ true
    → stands_in (drop (n + 1) hs) h ≡ false → (n < length hs) × (get_or hs n h ≡ h)
waits_here hs h n from later = grind (arith, common_steps)

-- a handle that waits at a position stands as far from the other end
waiting_place : (r : Roster) (h : Handle) (n : ℕ) → n < length r.pending → get_or r.pending n h ≡ h
    → slice_get (idle r) (length r.pending - 1 - n) ≡ Some h
waiting_place r h n within is =
    let place = length r.pending - 1 - n in
    let long = length-reverse r.pending in
    let inside : place < length (idle r) = omega (arith, length-idle r) in
    let back : length r.pending - 1 - place ≡ n = omega arith in
    search (rules, slice_get-get_or, get_or_append_left, get_or-reverse)

-- a fresh one stands after all that wait
fresh_place : (r : Roster) (h : Handle)
    → stands_in (fresh r.made (r.limits.slots - r.made)) h ≡ true
    → (r.made ≤ h.index) × (slice_get (idle r) (length r.pending + (h.index - r.made)) ≡ Some h)
fresh_place r h stands =
    search (
      rules,
      Contains-from_stands_in,
      length-fresh,
      get_or-fresh,
      length-reverse,
      length-idle,
      slice_get-get_or,
      get_or-append-add,
    )

-- it neither waits nor is it fresh
nowhere : (r : Roster) (asked given : ℕ) (s : Allocator) (h : Handle) → AreReserved r asked given
    → allocator_of r asked given ≡ s → stands_in (drop 0 r.pending) h ≡ false
    → stands_in (fresh r.made (r.limits.slots - r.made)) h ≡ false
    → stands_in (available s) h ≡ false
nowhere r asked given s h inv view waits fresh_is = search (rules, available_view, stands_idle)

-- where it waits
waiting : (r : Roster) (h : Handle) (position : ℕ)
    → ((from : ℕ) → stands_in (drop from r.pending) h ≡ leb from position)
    → (position < length r.pending) × (get_or r.pending position h ≡ h)
waiting r h position waits =
    waits_here r.pending h position (waits position ∙ le-leb position position (omega arith))
    (waits (position + 1) ∙ lt-leb (position + 1) position (omega arith))

-- where the slot waits that was looked up
here : (c : In-Some-Pending) → (c.in-Some-Pending.position < length c.self.inside.slots.pending)
    × (get_or c.self.inside.slots.pending c.in-Some-Pending.position c.args.handle ≡ c.args.handle)
here c = waiting c.self.inside.slots c.args.handle c.in-Some-Pending.position
    (search (rules, c.in-Some-Pending.ensures.waits, c.in-Some-Pending.field-0-is))

pub overflow_sub-result : goal.overflow_sub-result
overflow_sub-result c = search (rules, here)

pub overflow_sub-result-in-Some-Pending : goal.overflow_sub-result-in-Some-Pending
overflow_sub-result-in-Some-Pending c = search (rules, here)

pub returns-in-Some-Pending-clause-found : goal.returns-in-Some-Pending-clause-found
returns-in-Some-Pending-clause-found c = search
    (rules, here, allocator_is, available_view, waiting_place, c.in-Some-Pending.position-is)

pub returns-in-Some-Alive-clause-none : goal.returns-in-Some-Alive-clause-none
returns-in-Some-Alive-clause-none c =
    let at = c.in-Some-Alive in
    search (
      rules,
      nowhere,
      allocator_is,
      at.field-0-is,
      at.ensures.made,
      at.ensures.waits 0,
      fresh_no,
      c.args.handle,
    )

pub returns-in-Some-AliveWithRow-clause-none : goal.returns-in-Some-AliveWithRow-clause-none
returns-in-Some-AliveWithRow-clause-none c =
    let at = c.in-Some-AliveWithRow in
    search (
      rules,
      nowhere,
      at.field-0-is,
      at.ensures.made,
      at.ensures.waits 0,
      fresh_no,
      c.args.handle,
    )

pub returns-in-Some-Retired-clause-none : goal.returns-in-Some-Retired-clause-none
returns-in-Some-Retired-clause-none c =
    let at = c.in-Some-Retired in
    search (
      rules,
      nowhere,
      allocator_is,
      at.field-0-is,
      at.ensures.made,
      at.ensures.waits 0,
      fresh_no,
      c.args.handle,
    )

pub returns-in-None-clause-none : goal.returns-in-None-clause-none
returns-in-None-clause-none c = search
    (rules, nowhere, allocator_is, fresh_no, c.args.handle, c.in-None.ensures.waits 0)

-- how many slots can still be made
room_is : (r : Roster) (asked given : ℕ) (s : Allocator) (room : ℕ) → allocator_of r asked given ≡ s
    → room ≡ s.limits.slots - s.made → r.limits.slots - r.made ≡ room
room_is r asked given s room view is = search rules

pub returns-in-None-2-clause-found : goal.returns-in-None-2-clause-found
returns-in-None-2-clause-found c =
    search (rules, allocator_is, room_is, fresh_place, available_view)

pub returns-in-None-3-clause-none : goal.returns-in-None-3-clause-none
returns-in-None-3-clause-none c =
    search (
      rules,
      nowhere,
      allocator_is,
      c.args.handle,
      c.in-None-3.ensures.waits 0,
      c.is_next.ensures,
      c.if-is_next.false,
    )
