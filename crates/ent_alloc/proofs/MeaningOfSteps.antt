-- What the calls make of the roster is the allocator's step: `alloc`, a flush, `lower`, `settle`.
use Rattle.ent_alloc.proofs.Common.{rules, ◌≡◌, ◌+◌, ◌-◌, ◌<◌, List, [], ◌∷◌, ◌++◌, length, take}
use Rattle.ent_alloc.proofs.Common.{reverse, sym, ap, ◌∙◌, arith, suc, slice_get, Some, None, refl}
use Rattle.ent_alloc.proofs.Common.{lt-ltb, le-ltb, take_all, reverse-append, take_more}
use Rattle.ent_alloc.proofs.Common.{nil_from_length, All-head, get_or_from_slice_get}
use Rattle.ent_alloc.proofs.Common.{slice_get_within, or_comm, or-false, Handle, handle_cmp}
use Rattle.ent_alloc.proofs.Common.{handle_cmp_total, handle_cmp-IsAntisymmetric, Roster, Requests}
use Rattle.ent_alloc.proofs.Common.{Allocator, fresh, after_alloc, IsSound, idle, allocator_of}
use Rattle.ent_alloc.proofs.Common.{entities_of, HasRowsOfLiving, common_steps, ℕ, ◌≤◌, ◌||◌, drop}
use Rattle.ent_alloc.proofs.Common.{filter, All, length-reverse, reverse-reverse, list_any-append}
use Rattle.ent_alloc.proofs.Common.{or_assoc, is_fresh, made_at_flush, after_flush, born, stands_in}
use Rattle.ent_alloc.proofs.Common.{◌^◌, cases_lt, le-leb, cond-true, length-take, drop_all}
use Rattle.ent_alloc.proofs.Common.{drop-drop, take-add, after_take, settled, before_requests}
use Rattle.ent_alloc.proofs.Common.{AreReserved}
use Rattle.std.specs.FinSet as sets
use Rattle.std.specs.FinMap as maps
use Rattle.ent_alloc.proofs.FreshHandles.{first_of_slot, fresh-next, length-fresh, take_joined}
use Rattle.ent_alloc.proofs.FreshHandles.{drop_joined, old_of_joined, fresh_of_joined}
use Rattle.ent_alloc.proofs.Flushes.{rows-joined}
use Rattle.ent_alloc.proofs.HandleSets.{contains-union_list}
use Rattle.ent_alloc.proofs.Soundness.{after_alloc-sound, after_take-sound, IsSound-moved}
use Rattle.ent_alloc.proofs.Meaning.{to_give, pending_below, length-idle, IsAtRest, StandFor}
use Rattle.ent_alloc.proofs.Meaning.{drop_rest, length_left, rest_is, available_is}
use Rattle.ent_alloc.proofs.ListLaws.{drop-reverse, take-reverse, list_any-reverse}
use Rattle.ent_alloc.proofs.Settled.{settled-sound}

pub union_one : (live : sets.FinSet handle_cmp) (h : Handle)
    → sets.union live (sets.from_list (h ∷ [])) ≡ sets.insert live h
union_one live h =
    sets.same_set handle_cmp_total handle_cmp-IsAntisymmetric _ _
    (λ q.
    search (rules, contains-union_list, or_comm, or-false, sets.contains-insert, handle_cmp_total))

-- ---- alloc

-- the roster after the slot that waits last got its next occupant, and after one was made
abbrev pub reused_roster : Roster → Handle → Roster
reused_roster r h = record r {
  live = sets.union r.live (sets.from_list (h ∷ []));
  pending = take (length r.pending - 1) r.pending;
}

abbrev pub made_roster : Roster → Handle → Roster
made_roster r h = record r { live = sets.union r.live (sets.from_list (h ∷ [])); made = r.made + 1 }

-- the last that waits is the first to be given
module _ (r : Roster) (h : Handle) (some : 0 < length r.pending)
    (last : slice_get r.pending (length r.pending - 1) ≡ Some h) where
  pub last_is : r.pending ≡ take (length r.pending - 1) r.pending ++ h ∷ []
  last_is =
      search (
        rules,
        arith,
        take_all (length r.pending) r.pending,
        take_more r.pending (length r.pending - 1) h,
        get_or_from_slice_get,
      )

  last_first : reverse r.pending ≡ h ∷ reverse (take (length r.pending - 1) r.pending)
  last_first = ap reverse last_is ∙ reverse-append (take (length r.pending - 1) r.pending) (h ∷ [])

  pub alloc_old_front : idle r ≡ h ∷ (reverse (take (length r.pending - 1) r.pending)
      ++ fresh r.made (r.limits.slots - r.made))
  alloc_old_front = search (rules, last_first)

  pub alloc_old_is : IsSound (allocator_of r 0 0)
      → allocator_of (reused_roster r h) 0 0 ≡ after_alloc (allocator_of r 0 0) h
  alloc_old_is sound =
      let below : h.index < r.made = search (rules, pending_below r 0 0, last_first, All-head) in
      search (rules, lt-ltb, union_one, alloc_old_front)

-- where none waits, it is the first occupant of a new slot
module _ (r : Roster) (none : length r.pending ≡ 0) (room : r.made < r.limits.slots) where
  pub alloc_fresh_front : idle r
      ≡ first_of_slot r.made ∷ fresh (r.made + 1) (r.limits.slots - (r.made + 1))
  alloc_fresh_front =
      let more : r.limits.slots - r.made ≡ suc (r.limits.slots - (r.made + 1)) = omega arith in
      search (rules, nil_from_length, fresh-next)

  pub alloc_fresh_is : (h : Handle) → h ≡ first_of_slot r.made
      → allocator_of (made_roster r h) 0 0 ≡ after_alloc (allocator_of r 0 0) h
  alloc_fresh_is h first = search (rules, le-ltb, union_one, nil_from_length, alloc_fresh_front)

-- a handle was given, and the vectors now stand for what the allocator is then
pub record IsGiven (requests : Requests) (s : Allocator) (h : Handle) (new : Roster) : Type 0 where
  pub front : slice_get s.pool 0 ≡ Some h
  pub stands : StandFor new requests (after_alloc s h)
  pub no_row : maps.get new.rows h ≡ None

module _ (r : Roster) (requests : Requests) (s : Allocator) (rest : IsAtRest r requests s) where
  pub pool_is : idle r ≡ s.pool
  pool_is = ap (λ (t : Allocator). t.pool) rest.view

  pub length_pool : length s.pool ≡ to_give r
  length_pool = sym (ap length pool_is) ∙ length-idle r

  -- the first handle of the pool is given, and the slots are left so
  given : (h : Handle) (left : Roster) (others : List Handle) → s.pool ≡ h ∷ others
      → allocator_of left 0 0 ≡ after_alloc s h → left.rows ≡ r.rows
      → HasRowsOfLiving (entities_of left 0 0) → (new : Roster) → new ≡ left
      → IsGiven requests s h new
  given h left others front is row rows new same = search
      (rules, after_alloc-sound s h others rest.sound rest.asked front, pool_is)

  -- the slot that waits last gets its next occupant
  pub reused_given : (h : Handle) → slice_get r.pending (length r.pending - 1) ≡ Some h
      → (new : Roster) → new ≡ reused_roster r h → IsGiven requests s h new
  reused_given h last =
      let within = slice_get_within r.pending (length r.pending - 1) h last in
      let some : 0 < length r.pending = omega arith in
      given h (reused_roster r h) _ (sym pool_is ∙ alloc_old_front r h some last)
      (search (rules, alloc_old_is)) refl
      (rows-joined r.live (h ∷ []) r.rows rest.rows)

  -- no slot waits, and one is made
  pub made_given : (h : Handle) → length r.pending ≡ 0 → r.made < r.limits.slots
      → h ≡ record { index = r.made; generation = 1 } → (new : Roster) → new ≡ made_roster r h
      → IsGiven requests s h new
  made_given h none room first = search (
    rules,
    given h (made_roster r h) (fresh (r.made + 1) (r.limits.slots - (r.made + 1))),
    pool_is,
    alloc_fresh_front,
    alloc_fresh_is,
    rows-joined r.live (h ∷ []) r.rows rest.rows,
  )

-- ---- free

-- two lists that come to life one after the other, in either order
live_after : (live : sets.FinSet handle_cmp) (news olds : List Handle)
    → sets.union (sets.union live (sets.from_list news)) (sets.from_list olds)
    ≡ sets.union live (sets.from_list (reverse olds ++ news))
live_after live news olds = sets.same_set handle_cmp_total handle_cmp-IsAntisymmetric _ _
    (λ q. search (rules, contains-union_list, or_assoc, or_comm, list_any-reverse, list_any-append))

-- the roster after so many new slots and with so many pending ones kept
abbrev pub flushed_roster : Roster → ℕ → ℕ → Roster
flushed_roster r kept news = record r {
  live =
      sets.union (sets.union r.live (sets.from_list (fresh r.made news)))
      (sets.from_list (drop kept r.pending));
  pending = take kept r.pending;
  made = r.made + news;
}

module _ (r : Roster) (asked given : ℕ) (within : given ≤ asked)
    (enough : given ≤ to_give r) (sound : IsSound (allocator_of r asked given)) where
  abbrev pub kept : ℕ
  kept = length r.pending - given

  abbrev pub news : ℕ
  news = given - length r.pending

  waits_below : All (λ h. h.index < r.made) (reverse r.pending)
  waits_below = pending_below r asked given within sound

  pub taken_is : take given (idle r) ≡ reverse (drop kept r.pending) ++ fresh r.made news
  taken_is = search (rules, take_joined, waits_below, length-reverse, take-reverse)

  taken_below : All (λ h. h.index < r.made) (reverse (drop kept r.pending))
  taken_below = grind (arith, common_steps, take-reverse given r.pending, waits_below)

  taken_fresh : filter (is_fresh r.made) (take given (idle r)) ≡ fresh r.made news
  taken_fresh = search (rules, taken_is, fresh_of_joined, taken_below)

  -- how many slots it makes
  pub made_at_flush_is : made_at_flush (allocator_of r asked given) ≡ news
  made_at_flush_is = ap length taken_fresh ∙ length-fresh r.made news

  -- who is reserved
  pub stands_in_taken : (h : Handle)
      → (stands_in (drop kept r.pending) h || stands_in (fresh r.made news) h)
      ≡ stands_in (take given (idle r)) h
  stands_in_taken h = search (rules, list_any-reverse, list_any-append, taken_is)

  pub born_is_listed : born (allocator_of r asked given) ≡ fresh r.made news ++ drop kept r.pending
  born_is_listed =
      search (rules, taken_fresh, reverse-reverse, taken_is, old_of_joined, taken_below)

  pub flush_is : allocator_of (flushed_roster r kept news) 0 0
      ≡ after_flush (allocator_of r asked given)
  flush_is =
      search (
        rules,
        live_after,
        taken_is,
        made_at_flush_is,
        drop-reverse,
        length-reverse,
        drop_joined,
        waits_below,
        drop_rest,
      )

-- a request that there is enough for
pub lower_served : (r : Roster) (asked given n : ℕ) → given ≡ asked → asked + n ≤ to_give r
    → allocator_of r (asked + n) (asked + n) ≡ after_take (allocator_of r asked given) n
lower_served r asked given n all enough = search
    (rules, le-leb, length_left, take-add, drop_all, length-take, drop-drop, cond-true)

-- a request for more than there is
pub lower_refused : (r : Roster) (asked given n : ℕ) → given ≤ asked → to_give r < asked + n
    → allocator_of r (asked + n) given ≡ after_take (allocator_of r asked given) n
lower_refused r asked given n within past = search
    (rules, common_steps, cases_lt, take_all, length-idle, drop_rest, drop_all, length_left)

-- ---- what lower leaves

module _ (r : Roster) (asked given n : ℕ) (s : Allocator) (reserved : AreReserved r asked given)
    (view : allocator_of r asked given ≡ s) where
  pub served_view : asked + n ≤ to_give r → allocator_of r (asked + n) (asked + n) ≡ after_take s n
  served_view enough = search (rules, lower_served)

  pub served_reserved : asked + n ≤ to_give r → asked + n ≤ 2 ^ 50
      → AreReserved r (asked + n) (asked + n)
  served_reserved enough small = search (rules, served_view, after_take-sound)

  pub refused_view : to_give r < asked + n → allocator_of r (asked + n) given ≡ after_take s n
  refused_view past = search (rules, lower_refused)

  pub refused_reserved : to_give r < asked + n → asked + n ≤ 2 ^ 50
      → AreReserved r (asked + n) given
  refused_reserved past small = search (rules, refused_view, after_take-sound)

-- ---- settle

-- what the two positions leave of an allocator that nothing is reserved of
pub settled_is : (r : Roster) (asked given : ℕ)
    → allocator_of r asked given ≡ settled (allocator_of r 0 0) given asked
settled_is r asked given = search (rules)

module _ (r : Roster) (was_asked was_given : ℕ) (s : Allocator)
    (reserved : AreReserved r was_asked was_given)
    (view : allocator_of r was_asked was_given ≡ s) (idle : s.asked ≡ 0) where
  pub settled_view : (asked given : ℕ) → allocator_of r asked given ≡ settled s given asked
  settled_view asked given = search (rules, settled_is, rest_is)

  pub settled_reserved : (asked given : ℕ) → asked ≤ 2 ^ 50 → given ≤ asked → given ≤ to_give r
      → (asked ≤ to_give r → given ≡ asked) → AreReserved r asked given
  settled_reserved asked given small ordered reachable all = search
      (rules, rest_is, length-idle, settled_view, settled-sound)

-- ---- cancel_requests

module _ (r : Roster) (asked given : ℕ) (s : Allocator) (reserved : AreReserved r asked given)
    (view : allocator_of r asked given ≡ s) where
  pub cancelled_view : allocator_of r 0 0 ≡ before_requests s
  cancelled_view = search (rules, available_is)

  pub cancelled_reserved : AreReserved r 0 0
  cancelled_reserved = search (rules, available_is, IsSound-moved)
