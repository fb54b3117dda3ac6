-- What is true of every world stays true: each step leaves a world, and a storage has room for each
-- slot that waits.
use Rattle.ent_world.proofs.Common.{[], rules, ◌≡◌, sym, ap, ◌∙◌, ℕ, ◌+◌, ◌-◌, ◌≤◌, ◌<◌, true}
use Rattle.ent_world.proofs.Common.{false, List, ◌∷◌, ◌++◌, length, drop, filter, slice_get, arith}
use Rattle.ent_world.proofs.Common.{Some, All, common_steps, filter_passes, All-head, Handle}
use Rattle.ent_world.proofs.Common.{Allocator, available, top, is_old, fresh, after_flush}
use Rattle.ent_world.proofs.Common.{after_alloc, after_free, IsSound, Call, after_history}
use Rattle.ent_world.proofs.Common.{after_history-takes, top-after_takes, retired-rest}
use Rattle.ent_world.proofs.Common.{after_flush-sound, after_alloc-sound, length-available}
use Rattle.ent_world.proofs.Common.{made-after_flush, ◌⊎◌, ◌^◌, min, sum_by, sum_by-cons, dealt}
use Rattle.ent_world.proofs.Common.{blocks_from, lesser, dealt_from, IsWorld, Birth}
use Rattle.ent_world.proofs.Common.{after_free-sound, Bundle, Command, World, lives_in, Applied}
use Rattle.ent_world.proofs.Common.{after_spawn, after_despawn, after_queues, after_births, applied}
use Rattle.ent_world.proofs.Common.{Fault, length-append}
use Rattle.std.specs.FinSet as set
use Rattle.ent_world.proofs.Kept.{keys-insert, keys-remove, living-history, after_queues-keeps}
use Rattle.ent_world.proofs.Born.{living-after}
use Rattle.ent_world.proofs.GivenOnce.{IsFlushed, flushed-kept, history-sound}

-- where no slot was made, none waits
pub none_made : (s : Allocator) (spare : ℕ) → IsSound s → s.made ≡ 0 → top s ≤ spare
none_made s spare sound none = search (rules, retired-rest)

-- where a slot waits, one was made
pub some_made : (s : Allocator) (least : ℕ) → IsSound s → least < top s → 0 < s.made
some_made s least sound waits = search (rules, retired-rest)

-- a copy has as much room as the storage, or there is no slot that could wait
pub room_copied : (s : Allocator) (made spare copy : ℕ) → IsSound s → made ≡ s.made → top s ≤ spare
    → (0 < made → spare ≤ copy) → top s ≤ copy
room_copied s made spare copy sound is room keeps = grind (arith, common_steps, none_made)

-- a flush takes old handles first
pub top-after_flush : (s : Allocator) → IsSound s → top (after_flush s) ≡ top s - length s.taken
top-after_flush s sound =
    let before = length-available s sound in
    let left = length-available (after_flush s) (after_flush-sound s sound) in
    grind (arith, common_steps, length-append s.taken (s.aside ++ s.pool), made-after_flush s sound)

-- with room for all that are born, room is left for each slot that waits then
pub room-after_flush : (s : Allocator) (spare left : ℕ) → IsSound s → top s ≤ spare
    → left + length s.taken ≡ spare → top (after_flush s) ≤ left
room-after_flush s spare left sound room less = search (rules, top-after_flush)

-- none waits if the front of the pool is of a new slot
none_waits : (s : Allocator) (h : Handle) (rest waiting : List Handle) → available s ≡ h ∷ rest
    → available s ≡ waiting ++ fresh s.made (s.limits.slots - s.made)
    → All (λ x. is_old s.made x ≡ true) waiting → is_old s.made h ≡ false → length waiting ≡ 0
none_waits s h rest waiting at order old new = grind (arith, common_steps, All-head)

-- the one that is given is the last that waited, or none did
pub top-after_alloc : (s : Allocator) (h : Handle) (rest : List Handle) → IsSound s → s.asked ≡ 0
    → s.pool ≡ h ∷ rest → top (after_alloc s h) ≡ top s - 1
top-after_alloc s h rest sound flushed pool =
    let all : available s ≡ h ∷ rest = sym (sound.pool ∙ ap (λ n. drop n (available s)) flushed)
    ∙ pool in
    let after = after_alloc-sound s h rest sound flushed pool in
    let before = length-available s sound in
    let left = length-available (after_alloc s h) after in
    let most = after.made in
    let old = filter_passes (is_old s.made) (available s) in
    grind (
      arith,
      common_steps,
      length-append,
      none_waits s h rest (filter (is_old s.made) (available s)),
    )

pub front : (pool : List Handle) (h : Handle) → slice_get pool 0 ≡ Some h
    → (rest : List Handle) × (pool ≡ h ∷ rest)
front [] h none = cc
front (g ∷ rest) h first = let same : g ≡ h = cc in (rest, ap (λ x. x ∷ rest) same)

-- a storage that has lost the place of one has room still
pub room-after_alloc : (s : Allocator) (h : Handle) (spare left : ℕ) → IsSound s → s.asked ≡ 0
    → slice_get s.pool 0 ≡ Some h → top s ≤ spare → (0 < spare → left + 1 ≡ spare)
    → top (after_alloc s h) ≤ left
room-after_alloc s h spare left sound flushed first room less =
    search (rules, front, top-after_alloc)

-- no more than one waits more
pub room-after_free : (s : Allocator) (h : Handle) (spare left : ℕ) → IsSound s → s.asked ≡ 0
    → set.contains s.live h ≡ true → top s ≤ spare → left ≡ spare + 1 → top (after_free s h) ≤ left
room-after_free s h spare left sound flushed lived room more = grind (arith, common_steps)

-- reservations change nothing of it
pub top-after_history : (s : Allocator) (history : List Call) → IsSound s
    → top (after_history s history) ≡ top s
top-after_history s history sound = search (rules, after_history-takes, top-after_takes)

-- The room that a world in blocks has for the slots that wait.

-- what is reserved is born
pub after_births-world : (queues : List (List Command)) (w : World) → IsWorld w
    → IsWorld (after_births queues w)
after_births-world queues w is = search (rules, after_flush-sound, living-after)

-- the front of the pool comes to life
pub after_spawn-world : (birth : Birth) (items : Bundle) (h : Handle) (w : World) → IsWorld w
    → w.allocator.asked ≡ 0 → slice_get w.allocator.pool 0 ≡ Some h
    → IsWorld (after_spawn birth items h w)
after_spawn-world birth items h w is flushed first =
    let pool = front w.allocator.pool h first in search (rules, after_alloc-sound, keys-insert)

-- a living entity goes
pub after_despawn-world : (h : Handle) (w : World) → IsWorld w → w.allocator.asked ≡ 0
    → lives_in w h ≡ true → IsWorld (after_despawn h w)
after_despawn-world h w is flushed there =
    let lived = sym (is.living h) ∙ there in search (rules, after_free-sound, keys-remove, lived)

-- any commands of a flushed world
pub commands-world : (queues : List (List Command)) (before : List Fault) {w v : World}
    {after : List Fault} → applied v after ≡ after_queues 0 queues (applied w before) → IsWorld w
    → w.allocator.asked ≡ 0 → IsWorld v
commands-world queues before {w} is world flushed =
    let kept = after_queues-keeps IsFlushed flushed-kept 0 queues (applied w before) in
    rw (ap (λ (a : Applied). a.world) is) (search (rules, kept))

-- reservations
pub after_history-world : (history : List Call) (w : World) → IsWorld w
    → IsWorld (record w { allocator = after_history w.allocator history })
after_history-world history w is = search (rules, history-sound, living-history)
