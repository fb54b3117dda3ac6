-- Over the frames of a run no handle is given twice: each frame keeps the list of all given handles
-- free of repetitions.
use Rattle.ent_world.proofs.Common.{[], rules, ◌≡◌, sym, ◌∙◌, append-nil, ℕ, List, ◌∷◌, ◌++◌}
use Rattle.ent_world.proofs.Common.{Result, All-nil, Handle, Limits, AreLimits, Space, Allocator}
use Rattle.ent_world.proofs.Common.{opening, after_take, reply_to, IsSound, AreSpent, Call, IsLegal}
use Rattle.ent_world.proofs.Common.{after_history, handles_in, given_in, opening-sound}
use Rattle.ent_world.proofs.Common.{after_take-sound, after_flush-sound, after_free-sound}
use Rattle.ent_world.proofs.Common.{take-given, refused-given, flush-given, free-given, Command}
use Rattle.ent_world.proofs.Common.{World, AreLiving, first_world, applied, after_births, sync}
use Rattle.ent_world.proofs.Common.{append_assoc, Ok, Err}
use Rattle.ent_world.proofs.Kept.{keys-empty, keys-remove, keys-components, living-history, IsKept}
use Rattle.ent_world.proofs.Kept.{after_queues-keeps}
use Rattle.ent_world.proofs.Born.{living-after}

-- ---- reservations

-- one call, served or refused
call-given : (s : Allocator) (n : ℕ) (reply : Result (List Handle) Space) (given : List Handle)
    → IsSound s → reply ≡ reply_to s n → AreSpent s given
    → AreSpent (after_take s n) (given ++ handles_in reply)
call-given s n (Ok more) given sound is once = take-given s n given more sound (sym is) once
call-given s n (Err space) given sound is once = search (rules, append-nil, refused-given)

-- a legal history gives what was never given
pub history-given : (s : Allocator) (history : List Call) (given : List Handle) → IsSound s
    → IsLegal s history → AreSpent s given
    → AreSpent (after_history s history) (given ++ given_in history)
history-given s [] given sound legal once = search (rules, append-nil)
history-given s (call ∷ calls) given sound legal once = rw (← append_assoc) (history-given
    (after_take s call.requested) calls _ (after_take-sound s call.requested sound) legal.2
    (call-given s call.requested call.reply given sound legal.1 once))

-- a history keeps the allocator sound
pub history-sound : (s : Allocator) (history : List Call) → IsSound s
    → IsSound (after_history s history)
history-sound s [] sound = sound
history-sound s (call ∷ calls) sound =
    history-sound (after_take s _) calls (after_take-sound s call.requested sound)

-- ---- what commands keep

-- A sound allocator after a flush, and its living entities.
pub record IsFlushed (w : World) : Type 0 where
  pub asked : w.allocator.asked ≡ 0
  pub sound : IsSound w.allocator
  pub living : AreLiving w.allocator w.entities

pub flushed-kept : IsKept IsFlushed
flushed-kept = record {
  components = λ change h w there before. search (rules, keys-components);
  despawn = λ h w there before.
      let lives = sym (before.living h) ∙ there in
      search (rules, after_free-sound, lives, keys-remove);
}

-- ---- what was given stays spent

-- a world on the way through a sync: all that was given is spent
abbrev IsOnTheWay : List Handle → World → Type 0
IsOnTheWay given w = IsFlushed w × AreSpent w.allocator given

on_the_way-kept : (given : List Handle) → IsKept (IsOnTheWay given)
on_the_way-kept given = record {
  components =
      λ change h w there before. (flushed-kept.components change h w there before.0, before.1);
  despawn = λ h w there before.
      let lives = sym (before.0.living h) ∙ there in
      (flushed-kept.despawn h w there before.0, search (rules, free-given, lives, before.1));
}

-- ---- a frame: reservations, and the sync after them

-- the world after these reservations
abbrev pub after_calls : List Call → World → World
after_calls history w = record w { allocator = after_history w.allocator history }

module _ (queues : List (List Command)) (history : List Call) (w : World)
    (sound : IsSound w.allocator)
    (living : AreLiving w.allocator w.entities) where
  births-flushed : IsFlushed (after_births queues (after_calls history w))
  births-flushed = search (rules, after_flush-sound, living-after, history-sound, living-history)

  frame-flushed : IsFlushed (sync queues (after_calls history w)).world
  frame-flushed = search (rules, after_queues-keeps, flushed-kept, births-flushed)

  -- it keeps the allocator sound
  pub frame-sound : IsSound (sync queues (after_calls history w)).world.allocator
  frame-sound = frame-flushed.sound

  -- its entities are those whose handle is alive
  pub frame-living : AreLiving (sync queues (after_calls history w)).world.allocator
      (sync queues (after_calls history w)).world.entities
  frame-living = frame-flushed.living

-- it gives what was never given
pub frame-given : (queues : List (List Command)) (history : List Call) (w : World)
    (given : List Handle) → IsSound w.allocator → AreLiving w.allocator w.entities
    → IsLegal w.allocator history → AreSpent w.allocator given
    → AreSpent (sync queues (after_calls history w)).world.allocator (given ++ given_in history)
frame-given queues history w given sound living legal once =
    (after_queues-keeps (IsOnTheWay (given ++ given_in history)) (on_the_way-kept _) 0 queues
    (applied (after_births queues (after_calls history w)) [])
    (births-flushed queues history w sound living, search (rules, flush-given, history-given))).1

-- ---- at the start

-- nothing was given
pub opening-given : (limits : Limits) → AreSpent (opening limits) []
opening-given limits = search (rules, All-nil)

pub first_world-sound : (limits : Limits) → AreLimits limits
    → IsSound (first_world limits).allocator
first_world-sound limits ok = opening-sound limits ok

pub first_world-living : (limits : Limits)
    → AreLiving (first_world limits).allocator (first_world limits).entities
first_world-living limits = keys-empty
