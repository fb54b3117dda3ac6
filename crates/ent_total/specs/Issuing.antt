-- What contracts see of a world in a phase, and of its reservers, which issue commands in it.
use Rattle.std.specs.Prelude.{◌≡◌, ℕ, List, [], ◌∷◌, ◌++◌, Result, Ok, Err, refl, map}
use Rattle.std.specs.Coded.{Coded, code_by, coded×, coded_ℕ}
use Rattle.std.proofs.Common.{Vec, Global}
use Rattle.ent_alloc.specs.declared.refused.Refused.TheVariants.{Space, Quota}
use Rattle.ent_alloc.specs.declared.reserve_error.ReserveError.{ReserveError}
use Rattle.ent_alloc.specs.declared.reserve_error.ReserveError.TheVariants as fault
use Rattle.ent_handle.specs.Handle.{Handle}
use Rattle.ent_shared.specs.Ending.{EndsWithAll, EndsWithSome}
use Rattle.ent_shared.specs.Phase.{Shared, Reserver as SharedReserver, IsOf}
use Rattle.ent_shared.specs.Replies.{IsReturned}
use Rattle.ent_queue.specs.Command.{Command}
use Rattle.ent_queue.specs.Reserving.{Gains}
use Rattle.ent_world.specs.OpenWorld.{OpenWorld as Opened, View, open_world_code as opened_code}
use Rattle.ent_world.specs.World.{World, IsWorld}
use Rattle.ent_total.specs.Batch.{Queues}
use Rattle.ent_total.specs.Phases.{Reserver}
use Rattle.ent_total.specs.declared.world.World.{World as NumberedWorld}

-- the world that is open, its number, and how many entities were spawned in it since the last flush
pub record OpenWorld : Type 0 where
  pub world : Opened
  pub of_world : ℕ
  pub spawned : ℕ

-- what a caller has: its right to reserve, and the commands that it has issued
abbrev pub Issuer : Type 0
Issuer = SharedReserver × List Command

-- a reserver of a world's phase
abbrev pub Commands : Type 0
Commands = Reserver OpenWorld Issuer

-- the shared allocator of its world, its own right to reserve from it, and its commands so far
abbrev pub shared_of : Commands → Shared
shared_of c = c.source.world.shared

abbrev pub reserver_of : Commands → SharedReserver
reserver_of c = c.reserver.0

abbrev pub queue_of : Commands → List Command
queue_of c = c.reserver.1

-- the handles that a spawn returned
abbrev pub handle_in : {E : Type 0} → Result Handle E → List Handle
handle_in (Ok h) = h ∷ []
handle_in (Err why) = []

abbrev pub handles_in : {E : Type 0} → Result (Vec Handle Global) E → List Handle
handles_in (Ok hs) = hs.items
handles_in (Err why) = []

-- with these commands instead, or with one more
abbrev pub with_queue : Commands → List Command → Commands
with_queue c queue = record c { reserver = (reserver_of c, queue) }

abbrev pub issued : Commands → Command → Commands
issued c command = with_queue c (queue_of c ++ command ∷ [])

-- a caller that has issued nothing
abbrev pub new_issuer : SharedReserver → Issuer
new_issuer reserver = (reserver, [])

-- the rights to reserve of these callers, and their queues
abbrev pub reservers_in : List Issuer → List SharedReserver
reservers_in callers = map (λ (c : Issuer). c.0) callers

abbrev pub queues_in : List Issuer → List (List Command)
queues_in callers = map (λ (c : Issuer). c.1) callers

-- what systems see of the world
abbrev pub view_of : OpenWorld → View
view_of w = record { phase = w.world.phase; entities = w.world.entities }

-- Commands were added, and the reserver has gained their reservations and no others. Nothing else
-- has changed.
pub record Extends (before after : Commands) : Type 0 where
  pub number : after.number ≡ before.number
  pub source : after.source ≡ before.source
  pub ready : IsOf (shared_of after) (reserver_of after)
  pub added : List Command
  pub queue : queue_of after ≡ queue_of before ++ added
  pub gains : Gains (reserver_of before).own added (reserver_of after).own

-- A refusal is the result of a request for n handles, unless memory ran out before.
abbrev pub IsRefused : Shared → SharedReserver → SharedReserver → ℕ → ReserveError → Type 0
IsRefused shared before after n (fault.Space wanted left) =
    IsReturned shared before after n (Err (Space wanted left))
IsRefused shared before after n (fault.Quota left) =
    IsReturned shared before after n (Err (Quota left))
IsRefused shared before after n fault.Memory = Unit {0}

-- The world is the one that was opened, but for its allocator.
pub record IsWorldOf (opened : Opened) (after : World) : Type 0 where
  pub phase : after.phase ≡ opened.phase
  pub entities : after.entities ≡ opened.entities
  pub world : IsWorld after

-- The phase ended with all its reservers, or with those that are returned.
pub record IsClosed (opened : Opened) (returned : List SharedReserver) (after : World)
    : Type 0 where
  pub same : IsWorldOf opened after
  pub ended : EndsWithAll opened.shared returned after.allocator

pub record IsClosedLost (opened : Opened) (returned : List SharedReserver) (after : World)
    : Type 0 where
  pub same : IsWorldOf opened after
  pub ended : EndsWithSome opened.shared returned after.allocator

-- A phase of a world ended with these callers: the world, which is closed so, and their queues, in
-- the order of the callers.
pub record EndsWith (Closed : Opened → List SharedReserver → World → Type 0) (w : OpenWorld)
    (callers : List Issuer) (end : NumberedWorld × Queues) : Type 0 where
  pub world : Closed w.world (reservers_in callers) end.0.world
  pub number : end.0.number ≡ w.of_world
  pub spawned : end.0.spawned ≡ w.spawned
  pub queues : end.1 ≡ record { world = w.of_world; queues = queues_in callers }

-- it is stored as the tuple of its parts
abbrev pub open_world_code : Coded OpenWorld
open_world_code =
    code_by (Opened × (ℕ × ℕ)) (coded× opened_code (coded× coded_ℕ coded_ℕ))
    (λ w. (w.world, (w.of_world, w.spawned)))
    (λ t. record { world = t.0; of_world = t.1.0; spawned = t.1.1 }) (λ _. refl)
