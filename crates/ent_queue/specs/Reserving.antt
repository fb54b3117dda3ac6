-- What the commands of a queue have asked of the reserver that was lent.
use Rattle.std.specs.Prelude.{◌≡◌, ℕ, ◌+◌, ◌-◌, ◌<◌, ◌≤◌, List, [], ◌∷◌, ◌++◌, length, map, Result}
use Rattle.std.specs.Prelude.{Ok, Err}
use Rattle.std.specs.List.{All, flat_map, sum_by}
use Rattle.std.proofs.Common.{Vec, Global}
use Rattle.ent_handle.specs.Handle.{Handle}
use Rattle.ent_alloc.specs.declared.space.Space.{Space as OutOfSpace}
use Rattle.ent_shared.specs.declared.record.Reservation.{Reservation}
use Rattle.ent_shared.specs.declared.record.RecordEntry.TheVariants.{Own}
use Rattle.ent_shared.specs.declared.record.Record.{Record}
use Rattle.ent_alloc.specs.declared.refused.Refused.{Refused as Refusal}
use Rattle.ent_alloc.specs.declared.refused.Refused.TheVariants.{Space, Quota}
use Rattle.ent_alloc.specs.declared.reserve_error.ReserveError.{ReserveError as QueueFault}
use Rattle.ent_alloc.specs.declared.reserve_error.ReserveError.TheVariants as fault
use Rattle.ent_alloc.specs.Fault.{as_reserve_error}
use Rattle.ent_alloc.specs.Serving.{Request}
use Rattle.ent_queue.specs.Command.{Command, Spawn, SpawnMany, Insert, Remove, Despawn, Refused}

-- the requests that a command represents
abbrev pub requests_of : Command → List Request
requests_of (Spawn h items) = (1, Ok (h ∷ [])) ∷ []
requests_of (SpawnMany hs items) = (length hs, Ok hs) ∷ []
requests_of (Insert h items) = []
requests_of (Remove h id) = []
requests_of (Despawn h) = []
requests_of (Refused wanted why) = (wanted, Err why) ∷ []

-- those of them that are reservations of a shared allocator: a request for no handle is none, nor
-- is one for more than the quota
abbrev pub stands_for : Command → List (ℕ × Result (List Handle) OutOfSpace)
stands_for (Spawn h items) = (1, Ok (h ∷ [])) ∷ []
stands_for (SpawnMany [] items) = []
stands_for (SpawnMany (h ∷ hs) items) = (length (h ∷ hs), Ok (h ∷ hs)) ∷ []
stands_for (Insert h items) = []
stands_for (Remove h id) = []
stands_for (Despawn h) = []
stands_for (Refused wanted (Space same left)) =
    (wanted, Err (record { wanted = same; left = left })) ∷ []
stands_for (Refused wanted (Quota left)) = []

-- how much quota it has cost
abbrev pub cost : Command → ℕ
cost c = sum_by (λ (request : ℕ × Result (List Handle) OutOfSpace). request.0) (stands_for c)

-- It fits the quota that was left; a refusal for lack of quota says what was left, and more was
-- requested.
abbrev pub FitsQuota : ℕ → Command → Type 0
FitsQuota left (Refused wanted (Quota rest)) = (rest ≡ left) × (left < wanted)
FitsQuota left (Refused wanted (Space same rest)) = wanted ≤ left
FitsQuota left (Spawn h items) = 1 ≤ left
FitsQuota left (SpawnMany hs items) = length hs ≤ left
FitsQuota left (Insert h items) = Unit {0}
FitsQuota left (Remove h id) = Unit {0}
FitsQuota left (Despawn h) = Unit {0}

-- each command at its turn
abbrev pub FitQuota : ℕ → List Command → Type 0
FitQuota left [] = Unit {0}
FitQuota left (c ∷ cs) = FitsQuota left c × FitQuota (left - cost c) cs

-- The reserver has gained the reservations of these commands and no others, in order.
pub record Gains (before : Record) (commands : List Command) (after : Record) : Type 0 where
  pub start : after.start ≡ before.start
  pub number : after.number ≡ before.number
  pub reservations : List Reservation
  pub entries : after.entries ≡ before.entries ++ map Own reservations
  pub requests : map (λ (r : Reservation). (r.requested, r.reply)) reservations
      ≡ flat_map stands_for commands
  pub callers : All (λ (r : Reservation). r.caller ≡ before.number) reservations
  pub left : after.left + sum_by cost commands ≡ before.left
  pub within : FitQuota before.left commands

-- the result of a reservation as the queue returns it
abbrev pub queued : {X : Type 0} → Result X Refusal → Result X QueueFault
queued (Ok x) = Ok x
queued (Err why) = Err (as_reserve_error why)

-- the same with the handles in a vector
abbrev pub as_list : Result (Vec Handle Global) QueueFault → Result (List Handle) QueueFault
as_list (Ok handles) = Ok handles.items
as_list (Err fault) = Err fault

-- what a fault adds to the queue
abbrev pub refused_by : ℕ → QueueFault → List Command
refused_by wanted (fault.Space same left) = Refused wanted (Space same left) ∷ []
refused_by wanted (fault.Quota left) = Refused wanted (Quota left) ∷ []
refused_by wanted fault.Memory = []
