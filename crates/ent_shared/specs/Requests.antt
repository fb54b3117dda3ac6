-- What requests ask of a shared allocator: which of them are reservations, what they cost of the
-- quota, and what the record of a reserver gains by them.
use Rattle.std.specs.Prelude.{◌≡◌, ℕ, zero, suc, ◌+◌, ◌-◌, ◌<◌, ◌≤◌, List, [], ◌∷◌, ◌++◌, map}
use Rattle.std.specs.Prelude.{Result, Ok, Err}
use Rattle.std.specs.List.{All, flat_map, sum_by}
use Rattle.ent_handle.specs.Handle.{Handle}
use Rattle.ent_alloc.specs.Serving.{Request}
use Rattle.ent_alloc.specs.declared.refused.Refused.TheVariants.{Space, Quota}
use Rattle.ent_alloc.specs.declared.space.Space.{Space as OutOfSpace}
use Rattle.ent_shared.specs.Order.{handles_given}
use Rattle.ent_shared.specs.declared.record.Record.{Record}
use Rattle.ent_shared.specs.declared.record.RecordEntry.TheVariants.{Own}
use Rattle.ent_shared.specs.declared.record.Reservation.{Reservation}

-- what was requested, and the reply, of a request for handles that were given
abbrev served_as : ℕ → List Handle → List (ℕ × Result (List Handle) OutOfSpace)
served_as zero handles = []
served_as (suc n) handles = (suc n, Ok handles) ∷ []

-- The reservation that a request represents. A request for no handles is none, and neither is one
-- that the quota refuses.
abbrev pub stands_for : Request → List (ℕ × Result (List Handle) OutOfSpace)
stands_for (n, Ok handles) = served_as n handles
stands_for (n, Err (Space wanted left)) = (n, Err (record { wanted = wanted; left = left })) ∷ []
stands_for (n, Err (Quota left)) = []

-- how much quota it has cost
abbrev pub cost : Request → ℕ
cost request = sum_by (λ (one : ℕ × Result (List Handle) OutOfSpace). one.0) (stands_for request)

-- It fits the quota that was left. A refusal for lack of quota says what was left, and more was
-- requested.
abbrev pub FitsQuota : ℕ → Request → Type 0
FitsQuota left (n, Ok handles) = n ≤ left
FitsQuota left (n, Err (Space wanted rest)) = n ≤ left
FitsQuota left (n, Err (Quota rest)) = (rest ≡ left) × (left < n)

-- each request at its turn
abbrev pub FitQuota : ℕ → List Request → Type 0
FitQuota left [] = Unit {0}
FitQuota left (request ∷ requests) =
    FitsQuota left request × FitQuota (left - cost request) requests

-- the handles that it was given
abbrev pub handles_in : Request → List Handle
handles_in (n, Ok handles) = handles
handles_in (n, Err why) = []

-- The reserver has made exactly the reservations that these requests represent, in order, and has
-- met no other reserver. So it was given the handles of their replies.
pub record Gains (before : Record) (requests : List Request) (after : Record) : Type 0 where
  pub start : after.start ≡ before.start
  pub number : after.number ≡ before.number
  pub reservations : List Reservation
  pub entries : after.entries ≡ before.entries ++ map Own reservations
  pub calls : map (λ (r : Reservation). (r.requested, r.reply)) reservations
      ≡ flat_map stands_for requests
  pub callers : All (λ (r : Reservation). r.caller ≡ before.number) reservations
  pub left : after.left + sum_by cost requests ≡ before.left
  pub within : FitQuota before.left requests
  pub given : handles_given after ≡ handles_given before ++ flat_map handles_in requests
