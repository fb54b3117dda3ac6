-- What a phase of a shared allocator ends with, as one fact: each field is a clause of
-- `Shared::close` or `Shared::close_lost`. For callers that cite it whole.
use Rattle.std.specs.Prelude.{◌≡◌, ◌≢◌, ◌↔◌, ◌⊎◌, ◌+◌, ◌*◌, ◌≤◌, ◌≤ℤ◌, ◌<ℤ◌, List}
use Rattle.std.specs.Prelude.{All, AllPairs, Contains, length, sum_by}
use Rattle.ent_handle.specs.Handle.{Handle}
use Rattle.ent_alloc.specs.Limits.{quota}
use Rattle.ent_alloc.specs.Sequential.{Allocator, cursor, after_flush}
use Rattle.ent_alloc.specs.History.{IsLegal, after_history, given_in}
use Rattle.ent_alloc.specs.Sound.{IsLive}
use Rattle.ent_shared.specs.Order.{reservations_of, history_of, handles_given, Respects}
use Rattle.ent_shared.specs.Order.{handles_of, own_of_all}
use Rattle.ent_shared.specs.Record.{requested_by}
use Rattle.ent_shared.specs.Phase.{Shared, Reserver, records_of, after_loss}

-- The phase ended with all its reservers. Their reservations, each once, form one history that is
-- legal and respects each reserver. No handle was given twice, and none was alive. A flush brings
-- to life exactly what was given.
pub record EndsWithAll (opened : Shared) (returned : List Reserver) (after : Allocator)
    : Type 0 where
  pub legal : IsLegal opened.start (history_of (records_of returned))
  pub respects : All (Respects (reservations_of (records_of returned))) (records_of returned)
  pub after_is : after ≡ after_history opened.start (history_of (records_of returned))
  pub falls : AllPairs (λ earlier later. later.high <ℤ earlier.high)
      (reservations_of (records_of returned))
  pub numbers : AllPairs (λ r s. r.number ≢ s.number) (records_of returned)
  pub distinct : AllPairs (λ g h. g ≢ h) (given_in (history_of (records_of returned)))
  pub not_live : All (λ h. ¬ (IsLive opened.start h))
      (given_in (history_of (records_of returned)))
  pub brings_to_life : (h : Handle) → IsLive (after_flush after) h
      ↔ (IsLive opened.start h ⊎ Contains (given_in (history_of (records_of returned))) h)

-- The phase ended with those of its reservers that are returned. A front of the pool is reserved.
-- It counts what these have requested, and of the others no more than their quota. It has all
-- handles that these got: they differ, and none was alive. A flush brings to life exactly what is
-- reserved. If all are returned, it counts exactly what they have requested, and the cursor is
-- where their history leaves it.
pub record EndsWithSome (opened : Shared) (returned : List Reserver) (after : Allocator)
    : Type 0 where
  pub after_is : after ≡ after_loss opened.start after.asked
  pub least : sum_by (λ (r : Reserver). requested_by r.own) returned ≤ after.asked
  pub most : sum_by (λ (r : Reserver). r.own.left) returned + after.asked ≤ opened.count * quota
  pub reached : All (λ (r : Reserver). cursor after ≤ℤ r.own.mark) returned
  pub asked : length returned ≡ opened.count
      → sum_by (λ (r : Reserver). requested_by r.own) returned ≡ after.asked
  pub whole : length returned ≡ opened.count
      → cursor after ≡ cursor (after_history opened.start (history_of (records_of returned)))
  pub given : All (λ (r : Reserver). All (Contains after.taken) (handles_given r.own)) returned
  pub distinct : AllPairs (λ g h. g ≢ h) (handles_of (own_of_all (records_of returned)))
  pub not_live : All (λ h. ¬ (IsLive opened.start h)) after.taken
  pub brings_to_life : (h : Handle) → IsLive (after_flush after) h
      ↔ (IsLive opened.start h ⊎ Contains after.taken h)
