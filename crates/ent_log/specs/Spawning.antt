-- What a spawn returns of a reservation and enters for a refusal, and what the allocator does that
-- is asked for one.
use Rattle.std.specs.Prelude.{◌≡◌, ◌⊎◌, ◌<◌, ◌≤◌, ◌^◌, List, [], ◌∷◌, Result, Ok, Err}
use Rattle.std.specs.Prelude.{IfOk, IfErr}
use Rattle.ent_handle.specs.Handle.{Handle}
use Rattle.ent_alloc.specs.Entities.{Entities}
use Rattle.ent_alloc.specs.Fault.{as_reserve_error}
use Rattle.ent_alloc.specs.Sequential.{after_take, reply_to}
use Rattle.ent_alloc.specs.declared.refused.Refused.{Refused}
use Rattle.ent_alloc.specs.declared.refused.Refused.TheVariants as refused
use Rattle.ent_alloc.specs.declared.reserve_error.ReserveError.{ReserveError}
use Rattle.ent_alloc.specs.declared.reserve_error.ReserveError.TheVariants as failed
use Rattle.ent_log.specs.declared.entry.Entry.{Entry}
use Rattle.ent_log.specs.declared.entry.Entry.TheVariants as entry

-- the result of a reservation as a spawn returns it
abbrev pub returned : Result Handle Refused → Result Handle ReserveError
returned (Ok h) = Ok h
returned (Err why) = Err (as_reserve_error why)

-- what the log has of a spawn that returned this error
abbrev pub refused_by : {C : Type 0} → ReserveError → List (Entry C)
refused_by (failed.Space wanted left) = entry.Refused (refused.Space wanted left) ∷ []
refused_by (failed.Quota left) = entry.Refused (refused.Quota left) ∷ []
refused_by failed.Memory = []

-- An allocator was asked for one handle, and gave this reply.
pub record Requests (before : Entities) (reply : Result Handle Refused) (after : Entities)
    : Type 0 where
  pub given : IfOk reply (λ h. reply_to before.allocator 1 ≡ Ok (h ∷ []))
  -- it is refused only if no handle is left, or too many were requested since the last flush
  pub refused_of : IfErr reply (λ why. ((why ≡ refused.Space 1 0) × (before.allocator.pool ≡ []))
      ⊎ ((why ≡ refused.Quota 0) × (2 ^ 50 ≤ before.allocator.asked)))
  pub empty : before.allocator.asked < 2 ^ 50 → before.allocator.pool ≡ []
      → reply ≡ Err (refused.Space 1 0)
  -- it counts, unless too many were requested
  pub step : before.allocator.asked < 2 ^ 50 → after.allocator ≡ after_take before.allocator 1
  pub full : 2 ^ 50 ≤ before.allocator.asked → reply ≡ Err (refused.Quota 0)
  pub unchanged : 2 ^ 50 ≤ before.allocator.asked → after ≡ before
  pub rows : after.rows ≡ before.rows
