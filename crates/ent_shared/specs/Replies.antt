-- What a reservation returns.
use Rattle.std.specs.Prelude.{◌≡◌, ℕ, ◌<◌, ◌≤◌, ℤ, ◌≤ℤ◌, List, [], Result, Ok, Err}
use Rattle.ent_handle.specs.Handle.{Handle}
use Rattle.ent_alloc.specs.declared.space.Space.{Space}
use Rattle.ent_alloc.specs.Sequential.{pool_at, reply_from}
use Rattle.ent_alloc.specs.declared.refused.Refused.{Refused}
use Rattle.ent_alloc.specs.declared.refused.Refused.TheVariants.{Space as OutOfSpace, Quota}
use Rattle.ent_shared.specs.Record.{reservation_at, after_reservation}
use Rattle.ent_shared.specs.Phase.{Shared, Reserver}

-- the result says what the reply says
abbrev pub Tells : Result (List Handle) Refused → Result (List Handle) Space → Type 0
Tells (Ok handles) reply = reply ≡ Ok handles
Tells (Err (OutOfSpace wanted left)) reply = reply ≡ Err (record { wanted = wanted; left = left })
Tells (Err (Quota left)) reply = ⊥

-- A reserver has made one more reservation, of n handles.
pub record Reserves (shared : Shared) (old new : Reserver) (n : ℕ)
    (returned : Result (List Handle) Refused) : Type 0 where
  -- the cursor that its step found, which is the mark or lower
  pub high : ℤ
  pub at_mark : high ≤ℤ old.own.mark
  -- the record ends with it, and nothing else has changed
  pub after : new ≡ record old { own = after_reservation old.own high n }
  -- the result is the reply that is recorded
  pub recorded : Tells returned (reservation_at old.own high n).reply
  -- and that is the reply of an allocator whose cursor is there
  pub reply : (reservation_at old.own high n).reply
      ≡ reply_from shared.start.made (pool_at shared.start high) n

-- The result is that of a request for n handles.
pub record IsReturned (shared : Shared) (before after : Reserver) (n : ℕ)
    (reply : Result (List Handle) Refused) : Type 0 where
  pub quota : before.own.left < n → (reply ≡ Err (Quota before.own.left)) × (after ≡ before)
  pub nothing : n ≡ 0 → (reply ≡ Ok []) × (after ≡ before)
  pub gains : 0 < n → n ≤ before.own.left → Reserves shared before after n reply
