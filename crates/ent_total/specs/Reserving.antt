-- What a request returns, for any source.
use Rattle.std.specs.Prelude.{◌≡◌, ℕ, List, ◌++◌, length, flat_map, Result, Ok}
use Rattle.ent_handle.specs.Handle.{Handle}
use Rattle.ent_alloc.specs.Serving.{AreServed}
use Rattle.ent_alloc.specs.declared.refused.Refused.{Refused}
use Rattle.ent_alloc.specs.declared.refused.Refused.TheVariants as refused
use Rattle.ent_alloc.specs.declared.reserve_error.ReserveError.{ReserveError}
use Rattle.ent_alloc.specs.declared.reserve_error.ReserveError.TheVariants as failed
use Rattle.ent_log.specs.declared.entry.Entry.{Entry}
use Rattle.ent_queue.specs.Logging.{request_of}
use Rattle.ent_total.specs.Phases.{Reserver}

-- this is true of the refusal, if it is one of the source
abbrev pub IfRefusal : ReserveError → (Refused → Type 0) → Type 0
IfRefusal (failed.Space wanted left) P = P (refused.Space wanted left)
IfRefusal (failed.Quota left) P = P (refused.Quota left)
IfRefusal failed.Memory P = ⊥

module _ {S R : Type 0} (may_reply : S → R → R → ℕ → Result (List Handle) Refused → Type 0) where
  -- This is how the source replied to a request for n handles. Nothing has changed except what the
  -- reserver reserves with.
  pub record Replies (before after : Reserver S R) (n : ℕ) (reply : Result (List Handle) Refused)
      : Type 0 where
    pub same : after ≡ record before { reserver = after.reserver }
    pub replied : may_reply before.source before.reserver after.reserver n reply

  -- That many handles were reserved, and the list has them after those that it had before.
  pub record Lists (before after : Reserver S R) (n : ℕ) (old new : List Handle) : Type 0 where
    pub given : List Handle
    pub behind : new ≡ old ++ given
    pub many : length given ≡ n
    pub replies : Replies before after n (Ok given)

  -- A log was filled from nothing on. Its spawns are the requests that were made with the reserver,
  -- one after the other, and nothing has changed except what the reserver reserves with.
  pub record Fills {C : Type 0} (before after : Reserver S R) (log : List (Entry C)) : Type 0 where
    pub same : after ≡ record before { reserver = after.reserver }
    pub served : AreServed (may_reply before.source) before.reserver (flat_map request_of log)
        after.reserver
