-- What a reserver was given is recorded, and what a spawn returns is the reply of a reservation, as
-- each of its cases.
use Rattle.ent_total.proofs.Common.{◌≡◌, ◌∙◌, ap, sym, ℕ, List, [], ◌∷◌, ◌++◌, refl, Vec, Global, Result}
use Rattle.ent_total.proofs.Common.{append-nil}
use Rattle.ent_total.proofs.Common.{Ok, Err, IfOk, IfErr, OnErr, IsErrOf, Handle}
use Rattle.ent_total.proofs.Common.{listed_alone}
use Rattle.ent_total.proofs.Common.{Refused, Space, Quota, handles_given, Shared, Reserver}
use Rattle.ent_total.proofs.Common.{given_more, given_no_more, ReserveError, IsReturned, IsRefused}
use Rattle.ent_total.proofs.Common.{queued, as_list}
use Rattle.ent_queue.proofs.Gaining.{gains_added}
use Rattle.ent_queue.specs.Commands.{output_of, reserver_of as lent_to}
use Rattle.ent_queue.specs.OfShared.{Issued}
use Rattle.ent_queue.specs.OfShared as issued
use Rattle.ent_shared.specs.Phase.{IsOf}
use Rattle.ent_total.specs.Issuing.{Commands, Extends, handle_in, handles_in, queue_of}
use Rattle.ent_total.specs.Issuing.{reserver_of, shared_of}
use Rattle.ent_alloc.specs.declared.reserve_error.ReserveError.TheVariants as fault

module _ (s : Shared) (b a : Reserver) where
  abbrev Records : List Handle → Type 0
  Records given = handles_given a.own ≡ handles_given b.own ++ given

  module _ (n : ℕ) where
    unrecorded : {X : Type 0} (r : Result X ReserveError)
        → ((why : Refused) → r ≡ queued (Err why) → IsReturned s b a n (Err why))
        → (IsErrOf r fault.Memory → a ≡ b) → OnErr r (Records [])
    unrecorded (Ok x) replies memory = tt
    unrecorded (Err (fault.Space wanted left)) replies memory =
        given_no_more s b a n _ (replies (Space wanted left) refl) ∙ sym (append-nil _)
    unrecorded (Err (fault.Quota left)) replies memory =
        given_no_more s b a n _ (replies (Quota left) refl) ∙ sym (append-nil _)
    unrecorded (Err fault.Memory) replies memory =
        ap (λ (r : Reserver). handles_given r.own) (memory refl) ∙ sym (append-nil _)

    pub recorded_many : (r : Result (Vec Handle Global) ReserveError)
        → ((reply : Result (List Handle) Refused) → as_list r ≡ queued reply
        → IsReturned s b a n reply) → (IsErrOf r fault.Memory → a ≡ b) → Records (handles_in r)
    recorded_many (Ok hs) replies memory =
        given_more s b a n hs.items (replies (Ok hs.items) refl)
    recorded_many (Err why) replies memory =
        unrecorded (Err why) (λ refused is. replies (Err refused) (ap as_list is)) memory

  abbrev RepliesOne : Result Handle ReserveError → Type 0
  RepliesOne r = (reply : Result Handle Refused) → r ≡ queued reply
      → IsReturned s b a 1 (listed_alone reply)

  pub given_one : (r : Result Handle ReserveError) → RepliesOne r
      → IfOk r (λ h. IsReturned s b a 1 (Ok (h ∷ [])))
  given_one (Ok h) replies = replies (Ok h) refl
  given_one (Err why) replies = tt

  pub refused_one : (r : Result Handle ReserveError) → RepliesOne r → IfErr r (IsRefused s b a 1)
  refused_one (Ok h) replies = tt
  refused_one (Err (fault.Space wanted left)) replies = replies (Err (Space wanted left)) refl
  refused_one (Err (fault.Quota left)) replies = replies (Err (Quota left)) refl
  refused_one (Err fault.Memory) replies = tt

  pub recorded_one : (r : Result Handle ReserveError) → RepliesOne r
      → (IsErrOf r fault.Memory → a ≡ b) → Records (handle_in r)
  recorded_one (Ok h) replies memory = given_more s b a 1 (h ∷ []) (replies (Ok h) refl)
  recorded_one (Err why) replies memory =
      unrecorded 1 (Err why) (λ refused is. replies (Err refused) is) memory

-- What a caller issued of a phase.
pub extends_issued : (a b : Issued) → issued.Extends a b → (before after : Commands)
    → after.number ≡ before.number → after.source ≡ before.source
    → IsOf (shared_of after) (reserver_of after) → output_of a ≡ queue_of before
    → output_of b ≡ queue_of after → lent_to a ≡ reserver_of before
    → lent_to b ≡ reserver_of after → Extends before after
extends_issued a b e before after number source ready queue_before queue_after reserver_before
    reserver_after = record {
      number = number;
      source = source;
      ready = ready;
      added = e.adds.added;
      queue = rw (queue_before, queue_after) at e.adds.queue;
      gains = rw (reserver_before, reserver_after) at (gains_added a b e);
    }
