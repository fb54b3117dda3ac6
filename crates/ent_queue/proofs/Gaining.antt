-- How the record of a reserver of a shared allocator gains what commands have requested with it.
use Rattle.ent_queue.proofs.Common.{rules, ◌≡◌, refl, ℕ, ◌-◌, ◌<◌, ◌≤◌, ℤ, List, [], ◌∷◌, ◌++◌}
use Rattle.ent_queue.proofs.Common.{arith, ◌∙◌, subst, append_assoc, Ok, Err, inl, inr}
use Rattle.ent_queue.proofs.Common.{common_steps, flat_map-append, sum_by, All-nil, All-cons}
use Rattle.ent_queue.proofs.Common.{cases_lt, sum_by-append, Handle, Record, Refusal, Quota, Space}
use Rattle.ent_queue.proofs.Common.{Shared, Reserver, after_reservation, reservation_at, Command}
use Rattle.ent_queue.proofs.Common.{Refused, HasRange, SaysWanted, IsRefusal, stands_for, cost}
use Rattle.ent_queue.proofs.Common.{FitsQuota, FitQuota, Gains, IsReturned, refused_by}
use Rattle.ent_queue.proofs.Common.{as_reserve_error, map-append, length, Result, Spawn, SpawnMany}
use Rattle.ent_queue.proofs.Common.{Insert, Remove, Despawn, queued, Bundle, AreServed, requests_of}
use Rattle.ent_queue.proofs.Common.{served_parts, one_served, flat_map, Commands, Extends, Issues}
use Rattle.ent_queue.proofs.Common.{reserver_of, source_of}
use Rattle.ent_shared.specs.Phase.{IsOf}

pub gains_nothing : (r : Record) → Gains r [] r
gains_nothing r = grind (arith, common_steps)

-- a command that stands for no reservation
pub gains_none : (r : Record) (c : Command) → stands_for c ≡ [] → FitsQuota r.left c
    → Gains r (c ∷ []) r
gains_none r c none within = grind (arith, common_steps)

-- a command that stands for one reservation
pub gains_one : (r : Record) (high : ℤ) (n : ℕ) (c : Command) → n ≤ r.left
    → stands_for c ≡ (n, (reservation_at r high n).reply) ∷ [] → FitsQuota r.left c
    → Gains r (c ∷ []) (after_reservation r high n)
gains_one r high n c enough one within = record {
  start = refl;
  number = refl;
  reservations = reservation_at r high n ∷ [];
  entries = refl;
  requests = search (rules, one);
  callers = search (rules, All-cons, All-nil);
  left = search rules;
  within = (within, tt);
}

within_both : (left : ℕ) (cs ds : List Command) → FitQuota left cs
    → FitQuota (left - sum_by cost cs) ds → FitQuota left (cs ++ ds)
within_both left [] ds first second = search (rules)
within_both left (c ∷ cs) ds first second =
    grind (arith, common_steps, within_both (left - cost c) cs ds)

-- The commands of two queues, one after the other: so many queues of one reserver are added up.
pub gains_then : (a b c : Record) (cs ds : List Command) → Gains a cs b → Gains b ds c
    → Gains a (cs ++ ds) c
gains_then a b c cs ds first second = record {
  start = second.start ∙ first.start;
  number = second.number ∙ first.number;
  reservations = first.reservations ++ second.reservations;
  entries = search (rules, append_assoc, map-append);
  requests = search (rules, map-append, flat_map-append);
  callers = grind (arith, common_steps);
  left = omega (arith, first.left, second.left, sum_by-append cost cs ds);
  within =
      within_both a.left cs ds first.within
      (subst (λ n. FitQuota n ds) (omega (arith, first.left)) second.within);
}

module _ (shared : Shared) (before after : Reserver) (n : ℕ) where
  -- what was given
  pub served_gains : (hs : List Handle) (c : Command) → IsReturned shared before after n (Ok hs)
      → (0 < n → stands_for c ≡ (n, Ok hs) ∷ []) → (n ≡ 0 → hs ≡ [] → stands_for c ≡ [])
      → (n ≤ before.own.left → FitsQuota before.own.left c) → Gains before.own (c ∷ []) after.own
  served_gains hs c replied one none within =
      search (rules, cases_lt before.own.left n, cases_lt, gains_one, gains_none, replied)

  -- what was refused
  pub refused_gains : (why : Refusal) → IsReturned shared before after n (Err why)
      → Gains before.own (Refused n why ∷ []) after.own
  refused_gains (Space wanted left) replied = elim (cases_lt before.own.left n) [
    | inl short ↦ let no = (replied.quota short).0 in absurd (cc)
    | inr enough ↦ elim (cases_lt 0 n) [
      | inl some ↦ let g = replied.gains some enough in search (rules, gains_one, g)
      | inr nothing ↦ let no = (replied.nothing (omega arith)).0 in absurd (cc)
    ]
  ]
  refused_gains (Quota left) replied = search (rules, cases_lt, gains_none)

pub is_refusal : (n : ℕ) (why : Refusal) → SaysWanted n why → HasRange why → IsRefusal n why
is_refusal n it says range = search rules

pub refused_by_fault : (n : ℕ) (why : Refusal)
    → refused_by n (as_reserve_error why) ≡ Refused n why ∷ []
refused_by_fault n it = search rules

pub queued_ok : (reply : Result (List Handle) Refusal) (hs : List Handle) → Ok hs ≡ queued reply
    → Ok hs ≡ reply
queued_ok it hs e = search rules

many_request : (hs : List Handle) (items : Bundle) (n : ℕ) → length hs ≡ n → 0 < n
    → stands_for (SpawnMany hs items) ≡ (n, Ok hs) ∷ []
many_request hs items n e some = search rules

-- what one command has gained, by the replies to its requests
gains_at : (shared : Shared) (before after : Reserver) (c : Command)
    → AreServed (IsReturned shared) before (requests_of c) after
    → Gains before.own (c ∷ []) after.own
gains_at shared before after (Spawn h items) served =
    served_gains shared before after 1 (h ∷ []) (Spawn h items)
    (one_served (IsReturned shared) served) (λ some. refl) (λ none. absurd (omega (arith, none)))
    (λ enough. enough)
gains_at shared before after (SpawnMany hs items) served =
    served_gains shared before after (length hs) hs (SpawnMany hs items)
    (one_served (IsReturned shared) served) (many_request hs items (length hs) refl)
    (λ none is. rw is refl) (λ enough. enough)
gains_at shared before after (Insert h items) served = search (rules, gains_none)
gains_at shared before after (Remove h id) served = search (rules, gains_none)
gains_at shared before after (Despawn h) served = search (rules, gains_none)
gains_at shared before after (Refused wanted why) served =
    refused_gains shared before after wanted why (one_served (IsReturned shared) served)

-- So the record has gained the reservations of commands that a shared allocator served, and no
-- others.
pub gains_of : (shared : Shared) (before after : Reserver) (commands : List Command)
    → AreServed (IsReturned shared) before (flat_map requests_of commands) after
    → Gains before.own commands after.own
gains_of shared before after [] served = search (rules, gains_nothing)
gains_of shared before after (c ∷ commands) served =
    let parts =
    served_parts (IsReturned shared) before after (requests_of c)
    (flat_map requests_of commands) served in
    gains_then _ _ _ (c ∷ []) commands (gains_at shared before parts.0 c parts.1)
    (gains_of shared parts.0 after commands parts.2)

-- So a reserver has gained the reservations of what was issued with it.
pub gains_added : (a b : Commands (List Command) Shared Reserver)
    (e : Extends Issues IsOf IsReturned a b)
    → Gains (reserver_of a).own e.adds.added (reserver_of b).own
gains_added a b e =
    gains_of (source_of a) (reserver_of a) (reserver_of b) e.adds.added
    (rw e.adds.requests_are at e.served)
