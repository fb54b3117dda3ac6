-- What the end of a phase says, of the phase and of its callers. The dealer's reservation is the
-- first one of all, and the others are a history of their own.
use Rattle.ent_blocks.proofs.Common.{rules, ◌≡◌, ◌≢◌, ◌∙◌, ◌+◌, ◌≤◌, ◌<ℤ◌, List, [], ◌∷◌, ◌↔◌}
use Rattle.ent_blocks.proofs.Common.{length, take, drop, sum, All, AllPairs, Contains, All-nil}
use Rattle.ent_blocks.proofs.Common.{All-cons, All-head, All-tail, Handle, Allocator, after_take}
use Rattle.ent_blocks.proofs.Common.{before_requests, after_history-takes, AllPairs-across, dealt}
use Rattle.ent_blocks.proofs.Common.{Record, own_reservations, reservations_of, history_of}
use Rattle.ent_blocks.proofs.Common.{Respects, IsReserverOf, Overflow, Caller, IsCallerOf, IsPhase}
use Rattle.ent_blocks.proofs.Common.{IsInOrder, past_of, past_records, past_history, refl, subst, ℕ}
use Rattle.ent_blocks.proofs.Common.{zero, suc, ◌≤ℤ◌, ℤ, All-append, All-weaker, AllPairs-right}
use Rattle.ent_blocks.proofs.Common.{after_take-none, Reservation, as_call, insert_reservation}
use Rattle.ent_blocks.proofs.Common.{own_of_all, all_sorted, IsDealer, HasDealt}
use Rattle.ent_alloc.specs.History as history
use Rattle.ent_blocks.proofs.PastEndings as ends

-- all that was reserved begins at this position or below it
abbrev pub AreBehind : ℤ → List Reservation → Type 0
AreBehind mark cs = All (λ (c : Reservation). c.high ≤ℤ mark) cs

pub all_behind : (mark : ℤ) (records : List Record)
    → All (λ (r : Record). AreBehind mark (own_reservations r.entries)) records
    → AreBehind mark (own_of_all records)
all_behind mark [] all = All-nil (λ (c : Reservation). c.high ≤ℤ mark)
all_behind mark (r ∷ records) all =
    let Q : Record → Type 0 = λ (r : Record). AreBehind mark (own_reservations r.entries) in
    All-append (λ (c : Reservation). c.high ≤ℤ mark) (own_reservations r.entries)
    (own_of_all records)
    (All-head Q r records all) (all_behind mark records (All-tail Q r records all))

inserted_first : (c : Reservation) (cs : List Reservation)
    → All (λ (d : Reservation). d.high <ℤ c.high) cs → insert_reservation c cs ≡ c ∷ cs
inserted_first c [] below = refl
inserted_first c (d ∷ ds) below = search (rules, All-head)

abbrev Falls : Reservation → Reservation → Type 0
Falls earlier later = later.high <ℤ earlier.high

-- what was reserved past the blocks, when the blocks are reserved
pub record Splits (s : Allocator) (d : ℕ) (dealer : Record) (records : List Record) : Type 0 where
  pub legal : history.IsLegal (after_take s d) (history_of records)
  pub after : history.after_history s (history_of (dealer ∷ records))
      ≡ history.after_history (after_take s d) (history_of records)
  pub falls : AllPairs (λ earlier later. later.high <ℤ earlier.high) (reservations_of records)
  pub in_order : (r : Record) → dealer.number ≢ r.number
      → Respects (reservations_of (dealer ∷ records)) r → IsInOrder (reservations_of records) r

module _ (s : Allocator) (dealer : Record) (records : List Record)
    (behind : AreBehind dealer.mark (own_of_all records)) where
  none_first : dealer.entries ≡ [] → reservations_of (dealer ∷ records) ≡ reservations_of records
  none_first nothing = search rules

  dealt_first : (d : ℕ) (h : HasDealt (suc d) dealer) → reservations_of (dealer ∷ records) ≡ h.call
      ∷ reservations_of records
  dealt_first d h =
      let mark = h.mark in
      let some = h.requested in
      let below : All (λ (c : Reservation). c.high <ℤ h.call.high) (own_of_all records) =
      search (rules, All-weaker) in
      let first =
      inserted_first h.call (reservations_of records)
      (all_sorted (λ (c : Reservation). c.high <ℤ h.call.high)
      (own_of_all records) below) in
      search (rules, h.entries, first)

  pub splits : (d : ℕ) → IsDealer d dealer → history.IsLegal s (history_of (dealer ∷ records))
      → AllPairs (λ earlier later. later.high <ℤ earlier.high) (reservations_of (dealer ∷ records))
      → Splits s d dealer records
  splits zero deals legal falls = search (rules, none_first, after_take-none)
  splits (suc d) h legal falls =
      let same = dealt_first d h in
      let from : history.IsLegal s (as_call h.call ∷ history_of records) = search (rules, same) in
      let behind =
      AllPairs-right Falls (h.call ∷ []) (reservations_of records)
      (subst (AllPairs Falls) same falls) in
      search (rules, same, h.requested)

-- what the shared allocator says at its close
pub record Closed (s : Allocator) (records : List Record) (a : Allocator) : Type 0 where
  pub legal : history.IsLegal s (history_of records)
  pub respects : All (Respects (reservations_of records)) records
  pub after : a ≡ history.after_history s (history_of records)
  pub falls : AllPairs (λ earlier later. later.high <ℤ earlier.high) (reservations_of records)
  pub numbers : AllPairs (λ r s. r.number ≢ s.number) records

pub record Ending (p : Overflow) (callers : List Caller) (a : Allocator) : Type 0 where
  pub legal : history.IsLegal (after_take p.shared.start (dealt p.blocks)) (past_history callers)
  pub in_order : All (IsInOrder (reservations_of (past_records callers))) (past_records callers)
  pub falls : AllPairs (λ earlier later. later.high <ℤ earlier.high)
      (reservations_of (past_records callers))
  pub handles : (h : Handle) → Contains (history.given_in (past_history callers)) h
      ↔ Contains (take (length (history.given_in (past_history callers)))
      (drop (dealt p.blocks) p.shared.start.pool)) h
  pub asked : a.asked ≡ dealt p.blocks + sum (history.requests_of (past_history callers))
  pub taken : length a.taken
      ≡ dealt p.blocks + length (history.given_in (past_history callers))
  pub back : before_requests a ≡ p.shared.start
  pub within : dealt p.blocks + length (history.given_in (past_history callers))
      ≤ length p.shared.start.pool
  pub none : sum (history.requests_of (past_history callers)) ≡ 0 → past_history callers ≡ []

pub own_past : (p : Overflow) (callers : List Caller) → All (IsCallerOf p) callers
    → All (IsReserverOf p.shared) (past_of callers)
own_past p [] own = All-nil (IsReserverOf p.shared)
own_past p (c ∷ callers) own =
    All-cons (IsReserverOf p.shared) c.past (past_of callers)
    (All-head (IsCallerOf p) c callers own).past
    (own_past p callers (All-tail (IsCallerOf p) c callers own))

behind_past : (p : Overflow) (callers : List Caller) → All (IsCallerOf p) callers
    → All (λ (r : Record). AreBehind p.dealer.own.mark (own_reservations r.entries))
    (past_records callers)
behind_past p [] own = search (rules, All-nil)
behind_past p (c ∷ callers) own =
    All-cons (λ (r : Record). AreBehind p.dealer.own.mark (own_reservations r.entries)) c.past.own
    (past_records callers) (λ k d lt. ((All-head (IsCallerOf p) c callers own).all k d lt).high)
    (behind_past p callers (All-tail (IsCallerOf p) c callers own))

pub ending : (p : Overflow) (callers : List Caller) (a : Allocator)
    → IsPhase p.shared p.dealer p.blocks → All (IsCallerOf p) callers
    → Closed p.shared.start (p.dealer.own ∷ past_records callers) a → Ending p callers a
ending p callers a is own closed =
    let s = p.shared.start in
    let d = dealt p.blocks in
    let records = past_records callers in
    let calls = past_history callers in
    let split : Splits s d p.dealer.own records = search (rules, splits, all_behind, behind_past) in
    let lie = is.lie in
    let last = closed.after ∙ split.after ∙ after_history-takes (after_take s d) calls in
    let N : Record → Record → Type 0 = λ r s. r.number ≢ s.number in
    let others : All (N p.dealer.own) records = All-head (λ r. All (N r) records) p.dealer.own []
    (AllPairs-across N (p.dealer.own ∷ []) records closed.numbers) in
    let all : List Record = p.dealer.own ∷ records in
    let respects = All-tail (Respects (reservations_of all)) p.dealer.own records closed.respects in
    let in_order : All (IsInOrder (reservations_of records)) records = λ k r lt.
    split.in_order _ (others k r lt) (respects k r lt) in
    search (
      rules,
      last,
      lie,
      split,
      ends.same_handles s,
      ends.all_asked s,
      ends.long s,
      ends.taken_back s,
      ends.within s,
      ends.some_requested,
    )
