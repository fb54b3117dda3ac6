-- What a reservation and a meeting add to a record.
use Rattle.ent_shared.proofs.Common.{rules, ◌≡◌, ℕ, ◌+◌, ◌≤◌, ℤ, pos, ◌-ℤ◌, ◌≤ℤ◌, List, [], ◌∷◌}
use Rattle.ent_shared.proofs.Common.{◌++◌, length, refl, ap, arith, append-nil, add-zero}
use Rattle.ent_shared.proofs.Common.{common_steps, nat_le, cond, Bool, true, false, All, Contains}
use Rattle.ent_shared.proofs.Common.{int_min, All-head, All-tail, All-nil, All-cons, All-append}
use Rattle.ent_shared.proofs.Common.{All-weaker, Contains-append_left, Contains-push, sum_by-cons}
use Rattle.ent_shared.proofs.Common.{sum_by-append, ints, Allocator, cursor, pool_at, All-left}
use Rattle.ent_shared.proofs.Common.{All-right, Reservation, RecordEntry, Own, Met, Record, quota}
use Rattle.ent_shared.proofs.Common.{low, reservations_in, own_reservations, known_reservations}
use Rattle.ent_shared.proofs.Common.{requested_by, reservation_at, after_reservation, after_meeting}
use Rattle.ent_shared.proofs.Common.{floor_of, InOrder, IsKept}
use Rattle.ent_shared.proofs.Weighing.{all_one}

pub own-made : (es : List RecordEntry) (c : Reservation)
    → own_reservations (es ++ Own c ∷ []) ≡ own_reservations es ++ c ∷ []
own-made [] c = refl
own-made (Own d ∷ es) c = ap (λ ds. d ∷ ds) (own-made es c)
own-made (Met ds ∷ es) c = own-made es c

pub own-met : (es : List RecordEntry) (cs : List Reservation)
    → own_reservations (es ++ Met cs ∷ []) ≡ own_reservations es
own-met [] cs = refl
own-met (Own d ∷ es) cs = ap (λ ds. d ∷ ds) (own-met es cs)
own-met (Met ds ∷ es) cs = own-met es cs

pub known-more : (es : List RecordEntry) (e : RecordEntry)
    → known_reservations (es ++ e ∷ []) ≡ known_reservations es ++ reservations_in e
known-more [] e = append-nil (reservations_in e)
known-more (d ∷ es) e = grind (arith, common_steps, known-more es e)

pub quota-reserved : (r : Record) (high : ℤ) (n : ℕ) → n ≤ r.left → r.left + requested_by r ≡ quota
    → (after_reservation r high n).left + requested_by (after_reservation r high n) ≡ quota
quota-reserved r high n within adds_up =
    search (rules, sum_by-append, sum_by-cons, add-zero, own-made)

pub quota-met : (r met : Record) → r.left + requested_by r ≡ quota
    → (after_meeting r met).left + requested_by (after_meeting r met) ≡ quota
quota-met r met adds_up = search (rules, own-met)

-- own reservations are known
pub all_own : (P : Reservation → Type 0) (es : List RecordEntry) → All P (known_reservations es)
    → All P (own_reservations es)
all_own P [] all = All-nil P
all_own P (Own c ∷ es) all = search (rules, All-cons, All-head, All-tail, all_own P es)
all_own P (Met cs ∷ es) all = search (rules, All-right, all_own P es)

-- a reservation after all others
pub order-made : (es : List RecordEntry) (c : Reservation) → InOrder es
    → All (λ (d : Reservation). c.high ≤ℤ low d) (known_reservations es)
    → InOrder (es ++ Own c ∷ [])
order-made [] c order below = search (rules, All-nil)
order-made (e ∷ es) c order below =
    let P : Reservation → Type 0 = λ (d : Reservation). c.high ≤ℤ low d in
    let Q : Reservation → Type 0 = λ (later : Reservation).
    All (λ (earlier : Reservation). later.high ≤ℤ low earlier) (reservations_in e) in
    let first = All-left P (reservations_in e) (known_reservations es) below in
    let rest =
    order-made es c order.1 (All-right P (reservations_in e) (known_reservations es) below) in (
      rw (own-made es c) (All-append Q (own_reservations es) (c ∷ []) order.0 (all_one Q c first)),
      rest,
    )

pub order-met : (es : List RecordEntry) (cs : List Reservation) → InOrder es
    → InOrder (es ++ Met cs ∷ [])
order-met [] cs order = search (rules, All-nil)
order-met (e ∷ es) cs order = search (rules, own-met, order-met es cs order.1)

-- the least of a reservation that is lower than all others
lower_first : (a b c : ℤ) (served : Bool) → b ≤ℤ a
    → int_min a (cond served b c) ≡ cond served b (int_min a c)
lower_first a b c true le = grind (arith, ints)
lower_first a b c false le = refl

pub floor-made : (start : Allocator) (cs : List Reservation) (c : Reservation)
    → All (λ (d : Reservation). low c ≤ℤ low d) cs → low c ≤ℤ cursor start
    → floor_of start (cs ++ c ∷ [])
    ≡ cond (nat_le c.requested (length (pool_at start c.high))) (low c) (floor_of start cs)
floor-made start [] c below top = search (rules, ints)
floor-made start (d ∷ cs) c below top =
    let rest =
    floor-made start cs c (All-tail (λ (e : Reservation). low c ≤ℤ low e) d cs below) top in
    search (rules, lower_first, rest, below 0 d (omega arith))

-- a record stays kept while the cursor goes down and the log grows
pub kept_on : (start : Allocator) (at now : ℤ) (log more : List Reservation) (r : Record)
    → now ≤ℤ at → IsKept start at log r → IsKept start now (log ++ more) r
kept_on start at now log more r le k = search (rules, ints, All-weaker, Contains-append_left)

pub kept_reserved : (start : Allocator) (at : ℤ) (log : List Reservation) (n : ℕ) (r : Record)
    → n ≤ r.left → at ≤ℤ cursor start → IsKept start at log r
    → IsKept start (at -ℤ pos n) (log ++ reservation_at r at n ∷ []) (after_reservation r at n)
kept_reserved start at log n r within top k =
    let c : Reservation = reservation_at r at n in
    let es : List RecordEntry = r.entries in
    let mark = k.marks.mark in
    let below : All (λ (d : Reservation). at ≤ℤ low d) (known_reservations es) = λ i d lt.
    let h = k.marks.below i d lt in omega (arith, ints) in
    let Q : Reservation → Type 0 = λ (d : Reservation). (at -ℤ pos n) ≤ℤ low d in
    let lower : All Q (known_reservations es) = λ i d lt. let h = below i d lt in
    omega (arith, ints) in
    let K : Reservation → Type 0 = Contains (log ++ c ∷ []) in
    record {
      start_is = k.start_is;
      caller = grind (arith, common_steps, own-made, All-append, all_one);
      quota = record {
        quota = quota-reserved r at n within k.quota.quota;
        floor =
            rw (
              own-made es c,
              floor-made start (own_reservations es) c (all_own Q es lower) (omega (arith, ints)),
              k.start_is,
              k.quota.floor,
            ) refl;
      };
      marks = record {
        mark = omega (arith, ints);
        below =
            rw (known-more es (Own c)) (All-append Q _ _ lower (all_one Q c (omega (arith, ints))));
        order = order-made es c k.marks.order below;
        known =
            rw (known-more es (Own c))
            (All-append K _ _ (λ i d lt. Contains-append_left log (c ∷ []) _ (k.marks.known i d lt))
            (all_one K c (Contains-push log c)));
      };
    }

pub below_meeting : (r met : Record)
    → All (λ (c : Reservation). r.mark ≤ℤ low c) (known_reservations r.entries)
    → All (λ (c : Reservation). met.mark ≤ℤ low c) (known_reservations met.entries)
    → All (λ (c : Reservation). (after_meeting r met).mark ≤ℤ low c)
    (known_reservations (after_meeting r met).entries)
below_meeting r met mine theirs =
    let P : Reservation → Type 0 = λ (d : Reservation). int_min r.mark met.mark ≤ℤ low d in
    rw (known-more r.entries (Met (known_reservations met.entries))) (All-append P _ _ (λ i d lt.
    let h = mine i d lt in grind (arith, ints)) (λ i d lt. let h = theirs i d lt in
    grind (arith, ints)))

pub kept_met : (start : Allocator) (at : ℤ) (log : List Reservation) (r met : Record)
    → IsKept start at log r → IsKept start at log met → IsKept start at log (after_meeting r met)
kept_met start at log r met k m = record {
  start_is = k.start_is;
  caller = search (rules, own-met);
  quota = search (rules, own-met, quota-met);
  marks = record {
    mark = grind (arith, ints, k.marks.mark, m.marks.mark);
    below = below_meeting r met k.marks.below m.marks.below;
    order = order-met r.entries _ k.marks.order;
    known = rw (known-more r.entries (Met (known_reservations met.entries)))
        (All-append (Contains log) _ _ k.marks.known m.marks.known);
  };
}
