-- How the record of a reserver gains what was requested with it.
use Rattle.ent_shared.proofs.Common.{rules, ◌≡◌, refl, sym, ap, ◌∙◌, ℕ, zero, suc, ◌-◌, ◌<◌, ◌≤◌, ℤ}
use Rattle.ent_shared.proofs.Common.{List, [], ◌∷◌, ◌++◌, append-nil, append_assoc, arith}
use Rattle.ent_shared.proofs.Common.{common_steps, subst, sum_by, sum_by-append, Result, Ok, Err}
use Rattle.ent_shared.proofs.Common.{inl, inr, All-nil, All-cons, All-append, cases_lt, map-append}
use Rattle.ent_shared.proofs.Common.{flat_map-append, Handle, Record, Reservation, reservation_at}
use Rattle.ent_shared.proofs.Common.{after_reservation, handles_given, Shared, Reserver}
use Rattle.ent_alloc.specs.Serving.{AreServed, Request}
use Rattle.ent_alloc.specs.declared.refused.Refused.{Refused}
use Rattle.ent_alloc.specs.declared.refused.Refused.TheVariants.{Space, Quota}
use Rattle.ent_shared.proofs.Returned.{given_more, given_no_more}
use Rattle.ent_shared.specs.Replies.{IsReturned}
use Rattle.ent_shared.specs.Requests.{stands_for, cost, FitsQuota, FitQuota, Gains, handles_in}

abbrev CalledBy : ℕ → Reservation → Type 0
CalledBy number r = r.caller ≡ number

pub gains_nothing : (r : Record) → Gains r [] r
gains_nothing r = record {
  start = refl;
  number = refl;
  reservations = [];
  entries = sym (append-nil r.entries);
  calls = refl;
  callers = All-nil (CalledBy r.number);
  left = omega arith;
  within = tt;
  given = sym (append-nil (handles_given r));
}

within_both : (left : ℕ) (xs ys : List Request) → FitQuota left xs
    → FitQuota (left - sum_by cost xs) ys → FitQuota left (xs ++ ys)
within_both left [] ys first second = search rules
within_both left (x ∷ xs) ys first second =
    grind (arith, common_steps, within_both (left - cost x) xs ys)

-- Requests one after the other: so those of many systems that one reserver served are added up.
pub gains_then : (a b c : Record) (xs ys : List Request) → Gains a xs b → Gains b ys c
    → Gains a (xs ++ ys) c
gains_then a b c xs ys first second = record {
  start = second.start ∙ first.start;
  number = second.number ∙ first.number;
  reservations = first.reservations ++ second.reservations;
  entries = search (rules, append_assoc, map-append);
  calls = search (rules, map-append, flat_map-append);
  callers = All-append (CalledBy a.number) first.reservations second.reservations first.callers
      (rw first.number at second.callers);
  left = omega (arith, first.left, second.left, sum_by-append cost xs ys);
  within =
      within_both a.left xs ys first.within
      (subst (λ n. FitQuota n ys) (omega (arith, first.left)) second.within);
  given =
      second.given ∙ rw (first.given, flat_map-append handles_in xs ys)
      (append_assoc (handles_given a) _ _);
}

-- a request that is no reservation
gains_none : (r : Record) (request : Request) → stands_for request ≡ [] → FitsQuota r.left request
    → handles_in request ≡ [] → Gains r (request ∷ []) r
gains_none r request none within nothing = record {
  start = refl;
  number = refl;
  reservations = [];
  entries = sym (append-nil r.entries);
  calls = rw none refl;
  callers = All-nil (CalledBy r.number);
  left = rw none (omega arith);
  within = (within, tt);
  given = rw nothing (sym (append-nil (handles_given r)));
}

-- a request that is one reservation
gains_one : (r after : Record) (high : ℤ) (request : Request)
    → after ≡ after_reservation r high request.0 → request.0 ≤ r.left
    → stands_for request ≡ (request.0, (reservation_at r high request.0).reply) ∷ []
    → FitsQuota r.left request → handles_given after ≡ handles_given r ++ handles_in request
    → Gains r (request ∷ []) after
gains_one r after high request is enough one within given = rw is (record {
  start = refl;
  number = refl;
  reservations = reservation_at r high request.0 ∷ [];
  entries = refl;
  calls = search (rules, one);
  callers =
      All-cons (CalledBy r.number) (reservation_at r high request.0) [] refl
      (All-nil (CalledBy r.number));
  left = rw one (omega (arith, enough));
  within = (within, tt);
  given = rw (append-nil (handles_in request)) (rw is at given);
})

module _ (shared : Shared) (before after : Reserver) where
  own_is : after ≡ before → after.own ≡ before.own
  own_is same = ap (λ (r : Reserver). r.own) same

  served : (n : ℕ) (handles : List Handle) → IsReturned shared before after n (Ok handles)
      → Gains before.own ((n, Ok handles) ∷ []) after.own
  served zero handles reply =
      let none = reply.nothing refl in
      let empty : handles ≡ [] = cc in
      rw (own_is none.1) (gains_none before.own (0, Ok handles) refl (omega arith) empty)
  served (suc n) handles reply = elim (cases_lt before.own.left (suc n)) [
    | inl short ↦ let no = (reply.quota short).0 in absurd (cc)
    | inr enough ↦
        let g = reply.gains (omega arith) (omega (arith, enough)) in
        gains_one before.own after.own g.high (suc n, Ok handles)
        (ap (λ (r : Reserver). r.own) g.after)
        (omega (arith, enough)) (ap (λ r. (suc n, r) ∷ []) (sym g.recorded)) (omega (arith, enough))
        (given_more shared before after (suc n) handles reply)
  ]

  refused : (n : ℕ) (why : Refused) → IsReturned shared before after n (Err why)
      → Gains before.own ((n, Err why) ∷ []) after.own
  refused n (Space wanted left) reply = elim (cases_lt before.own.left n) [
    | inl short ↦ let no = (reply.quota short).0 in absurd (cc)
    | inr enough ↦ elim (cases_lt 0 n) [
      | inl some ↦
          let g = reply.gains some (omega (arith, enough)) in
          gains_one before.own after.own g.high (n, Err (Space wanted left))
          (ap (λ (r : Reserver). r.own) g.after)
          (omega (arith, enough)) (ap (λ r. (n, r) ∷ []) (sym g.recorded)) (omega (arith, enough))
          (given_no_more shared before after n (Space wanted left) reply
          ∙ sym (append-nil (handles_given before.own)))
      | inr nothing ↦ let no = (reply.nothing (omega arith)).0 in absurd (cc)
    ]
  ]
  refused n (Quota left) reply = elim (cases_lt before.own.left n) [
    | inl short ↦
        let q = reply.quota short in
        let is : left ≡ before.own.left = cc in
        rw (own_is q.1) (gains_none before.own (n, Err (Quota left)) refl (is, short) refl)
    | inr enough ↦ elim (cases_lt 0 n) [
      | inl some ↦ absurd ((reply.gains some (omega (arith, enough))).recorded)
      | inr nothing ↦ let no = (reply.nothing (omega arith)).0 in absurd (cc)
    ]
  ]

  replied : (n : ℕ) (reply : Result (List Handle) Refused) → IsReturned shared before after n reply
      → Gains before.own ((n, reply) ∷ []) after.own
  replied n (Ok handles) reply = served n handles reply
  replied n (Err why) reply = refused n why reply

-- So the record has gained the reservations of requests that a shared allocator served, and no
-- others.
pub gains_served : (shared : Shared) (requests : List Request) (before after : Reserver)
    → AreServed (IsReturned shared) before requests after → Gains before.own requests after.own
gains_served shared [] before after was = rw was (gains_nothing _)
gains_served shared (request ∷ requests) before after was =
    gains_then _ _ _ (request ∷ []) requests (replied shared before was.0 request.0 request.1 was.1)
    (gains_served shared requests was.0 after was.2)
