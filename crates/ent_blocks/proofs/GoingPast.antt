-- What a reservation leaves of a caller: from its block, and past it.
use Rattle.ent_blocks.proofs.Common.{rules, ◌≡◌, refl, sym, ap, ◌∙◌, inl, inr, ℕ, ◌+◌, ◌^◌, ◌<◌}
use Rattle.ent_blocks.proofs.Common.{◌≤◌, pos, ◌-ℤ◌, ◌≤ℤ◌, List, [], ◌∷◌, ◌++◌, length, take, All}
use Rattle.ent_blocks.proofs.Common.{arith, ints, common_steps, Result, Ok, Err, cases_lt, All-push}
use Rattle.ent_blocks.proofs.Common.{Handle, Refused, Request, AreServed, SaysWanted, reply_from}
use Rattle.ent_blocks.proofs.Common.{listed, listed_alone, unused, after_use, rest_of}
use Rattle.ent_blocks.proofs.Common.{left_of_block, Record, Reservation, own_reservations}
use Rattle.ent_blocks.proofs.Common.{reservation_at, after_reservation, Shared, SharedReserver}
use Rattle.ent_blocks.proofs.Common.{IsReserverOf, Reserves, own-made, Overflow, Caller, IsBehind}
use Rattle.ent_blocks.proofs.Common.{IsCallerOf, IsPhase, IsServed}
use Rattle.ent_alloc.specs.declared.refused.Refused.TheVariants.{Quota, Space}
use Rattle.ent_blocks.proofs.Dealing.{of_phase}

-- the same phase and the same caller
pub here : (p q : Overflow) (c d : Caller) → p ≡ q → c ≡ d → IsCallerOf q d → IsCallerOf p c
here p q c d e f of = search rules

module _ (p : Overflow) (c : Caller) (is : IsPhase p.shared p.dealer p.blocks)
    (of : IsCallerOf p c) where
  pub lies_within : c.block.before + c.block.size ≤ length p.shared.start.pool
  lies_within = omega (arith, of_phase p.blocks c.block is.lie.laid of.block, is.lie.within)

  pub lies_few : c.block.before + c.block.size < 2 ^ 32
  lies_few = omega (arith, of_phase p.blocks c.block is.lie.laid of.block, is.lie.few)

-- after more of its block is used
pub used_on : (p : Overflow) (c : Caller) (n : ℕ) → IsCallerOf p c
    → IsCallerOf p (record { block = after_use c.block n; past = c.past })
used_on p c n of = search rules

-- after a reservation past it
module _ (p : Overflow) (c : Caller) (new : SharedReserver) (n : ℕ)
    (result : Result (List Handle) Refused) (of : IsCallerOf p c)
    (stays : IsReserverOf p.shared new) where
  module _ (did : Reserves p.shared c.past new n result) where
    own_is : new.own ≡ after_reservation c.past.own did.high n
    own_is = ap (λ (x : SharedReserver). x.own) did.after

    lower : did.high ≤ℤ p.dealer.own.mark
    lower = search rules

    abbrev made : Reservation
    made = reservation_at c.past.own did.high n

    entries : own_reservations new.own.entries ≡ own_reservations c.past.own.entries ++ made ∷ []
    entries =
        ap (λ (r : Record). own_reservations r.entries) own_is ∙ own-made c.past.own.entries made

    behind : All (IsBehind p) (own_reservations new.own.entries)
    behind = rw entries (All-push (IsBehind p) (own_reservations c.past.own.entries) made of.all
        (record { high = lower; replied = did.reply }))

    next : new.own.mark ≤ℤ p.dealer.own.mark
    next =
        let mark : new.own.mark ≡ did.high -ℤ pos n = ap (λ (r : Record). r.mark) own_is in
        omega (arith, ints, mark, lower)

    gone : IsCallerOf p (record { block = c.block; past = new })
    gone = search (rules, own_is, next, behind)

  pub gone_past : (c.past.own.left < n → new ≡ c.past)
      → (n ≤ c.past.own.left → Reserves p.shared c.past new n result)
      → IsCallerOf p (record { block = c.block; past = new })
  gone_past same gains = search (rules, cases_lt, gone)

-- what a request returns: from the block, and past it
module _ (p : Overflow) (c : Caller) where
  pub from_block : (n : ℕ) (reply : Result (List Handle) Refused) → n ≤ left_of_block c.block
      → reply ≡ Ok (listed p.shared.start.made (take n (rest_of p.shared.start.pool c.block)))
      → IsServed p c (record { block = after_use c.block n; past = c.past }) n reply
  from_block n reply enough is = record {
    block = λ _. (is, refl);
    quota = λ less. absurd (omega (arith, enough));
    past = λ less. absurd (omega (arith, enough));
  }

  module _ (new : SharedReserver) where
    pub from_past : (n : ℕ) (reply : Result (List Handle) Refused) → left_of_block c.block < n
        → (c.past.own.left < n → (reply ≡ Err (Quota c.past.own.left)) × (new ≡ c.past))
        → (n ≤ c.past.own.left → Reserves p.shared c.past new n reply)
        → IsServed p c (record { block = c.block; past = new }) n reply
    from_past n reply less same gains = record {
      block = λ enough. absurd (omega (arith, less));
      quota = λ _ few. let is = same few in
          (is.0, ap (λ (r : SharedReserver). record c { past = r }) is.1);
      past = λ _ enough. (refl, gains enough);
    }

    pub one_past : (r : Result Handle Refused) → left_of_block c.block ≡ 0
        → (c.past.own.left ≡ 0 → (r ≡ Err (Quota 0)) × (new ≡ c.past))
        → (0 < c.past.own.left → Reserves p.shared c.past new 1 (listed_alone r))
        → IsServed p c (record { block = c.block; past = new }) 1 (listed_alone r)
    one_past r none same gains = from_past 1 (listed_alone r) (omega (arith, none))
        (λ few.
        let zero : c.past.own.left ≡ 0 = omega (arith, few) in
        let is = same zero in (rw (is.0, zero) refl, is.1)) gains

pub one_of_block : (made : ℕ) (rest : List Handle) (h : Handle)
    → Ok (h ∷ []) ≡ reply_from made rest 1 → h ∷ [] ≡ listed made (take 1 rest)
one_of_block made rest h is = grind (arith, common_steps)

-- a refusal for lack of handles says how many were requested
refused_wanted : (s : Shared) (old new : SharedReserver) (n wanted left : ℕ)
    → Reserves s old new n (Err (Space wanted left)) → wanted ≡ n
refused_wanted s old new n wanted left did = grind (arith, common_steps, did.recorded, did.reply)

pub says_wanted : (p : Overflow) (b a : Caller) (n : ℕ) (why : Refused) → IsServed p b a n (Err why)
    → SaysWanted n why
says_wanted p b a n (Quota left) served = tt
says_wanted p b a n (Space wanted left) served = grind (
  arith,
  common_steps,
  served.block,
  served.quota,
  served.past,
  refused_wanted p.shared b.past a.past n wanted left,
)

-- a request leaves the caller its block
served_same : (p : Overflow) (b a : Caller) (n : ℕ) (reply : Result (List Handle) Refused)
    → IsServed p b a n reply → unused a.block ≡ unused b.block
served_same p b a n reply served = elim (cases_lt (left_of_block b.block) n) [
  | inl less ↦ elim (cases_lt b.past.own.left n) [
    | inl few ↦ ap (λ (c : Caller). unused c.block) (served.quota less few).1
    | inr enough ↦ ap unused (served.past less enough).0
  ]
  | inr enough ↦ ap (λ (c : Caller). unused c.block) (served.block enough).1
]

-- So whatever a caller requested, its block is the one that was dealt: the close takes it.
pub served_block : (p : Overflow) (b a : Caller) (requests : List Request)
    → AreServed (IsServed p) b requests a → unused a.block ≡ unused b.block
served_block p b a [] was = ap (λ (c : Caller). unused c.block) (sym was)
served_block p b a (request ∷ requests) was =
    served_block p was.0 a requests was.2 ∙ served_same p b was.0 request.0 request.1 was.1
