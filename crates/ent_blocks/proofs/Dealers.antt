-- The dealer's one reservation, and the reservers that come after it.
use Rattle.ent_blocks.proofs.Common.{rules, ◌≡◌, refl, ap, ℕ, zero, suc, ◌+◌, ◌^◌, ◌<◌, ℤ, pos}
use Rattle.ent_blocks.proofs.Common.{◌-ℤ◌, ◌≤ℤ◌, List, [], ◌∷◌, ◌++◌, length, take, get_or, arith}
use Rattle.ent_blocks.proofs.Common.{Contains, All, Result, get_or_default, map-append, take_more}
use Rattle.ent_blocks.proofs.Common.{All-cons, All-nil, All-head, All-tail, ints, Handle, quota}
use Rattle.ent_blocks.proofs.Common.{Allocator, cursor, IsSound, Refused, Block, dealt, unused}
use Rattle.ent_blocks.proofs.Common.{blocks_from, AreLaid, AreDealt, reservation_at}
use Rattle.ent_blocks.proofs.Common.{after_reservation, own_reservations, after_meeting}
use Rattle.ent_blocks.proofs.Common.{opened_record, opened_records, records_of, Record, Shared}
use Rattle.ent_blocks.proofs.Common.{SharedReserver, IsReserverOf, Reserves, own_of_all, All-left}
use Rattle.ent_blocks.proofs.Common.{All-right, Overflow, Caller, IsCallerOf, IsFresh, IsPhase}
use Rattle.ent_blocks.specs.Overflow.{IsUnused}
use Rattle.ent_blocks.proofs.Common.{HasDealt, IsDealer, past_records, past_history, own_blocks}
use Rattle.ent_blocks.proofs.Dealing.{none_used, are_dealt, length-from}

-- a reserver that has done nothing has its whole quota
pub whole_quota : (s : Shared) (r : SharedReserver) → IsReserverOf s r → r.own.entries ≡ []
    → r.own.left ≡ quota
whole_quota s r of nothing = let adds = of.quota in search (rules, nothing)

pub has_dealt : (s : Shared) (old new : SharedReserver) (n : ℕ)
    (result : Result (List Handle) Refused) → Reserves s old new n result → old.own.entries ≡ []
    → HasDealt n new.own
has_dealt s old new n result did nothing =
    let own : new.own ≡ after_reservation old.own did.high n =
    ap (λ (r : SharedReserver). r.own) did.after in
    record {
      call = reservation_at old.own did.high n;
      entries = search rules;
      caller = search (rules, own);
      requested = refl;
      mark = search (rules, own);
    }

pub is_dealer : (s : Shared) (old new : SharedReserver) (n : ℕ)
    (result : Result (List Handle) Refused) → 0 < n → Reserves s old new n result
    → old.own.entries ≡ [] → IsDealer n new.own
is_dealer s old new zero result some did nothing = absurd (omega arith)
is_dealer s old new (suc n) result some did nothing = search (rules, has_dealt)

-- where the others begin after it
pub dealt_mark : (s : Shared) (old new : SharedReserver) (n : ℕ)
    (result : Result (List Handle) Refused) → Reserves s old new n result
    → old.own.mark ≡ cursor s.start → new.own.mark ≤ℤ (cursor s.start -ℤ pos n)
dealt_mark s old new n result did at =
    let mark : new.own.mark ≡ did.high -ℤ pos n =
    ap (λ (r : SharedReserver). r.own.mark) did.after in
    omega (arith, ints, mark, did.at_mark, at)

pub none_dealt_mark : (a b : ℤ) → a ≡ b → a ≤ℤ (b -ℤ pos 0)
none_dealt_mark a b same = omega (arith, ints)

-- a reserver that has met the dealer, and a block
module _ (p : Overflow) (laid : AreLaid 0 p.blocks) (k : ℕ) (b : Block) (lt : k < length p.blocks)
    (there : b ≡ get_or p.blocks k b) (r met : SharedReserver) (fresh : IsFresh p.shared r)
    (of : IsReserverOf p.shared met)
    (is : met ≡ record r { own = after_meeting r.own p.dealer.own })
  where
    own_is : met.own ≡ after_meeting r.own p.dealer.own
    own_is = ap (λ (x : SharedReserver). x.own) is

    nothing_own : own_reservations met.own.entries ≡ []
    nothing_own = search (rules, own_is, fresh.nothing)

    in_phase : Contains p.blocks (unused (unused b))
    in_phase = search (rules, none_used, get_or_default)

    pub of_block : IsCallerOf p (record { block = unused b; past = met })
    of_block = search (rules, in_phase, ints, own_is, nothing_own, All-nil)

    pub unused_of_block : IsUnused (record { block = unused b; past = met })
    unused_of_block = search (rules, nothing_own, own_is, whole_quota, fresh)

-- nobody has gone past its block
nothing_past : (callers : List Caller) → All IsUnused callers
    → own_of_all (past_records callers) ≡ []
nothing_past [] all = refl
nothing_past (c ∷ callers) all =
    let first = (All-head IsUnused c callers all).nothing in
    search (rules, first, nothing_past callers (All-tail IsUnused c callers all))

pub none_past : (callers : List Caller) → All IsUnused callers → past_history callers ≡ []
none_past callers all = search (rules, nothing_past)

-- the last one of these, and the others
module _ (s : Shared) (all rest : List SharedReserver) (r : SharedReserver)
    (front : all ≡ rest ++ r ∷ [])
    (fresh : All (IsFresh s) all) where
  pub last_fresh : IsFresh s r
  last_fresh = All-head (IsFresh s) r [] (All-right (IsFresh s) rest (r ∷ []) (rw front at fresh))

  pub others_fresh : All (IsFresh s) rest
  others_fresh = All-left (IsFresh s) rest (r ∷ []) (rw front at fresh)

pub blocks_more : (before after : List Caller) (bs : List Block) (k : ℕ) (b : Block)
    (met : SharedReserver) → AreLaid 0 bs
    → k < length bs → b ≡ get_or bs k b
    → after ≡ before ++ record { block = unused b; past = met } ∷ []
    → own_blocks before ≡ take k bs → own_blocks after ≡ take (k + 1) bs
blocks_more before after bs k b met laid lt there is so_far =
    search (rules, none_used, map-append, take_more)

-- the marks of reservers as an opening makes them
opened_marks : (start : Allocator) (rs : List SharedReserver) (number count : ℕ)
    → records_of rs ≡ opened_records start number count
    → All (λ (r : SharedReserver). r.own.mark ≡ cursor start) rs
unfolding opened_records
opened_marks start [] number count is = All-nil (λ (r : SharedReserver). r.own.mark ≡ cursor start)
opened_marks start (r ∷ rs) number zero is = absurd (cc)
opened_marks start (r ∷ rs) number (suc count) is =
    let first : r.own ≡ opened_record start number = (cc) in
    All-cons (λ (r : SharedReserver). r.own.mark ≡ cursor start) r rs
    (ap (λ (x : Record). x.mark) first)
    (opened_marks start rs (number + 1) count (cc))

pub all_fresh : (s : Shared) (rs : List SharedReserver) (start : Allocator) (count : ℕ)
    → s.start ≡ start → records_of rs ≡ opened_records start 0 count → All (IsReserverOf s) rs
    → All (λ (r : SharedReserver). r.own.entries ≡ []) rs → All (IsFresh s) rs
all_fresh s rs start count is made of nothing k d lt =
    record {
      of = of k d lt;
      nothing = nothing k d lt;
      mark = rw is (opened_marks start rs 0 count made k d lt);
    }

-- what the opening leaves
pub opened : (s : Allocator) (sizes : List ℕ) (shared : Shared) (dealer : SharedReserver)
    (blocks : List Block) (d : ℕ) → s.asked ≡ 0 → IsSound shared.start → shared.start ≡ s
    → shared.count ≡ length sizes + 1 → blocks ≡ blocks_from 0 (length s.pool) sizes
    → dealt blocks < 2 ^ 32 → IsReserverOf shared dealer → d ≡ dealt blocks → IsDealer d dealer.own
    → dealer.own.mark ≤ℤ (cursor shared.start -ℤ pos d) → IsPhase shared dealer blocks
opened s sizes shared dealer blocks d flushed sound start count is few of deals dealer_is mark =
    let lie : AreDealt shared.start blocks = rw (start, is)
    (are_dealt s sizes (rw start at sound) flushed (rw is at few)) in
    let last = rw deals at mark in
    search (rules, length-from)
