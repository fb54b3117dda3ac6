-- What the end of a phase says if callers may be lost: the front of what lies behind the blocks
-- counts as given.
use Rattle.ent_blocks.proofs.Common.{rules, ◌≡◌, ◌≢◌, sym, ap, subst, ◌∙◌, ℕ, zero, suc, ◌+◌, ◌-◌}
use Rattle.ent_blocks.proofs.Common.{◌*◌, ◌≤◌, ℤ, pos, ◌-ℤ◌, ◌≤ℤ◌, List, [], ◌∷◌, ◌++◌, length}
use Rattle.ent_blocks.proofs.Common.{take, drop, sum_by, nat_le, cond, true, false, Ok, Err, arith}
use Rattle.ent_blocks.proofs.Common.{ints, common_steps, take-add, take_all, take-append-drop}
use Rattle.ent_blocks.proofs.Common.{drop-drop, length-append, length-drop, length-map}
use Rattle.ent_blocks.proofs.Common.{length-take-le, sum_by-cons, All, AllPairs, Contains, All-nil}
use Rattle.ent_blocks.proofs.Common.{All-cons, All-head, All-tail, All-append, All-take, All-drop}
use Rattle.ent_blocks.proofs.Common.{All-contains, All-contains_itself, All-permutation}
use Rattle.ent_blocks.proofs.Common.{Contains-append_cases, AllPairs-across, AllPairs-right, Handle}
use Rattle.ent_blocks.proofs.Common.{quota, Allocator, available, cursor, top, asked_at, pool_at}
use Rattle.ent_blocks.proofs.Common.{listed, before_requests, IsSound, AreApart, flushed-laid_out}
use Rattle.ent_blocks.proofs.Common.{asked_at-is, listed-IsPermutation, not_apart, handles_in}
use Rattle.ent_blocks.proofs.Common.{dealt, lesser, Reservation, Record, own_reservations}
use Rattle.ent_blocks.proofs.Common.{requested_by, handles_given, handles_of, own_of_all}
use Rattle.ent_blocks.proofs.Common.{records_of, after_loss, HasItsReply, Shared, SharedReserver}
use Rattle.ent_blocks.proofs.Common.{Overflow, Caller, IsCallerOf, IsDealer, IsPhase}
use Rattle.ent_blocks.proofs.Common.{behind_blocks, past_of, past_records}
use Rattle.ent_shared.proofs.Laws.{handles_of-append}
use Rattle.ent_blocks.proofs.Dealing.{lesser_within}

-- what lies at a position of a list or further on
later_contained : (xs : List Handle) (d k n : ℕ) → d ≤ k
    → All (Contains (drop d xs)) (take n (drop k xs))
later_contained xs d k n le =
    let P : Handle → Type 0 = Contains (drop d xs) in
    let sum : d + (k - d) ≡ k = omega (arith, le) in
    let rest : drop (k - d) (drop d xs) ≡ drop k xs =
    drop-drop (k - d) d xs ∙ ap (λ m. drop m xs) sum in
    let all = All-take P n _ (All-drop P (k - d) _ (All-contains_itself (drop d xs))) in
    subst (λ ys. All P (take n ys)) rest all

-- the handles of reservations that begin behind the first d handles
module _ (s : Allocator) (flushed : s.asked ≡ 0) (d : ℕ) where
  abbrev Later : Handle → Type 0
  Later = Contains (drop d (available s))

  abbrev IsLow : Reservation → Type 0
  IsLow c = c.high ≤ℤ (cursor s -ℤ pos d)

  reservation_later : (c : Reservation) → HasItsReply s c → IsLow c → All Later (handles_in c.reply)
  reservation_later c replied low =
      let pool : List Handle = pool_at s c.high in
      let high : c.high ≤ℤ pos (top s) = omega (arith, ints, low, flushed) in
      let at = asked_at-is (top s) c.high high in
      let far : d ≤ asked_at (top s) c.high = omega (arith, ints, at, low, flushed) in
      let all = All-permutation Later _ _ (listed-IsPermutation s.made (take c.requested pool))
      (later_contained (available s) d (asked_at (top s) c.high) c.requested far) in
      rw replied (elim (nat_le c.requested (length pool)) as (λ b. All Later (handles_in (cond b
      (Ok (listed s.made (take c.requested pool)))
      (Err (record { wanted = c.requested; left = length pool })))))
      [ true ↦ all | false ↦ All-nil Later ])

  pub reservations_later : (cs : List Reservation) → All (HasItsReply s) cs → All IsLow cs
      → All Later (handles_of cs)
  reservations_later [] replied low = search (rules, All-nil)
  reservations_later (c ∷ cs) replied low = search
      (rules, All-append, reservation_later c, reservations_later cs, All-head, All-tail)

-- what is in two of three parts is in the part that they have in common
only_behind : (front xs ys : List Handle) → AllPairs AreApart (front ++ xs) → (h : Handle)
    → Contains xs h → Contains (front ++ ys) h → Contains ys h
only_behind front xs ys apart h has there =
    let across = AllPairs-across AreApart front xs apart in
    search (rules, Contains-append_cases front ys h there, not_apart, All-contains)

-- the front of a flushed allocator, of which d handles are in blocks
module _ (s : Allocator) (sound : IsSound s) (flushed : s.asked ≡ 0) (d : ℕ)
    (enough : d ≤ length s.pool) (asked : ℕ) (reached : d ≤ asked) where
  abbrev behind : List Handle
  behind = drop d s.pool

  abbrev given : ℕ
  given = lesser (asked - d) (length behind)

  few : given ≤ length behind
  few = lesser_within (asked - d) (length behind)

  front_is : take asked s.pool ≡ take d s.pool ++ take given behind
  front_is =
      let whole : d + (asked - d) ≡ asked = omega (arith, reached) in
      let first : take asked s.pool ≡ take d s.pool ++ take (asked - d) behind =
      ap (λ m. take m s.pool) (sym whole) ∙ take-add d (asked - d) s.pool in
      let same : take (asked - d) behind ≡ take given behind =
      grind (arith, common_steps, take_all) in
      first ∙ ap (λ xs. take d s.pool ++ xs) same

  pub length_front : length (take asked s.pool) ≡ d + given
  length_front =
      ap length front_is ∙ length-append (take d s.pool) (take given behind)
      ∙ (λ i. length-take-le d s.pool enough i + length-take-le given behind few i)

  pub given_within : d + given ≤ length s.pool
  given_within = omega (arith, few, length-drop d s.pool, enough)

  pub back_again : before_requests (after_loss s asked) ≡ s
  back_again = search (rules, flushed-laid_out, take-append-drop)

  all_pool : available s ≡ s.pool
  all_pool = search (rules, flushed-laid_out)

  apart_parts : AllPairs AreApart (take d s.pool ++ behind)
  apart_parts = subst (AllPairs AreApart) (all_pool ∙ sym (take-append-drop d s.pool)) sound.apart

  pub given_behind : (hs : List Handle) → All (Contains (take asked s.pool)) hs
      → All (Contains (drop d (available s))) hs → All (Contains (take given behind)) hs
  given_behind hs front later k h lt =
      only_behind (take d s.pool) behind (take given behind) apart_parts _
      (rw all_pool at (later k h lt)) (rw front_is at (front k h lt))

-- how many handles the reservers have requested, and how many they may request
abbrev pub requested_of : List SharedReserver → ℕ
requested_of rs = sum_by (λ (r : SharedReserver). requested_by r.own) rs

abbrev pub quota_of : List SharedReserver → ℕ
quota_of rs = sum_by (λ (r : SharedReserver). r.own.left) rs

-- all that the reservers were given is there
abbrev pub AreGiven : List Handle → List SharedReserver → Type 0
AreGiven there rs = All (λ (r : SharedReserver). All (Contains there) (handles_given r.own)) rs

-- what the shared allocator says at its close
pub record ClosedLost (shared : Shared) (rs : List SharedReserver) (a : Allocator) : Type 0 where
  pub after : a ≡ after_loss shared.start a.asked
  pub least : requested_of rs ≤ a.asked
  pub most : quota_of rs + a.asked ≤ shared.count * quota
  pub asked : length rs ≡ shared.count → requested_of rs ≡ a.asked
  pub given : AreGiven a.taken rs
  pub distinct : AllPairs (λ g h. g ≢ h) (handles_of (own_of_all (records_of rs)))

-- how many of those behind the blocks count as given
abbrev pub counted : Overflow → Allocator → ℕ
counted p a = lesser (a.asked - dealt p.blocks) (length (behind_blocks p))

pub record Losing (p : Overflow) (callers : List Caller) (a : Allocator) : Type 0 where
  pub reached : dealt p.blocks ≤ a.asked
  pub taken : length a.taken ≡ dealt p.blocks + counted p a
  pub within : dealt p.blocks + counted p a ≤ length p.shared.start.pool
  pub back : before_requests a ≡ p.shared.start
  pub least : requested_of (past_of callers) ≤ a.asked - dealt p.blocks
  pub most : quota_of (past_of callers) + (a.asked - dealt p.blocks) ≤ length p.blocks * quota
  pub requested : length callers ≡ length p.blocks
      → requested_of (past_of callers) ≡ a.asked - dealt p.blocks
  pub given : AreGiven (take (counted p a) (behind_blocks p)) (past_of callers)
  pub distinct : AllPairs (λ g h. g ≢ h) (handles_of (own_of_all (past_records callers)))

-- the dealer has requested what is in the blocks
dealer_requested : (d : ℕ) (r : Record) → IsDealer d r → requested_by r ≡ d
dealer_requested zero r nothing = rw nothing (omega arith)
dealer_requested (suc d) r deals = grind
    (arith, common_steps, sum_by-cons, deals.entries, deals.requested)

-- the quota of the callers
most_left : (own all asked d count blocks : ℕ) → (own + all) + asked ≤ count * quota
    → own + d ≡ quota → d ≤ asked → count ≡ blocks + 1 → all + (asked - d) ≤ blocks * quota
unfolding quota
most_left own all asked d count blocks most first reached more = omega
    (arith, most, first, reached, more)

module _ (p : Overflow) (is : IsPhase p.shared p.dealer p.blocks) where
  abbrev start : Allocator
  start = p.shared.start

  abbrev d : ℕ
  d = dealt p.blocks

  -- all that a caller was given lies behind the blocks
  given_later : (c : Caller) → IsCallerOf p c
      → All (Contains (drop d (available start))) (handles_given c.past.own)
  given_later c of = reservations_later start is.lie.flushed d _
      (λ k r lt. (of.all k r lt).replied)
      (λ k r lt.
      let high = (of.all k r lt).high in
      let mark = is.mark in
      omega (arith, ints, high, mark))

  all_given : (a : Allocator) → d ≤ a.asked → (callers : List Caller) → All (IsCallerOf p) callers
      → AreGiven (take a.asked start.pool) (past_of callers)
      → AreGiven (take (counted p a) (behind_blocks p)) (past_of callers)
  all_given a reached [] own front = All-nil (λ (r : SharedReserver).
      All (Contains (take (counted p a) (behind_blocks p))) (handles_given r.own))
  all_given a reached (c ∷ callers) own front =
      let Front : SharedReserver → Type 0 = λ (r : SharedReserver).
      All (Contains (take a.asked start.pool)) (handles_given r.own) in
      let later = given_later c (All-head (IsCallerOf p) c callers own) in
      let first = given_behind start is.lie.sound is.lie.flushed d is.lie.within a.asked reached
      (handles_given c.past.own) (All-head Front c.past (past_of callers) front) later in
      let rest = all_given a reached callers (All-tail (IsCallerOf p) c callers own)
      (All-tail Front c.past (past_of callers) front) in
      All-cons (λ (r : SharedReserver).
      All (Contains (take (counted p a) (behind_blocks p))) (handles_given r.own))
      c.past (past_of callers) first rest

  pub losing : (callers : List Caller) (a : Allocator) → All (IsCallerOf p) callers
      → ClosedLost p.shared (p.dealer ∷ past_of callers) a → Losing p callers a
  losing callers a own closed =
      let rs = past_of callers in
      let lie = is.lie in
      let first = dealer_requested d p.dealer.own is.deals in
      let requested = sum_by-cons (λ (r : SharedReserver). requested_by r.own) p.dealer rs in
      let left = sum_by-cons (λ (r : SharedReserver). r.own.left) p.dealer rs in
      let reached : d ≤ a.asked = omega (arith, first, requested, closed.least) in
      let taken : a.taken ≡ take a.asked start.pool =
      ap (λ (b : Allocator). b.taken) closed.after in
      let quotas : p.dealer.own.left + d ≡ quota =
      ap (λ n. p.dealer.own.left + n) (sym first) ∙ is.of.quota in
      let there : AreGiven a.taken rs = All-tail (λ (r : SharedReserver).
      All (Contains a.taken) (handles_given r.own)) p.dealer rs closed.given in
      let own_ones = own_reservations p.dealer.own.entries in
      let apart = subst (AllPairs (λ g h. g ≢ h))
      (handles_of-append own_ones (own_of_all (past_records callers))) closed.distinct in
      record {
        reached = reached;
        taken = ap length taken
            ∙ length_front start lie.sound lie.flushed d lie.within a.asked reached;
        within = given_within start lie.sound lie.flushed d lie.within a.asked reached;
        back = rw closed.after
            (back_again start lie.sound lie.flushed d lie.within a.asked reached);
        least = omega (arith, first, requested, closed.least);
        most = most_left _ _ _ _ _ _ (rw left at closed.most) quotas reached is.count;
        requested = λ all_here.
            let long = length-map callers (λ (c : Caller). c.past) in
            let all = closed.asked (omega (arith, is.count, all_here, long)) in
            omega (arith, first, requested, all);
        given = all_given a reached callers own (rw taken at there);
        distinct = AllPairs-right (λ g h. g ≢ h) (handles_of own_ones) _ apart;
      }
