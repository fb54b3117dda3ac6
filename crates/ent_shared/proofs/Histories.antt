-- What all records together tell once no thread steps any more: their own calls are the calls that
-- lead from the top to the cursor. First the calls of one caller among those of all, and records of
-- which no two have one number.
use Rattle.ent_shared.proofs.Common.{common_steps, get_or_default, sum_by, All, Contains, rules}
use Rattle.ent_shared.proofs.Common.{◌≡◌, ℕ, suc, ◌<◌, ⊎_elim, ℤ, ◌≤ℤ◌, ◌<ℤ◌, List, [], ◌∷◌, length}
use Rattle.ent_shared.proofs.Common.{get_or, refl, sym, ap, ◌∙◌, arith, Bool, true, false, cond}
use Rattle.ent_shared.proofs.Common.{◌==◌, All-weaker, All-contains, All-contains_itself}
use Rattle.ent_shared.proofs.Common.{All-filter, sum_by-cons, slice_get-get_or, ints, Allocator}
use Rattle.ent_shared.proofs.Common.{cursor, Reservation, RecordEntry, Own, Met, Record, low}
use Rattle.ent_shared.proofs.Common.{reservations_in, own_reservations, known_reservations, InOrder}
use Rattle.ent_shared.proofs.Common.{IsKept, IsClosed, own_of_all, reservations_of, reservations_by}
use Rattle.ent_shared.proofs.Common.{StandsBefore, FollowsEntries, Respects, All-left, All-right}
use Rattle.ent_shared.proofs.Common.{AllPairs, All-head, ◌≢◌, ◌≤◌, count_by, AllPairs-cons}
use Rattle.ent_shared.proofs.Weighing.{sum_by-flat_map, All-flat_map}
use Rattle.ent_shared.proofs.Records.{all_own}
use Rattle.ent_shared.proofs.Sorting.{contains_cases, Falls, FallsStrictly, WeighSame, all_sorted}
use Rattle.ent_shared.proofs.Sorting.{sum_sorted, falls_sorted, same_fall, follow_falls}
use Rattle.ent_shared.proofs.Sorting.{follow_requests}

-- one caller's calls weigh what its own calls weigh
abbrev pub only : ℕ → (Reservation → ℕ) → Reservation → ℕ
only caller f c = cond (c.caller == caller) (f c) 0

pub sum_by_caller : (caller : ℕ) (f : Reservation → ℕ) (cs : List Reservation)
    → sum_by f (reservations_by caller cs) ≡ sum_by (only caller f) cs
sum_by_caller caller f [] = refl
sum_by_caller caller f (c ∷ cs) =
    grind (arith, common_steps, sum_by-cons, c.caller, sum_by_caller caller f cs)

pub own_by_caller : (number caller : ℕ) (f : Reservation → ℕ) (cs : List Reservation)
    → All (λ (c : Reservation). c.caller ≡ number) cs → sum_by (only caller f) cs
    ≡ cond (number == caller) (sum_by f cs) 0
own_by_caller number caller f [] all = grind (arith, common_steps)
own_by_caller number caller f (c ∷ cs) all =
    grind (
      arith,
      common_steps,
      sum_by-cons,
      All-head,
      own_by_caller number caller f cs (λ i d lt. all (suc i) d (omega arith)),
    )

-- of records with different numbers only the one with this number weighs anything
abbrev pub of_number : ℕ → (Record → ℕ) → Record → ℕ
of_number number g r = cond (r.number == number) (g r) 0

none_of_number : (number : ℕ) (g : Record → ℕ) (rs : List Record)
    → count_by (λ (r : Record). r.number == number) rs ≡ 0 → sum_by (of_number number g) rs ≡ 0
none_of_number number g [] none = refl
none_of_number number g (r ∷ rs) none =
    grind (arith, common_steps, sum_by-cons, none_of_number number g rs)

counted : (number : ℕ) (rs : List Record) (r : Record) → Contains rs r → r.number ≡ number
    → 1 ≤ count_by (λ (x : Record). x.number == number) rs
counted number rs r inside is = grind (arith, common_steps)

-- records of which no two have one number differ in it
pub numbers_differ : (rs : List Record)
    → ((k : ℕ) → count_by (λ (r : Record). r.number == k) rs ≤ 1)
    → AllPairs (λ r s. r.number ≢ s.number) rs
numbers_differ [] few = λ i j d lt within. absurd (omega arith)
numbers_differ (r ∷ rs) few = AllPairs-cons (λ x y. x.number ≢ y.number) r rs
    (λ i d lt same. grind (arith, common_steps, sum_by-cons, few r.number, counted))
    (numbers_differ rs (λ k. grind (arith, common_steps, sum_by-cons, few k)))

pub one_of_number : (number : ℕ) (g : Record → ℕ) (rs : List Record) (r : Record)
    → count_by (λ (x : Record). x.number == number) rs ≤ 1 → Contains rs r → r.number ≡ number
    → sum_by (of_number number g) rs ≡ g r
one_of_number number g [] r few inside is = absurd (omega arith)
one_of_number number g (x ∷ rs) r few inside is =
    grind (
      arith,
      common_steps,
      sum_by-cons,
      contains_cases,
      none_of_number,
      one_of_number number g rs r,
      counted,
    )

-- a record's own calls
abbrev own_calls : Record → List Reservation
own_calls r = own_reservations r.entries

-- the calls by falling high are those that follow each other
pub reservations_are : (start : Allocator) (count : ℕ) (records : List Record) (at : ℤ)
    (k : IsClosed start count records at) → length records ≡ count → reservations_of records ≡ k.log
reservations_are start count records at k whole =
    let inside = All-flat_map own_calls (Contains k.log) records
    (λ i d lt. all_own (Contains k.log) (get_or records i d).entries (k.each i d lt).marks.known) in
    same_fall _ _ (falls_sorted (own_of_all records))
    (follow_falls (cursor start) k.log at k.follow)
    (all_sorted (Contains k.log) (own_of_all records) inside)
    (λ f. search (rules, sum_sorted, sum_by-flat_map, k.all whole f))

-- of two reservations of a list that falls the later one is lower
pub falls_apart : (cs : List Reservation) → FallsStrictly cs
    → AllPairs (λ earlier later. later.high <ℤ earlier.high) cs
falls_apart [] falls = λ i j d lt within. absurd (omega arith)
falls_apart (c ∷ cs) falls = grind (arith, common_steps, falls_apart cs falls.1)

stands : (cs : List Reservation) (earlier later : Reservation) → FallsStrictly cs
    → Contains cs earlier → Contains cs later → later.high <ℤ earlier.high
    → StandsBefore cs earlier later
stands cs earlier later falls (i, i_in, i_is) (j, j_in, j_is) lower =
    let at_j = get_or_default cs j earlier later j_in in
    let pairs = falls_apart cs falls j i earlier in
    search (rules, slice_get-get_or)

after_one : (cs before : List Reservation) (later : Reservation) → FallsStrictly cs
    → All (λ (c : Reservation). 0 < c.requested) cs → All (Contains cs) before → Contains cs later
    → All (λ (earlier : Reservation). later.high ≤ℤ low earlier) before
    → All (λ (earlier : Reservation). StandsBefore cs earlier later) before
after_one cs before later falls requests in_before in_later order i d lt = search
    (rules, All-contains, stands, order i d lt, in_before i d lt)

-- what a record knew before its own calls stands before them
follows : (cs : List Reservation) (es : List RecordEntry) → FallsStrictly cs
    → All (λ (c : Reservation). 0 < c.requested) cs → All (Contains cs) (known_reservations es)
    → InOrder es → FollowsEntries cs es
follows cs [] falls requests known order = tt
follows cs (e ∷ es) falls requests known order =
    let rest = All-right (Contains cs) (reservations_in e) (known_reservations es) known in
    let before = All-left (Contains cs) (reservations_in e) (known_reservations es) known in
    search
    (rules, after_one, all_own (Contains cs) es rest, follows cs es falls requests rest order.1)

-- a record's own calls fall
own_fall : (es : List RecordEntry)
    → All (λ (c : Reservation). 0 < c.requested) (own_reservations es) → InOrder es
    → Falls (own_reservations es)
own_fall [] requests order = tt
own_fall (Met cs ∷ es) requests order = own_fall es requests order.1
own_fall (Own c ∷ es) requests order = (
  λ i d lt. omega (arith, ints, order.0 i d lt 0 d (omega arith)),
  own_fall es (λ i d lt. requests (suc i) d (omega arith)) order.1,
)

strictly_by : (caller : ℕ) (cs : List Reservation) → FallsStrictly cs
    → FallsStrictly (reservations_by caller cs)
strictly_by caller [] falls = tt
strictly_by caller (c ∷ cs) falls =
    search (
      rules,
      strictly_by caller cs falls.1,
      All-filter (λ (d : Reservation). d.caller == caller) (λ (d : Reservation). d.high <ℤ c.high) cs
          falls.0,
    )

contains_by : (caller : ℕ) (cs : List Reservation) (c : Reservation) → Contains cs c
    → c.caller ≡ caller → Contains (reservations_by caller cs) c
contains_by caller [] c inside is = absurd (omega arith)
contains_by caller (d ∷ cs) c inside is =
    let goal : Bool → Type 0 =
    λ b. Contains (cond b (d ∷ reservations_by caller cs) (reservations_by caller cs)) c in
    ⊎_elim (search (rules, goal))
    (λ (behind : Contains cs c). let rest = contains_by caller cs c behind is in elim
    (d.caller == caller) as goal [ true ↦ (suc rest.0, omega arith, rest.2) | false ↦ rest ])
    (contains_cases d cs c inside)

sum_same : (g h : Record → ℕ) (rs : List Record) → All (λ (r : Record). g r ≡ h r) rs
    → sum_by g rs ≡ sum_by h rs
sum_same g h [] all = refl
sum_same g h (r ∷ rs) all =
    search (
      rules,
      sum_by-cons,
      all 0 r (omega arith),
      sum_same g h rs (λ i d lt. all (suc i) d (omega arith)),
    )

module _ (start : Allocator) (count : ℕ) (records : List Record) (at : ℤ)
    (k : IsClosed start count records at)
    (whole : length records ≡ count) where
  respects_one : (r : Record) → Contains records r → Respects (reservations_of records) r
  respects_one r inside =
      let log : List Reservation = k.log in
      let kept = All-contains (IsKept start at log) records r k.each inside in
      let own : List Reservation = own_calls r in
      let is = reservations_are start count records at k whole in
      let falls = follow_falls (cursor start) log at k.follow in
      let requests = follow_requests (cursor start) log at k.follow in
      let own_in = all_own (Contains log) r.entries kept.marks.known in
      let own_requests : All (λ (c : Reservation). 0 < c.requested) own = λ i c lt. All-contains
      (λ (d : Reservation). 0 < d.requested) log _ requests (own_in i c lt) in
      let weighs : WeighSame own (reservations_by r.number log) = λ f.
      let g : Record → ℕ = λ (x : Record). sum_by f (own_calls x) in
      let h : Record → ℕ = λ (x : Record). sum_by (only r.number f) (own_calls x) in
      let parted : sum_by h records ≡ sum_by (of_number r.number g) records = search
      (rules, sum_same, of_number, All-weaker, own_by_caller) in
      let alone = one_of_number r.number g records r (k.numbers r.number) inside refl in
      search (rules, only, sum_by_caller) in
      let same =
      same_fall own (reservations_by r.number log)
      (own_fall r.entries own_requests kept.marks.order)
      (strictly_by r.number log falls)
      (λ i c lt. contains_by r.number log _ (own_in i c lt) (kept.caller i c lt))
      weighs in
      record {
        own = ap (reservations_by r.number) is ∙ sym same;
        after = rw is (follows log r.entries falls requests kept.marks.known kept.marks.order);
      }

  pub respects_all : All (Respects (reservations_of records)) records
  respects_all = search (rules, All-weaker, respects_one, All-contains_itself)
