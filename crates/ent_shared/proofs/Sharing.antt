-- The reservers of a phase, as they are made one by one, and as they are handed in and their
-- records are merged.
use Rattle.ent_shared.proofs.Common.{rules, ◌≡◌, ℕ, zero, suc, ◌+◌, ◌-◌, ◌<◌, ◌≤◌, ℤ, List, [], ◌∷◌}
use Rattle.ent_shared.proofs.Common.{◌++◌, map, take, drop, refl, ap, arith, All, map-append}
use Rattle.ent_shared.proofs.Common.{All-nil, All-cons, TableId, Me, handle_cmp, Allocator, cursor}
use Rattle.ent_shared.proofs.Common.{Record, quota, opened, opened_records, Reserver, IsOf, own_of}
use Rattle.ent_shared.proofs.Common.{IsHolding, common_steps, All-head, All-tail, length, sum_by}
use Rattle.ent_shared.proofs.Common.{int_min, length-map, fold-map, records_of, least_floor}
use Rattle.ent_shared.proofs.Common.{All-right}
use Rattle.std.specs.FinMap as maps
use Rattle.ent_shared.proofs.Settling.{least_floor-more}

abbrev pub holding : TableId → Record → Reserver
holding word r = record { word = word; own = r }

-- the first reservers are made, and the holder has the other records
pub record AreShared (start : Allocator) (n number : ℕ) (word : TableId) (made : List Reserver)
    (seat : TableId) (me : Me (Unit {0}) (List Record)) : Type 0 where
  pub seat_is : seat ≡ word
  pub left : me ≡ (opened_records start number (n - number), [])
  pub made_is : made ≡ map (holding word) (opened_records start 0 number)

pub opened-first : (start : Allocator) (number n : ℕ) → number < n
    → opened_records start number (n - number)
    ≡ opened start number ∷ opened_records start (number + 1) (n - (number + 1))
unfolding opened_records
opened-first start number n below = search rules

pub opened-last : (start : Allocator) (from many : ℕ) → opened_records start from (suc many)
    ≡ opened_records start from many ++ opened start (from + many) ∷ []
unfolding opened_records
opened-last start from zero = ap (λ (k : ℕ). opened start k ∷ []) (omega arith)
opened-last start from (suc many) = grind (arith, common_steps, opened-last start (from + 1) many)

pub none_shared : (start : Allocator) (n : ℕ) (word seat : TableId) (made : List Reserver)
    (me : Me (Unit {0}) (List Record)) → made ≡ [] → seat ≡ word
    → me ≡ (opened_records start 0 n, []) → AreShared start n 0 word made seat me
unfolding opened_records
none_shared start n word seat made me bare same left = search (rules, bare, same, left)

module _ (start : Allocator) (n number : ℕ) (word seat : TableId) (made : List Reserver)
    (me : Me (Unit {0}) (List Record)) (below : number < n)
    (d : AreShared start n number word made seat me) where
  pub next_is : me.0 ≡ opened start number ∷ opened_records start (number + 1) (n - (number + 1))
  next_is = search (rules, opened-first)

  pub next_holding : (views : List (List Record)) (floor : ℤ) → views ≡ take 1 me.0 ∷ []
      → floor ≡ cursor start → IsHolding views number quota floor
  next_holding views floor is at = search (rules, next_is)

  pub shared_more : (later : TableId) (after : Me (Unit {0}) (List Record)) (r : Reserver)
      → later ≡ seat
      → after ≡ (drop 1 me.0, []) → (views : List (List Record)) → views ≡ take 1 me.0 ∷ []
      → r ≡ record { word = seat; own = own_of views } → (now : List Reserver)
      → now ≡ made ++ r ∷ []
      → AreShared start n (number + 1) word now later after
  shared_more later after r same left views is r_is now now_is = search (
    rules,
    next_is,
    map-append,
    d.made_is,
    d.seat_is,
    next_holding views,
    opened-last start 0 number,
  )

pub own_again : (word : TableId) (rs : List Record)
    → map (λ (r : Reserver). r.own) (map (holding word) rs) ≡ rs
own_again word [] = refl
own_again word (r ∷ rs) = search (rules, own_again word rs)

pub all_of : (start : Allocator) (rows : maps.FinMap handle_cmp ℕ) (count : ℕ) (word : TableId)
    (number many : ℕ)
    → number + many ≤ count
    → All (IsOf (record { word = word; start = start; rows = rows; count = count }))
    (map (holding word) (opened_records start number many))
unfolding opened_records
all_of start rows count word number zero within = search (rules, All-nil)
all_of start rows count word number (suc many) within = search
    (rules, All-cons, all_of start rows count word (number + 1) many (omega arith))

pub none_used : (start : Allocator) (word : TableId) (number many : ℕ)
    → All (λ (r : Reserver). r.own.entries ≡ [])
    (map (holding word) (opened_records start number many))
unfolding opened_records
none_used start word number zero = search (rules, All-nil)
none_used start word number (suc many) =
    search (rules, All-cons, none_used start word (number + 1) many)

pub item_is : (P : Reserver → Type 0) (items yielded now rest : List Reserver) (r : Reserver)
    → yielded ++ now ≡ items → now ≡ r ∷ rest → All P items → P r
item_is P items yielded now rest r all first holds =
    All-head P r rest (All-right P yielded (r ∷ rest) (search rules))

pub items_on : (items yielded now rest : List Reserver) (r : Reserver) → yielded ++ now ≡ items
    → now ≡ r ∷ rest → (yielded ++ r ∷ []) ++ rest ≡ items
items_on items yielded now rest r all first = grind (arith, common_steps)

pub length-records_of : (rs : List Reserver) → length (records_of rs) ≡ length rs
length-records_of rs = length-map rs (λ (r : Reserver). r.own)

pub sum_by-records_of : (f : Record → ℕ) (rs : List Reserver)
    → sum_by f (records_of rs) ≡ sum_by (λ (r : Reserver). f r.own) rs
sum_by-records_of f rs = search (rules, fold-map)

pub records_on : (before after : List Record) (yielded : List Reserver) (r : Reserver)
    (records : List Record) → before ≡ records_of yielded → after ≡ before ++ records
    → records ≡ r.own ∷ [] → after ≡ records_of (yielded ++ r ∷ [])
records_on before after yielded r records was now one = grind (arith, common_steps)

pub floor_on : (top before after own : ℤ) (yielded : List Reserver) (r : Reserver)
    → before ≡ least_floor top (records_of yielded) → after ≡ int_min before own → own ≡ r.own.floor
    → after ≡ least_floor top (records_of (yielded ++ r ∷ []))
floor_on top before after own yielded r was now is = search (rules, least_floor-more, map-append)

-- what holds of all records holds of the reservers that have them
pub all_owners : (P : Record → Type 0) (rs : List Reserver) → All P (records_of rs)
    → All (λ (r : Reserver). P r.own) rs
all_owners P [] all = All-nil _
all_owners P (r ∷ rs) all = search (rules, All-cons, All-head, all_owners P rs, All-tail)
