-- The end of a phase where some reservers are lost: the front of the pool counts as reserved. The
-- handles of a list differ if each is there at most once, so those of some reservers differ if
-- those of all do.
use Rattle.ent_shared.proofs.Common.{rules, ◌≡◌, ℕ, ◌+◌, ◌-◌, ◌*◌, ◌^◌, ◌<◌, ◌≤◌, ℤ, pos, ◌+ℤ◌}
use Rattle.ent_shared.proofs.Common.{◌-ℤ◌, ◌≤ℤ◌, get_or, List, [], ◌∷◌, length, take, drop, sym, ap}
use Rattle.ent_shared.proofs.Common.{◌∙◌, arith, AllPairs, ◌⊎◌, ◌≢◌, neg_ℤ, zero-add, refl, map, Ok}
use Rattle.ent_shared.proofs.Common.{Err, common_steps, true, false, cond, nat_le, sum_by}
use Rattle.ent_shared.proofs.Common.{drop-take, take-take, take_all, drop_all, length-take}
use Rattle.ent_shared.proofs.Common.{take-append-drop, All-head, All-tail, All-nil, All-append}
use Rattle.ent_shared.proofs.Common.{All-take, All-drop, All-contains, All-contains_itself}
use Rattle.ent_shared.proofs.Common.{All-permutation, int_max, ints, Handle, Entities, quota}
use Rattle.ent_shared.proofs.Common.{Allocator, available, cursor, top, asked_at, pool_at, listed}
use Rattle.ent_shared.proofs.Common.{settled, IsSound, IsLive, length-available, flushed-laid_out}
use Rattle.ent_shared.proofs.Common.{asked_at-is, listed-IsPermutation, not_apart}
use Rattle.ent_shared.proofs.Common.{given_in-distinct, Reservation, Record, Opening, low}
use Rattle.ent_shared.proofs.Common.{own_reservations, requested_by, after_loss, Follow}
use Rattle.ent_shared.proofs.Common.{HasItsReply, IsClosed, history_of, handles_of, as_call}
use Rattle.ent_shared.proofs.Common.{own_of_all, All, Contains, w64, to_z, of_z, IsPhase, Shared}
use Rattle.ent_shared.proofs.Common.{TableId, nat_tests, AllPairs-cons, sum_by-append, sum_by-cons}
use Rattle.ent_shared.proofs.Common.{handle_eq, handles_in, AllPairs-head, AllPairs-tail, weigh}
use Rattle.ent_alloc.specs.History as history
use Rattle.ent_shared.proofs.Words.{requested}
use Rattle.ent_shared.proofs.Records.{all_own}
use Rattle.ent_shared.proofs.Closing.{asked_in_all, cursor_least, cursor_greatest, final_cursor}
use Rattle.ent_shared.proofs.Settling.{IsLater, legal_from}
use Rattle.ent_shared.proofs.Sorting.{contains_cases}
use Rattle.ent_shared.proofs.Weighing.{sum_by-flat_map}

abbrev Differ : List Handle → Type 0
Differ = AllPairs (λ g h. g ≢ h)

-- 1 for this handle, 0 for others
abbrev is_one : Handle → Handle → ℕ
is_one h g = cond (handle_eq g h) 1 0

one_itself : (h : Handle) → is_one h h ≡ 1
one_itself h = grind (arith, nat_tests)

same_parts : (g h : Handle) → g.index ≡ h.index → g.generation ≡ h.generation → g ≡ h
same_parts g h index generation i = record { index = index i; generation = generation i }

none_other : (g h : Handle) → h ≢ g → is_one h g ≡ 0
none_other g h other = grind (arith, common_steps, nat_tests, same_parts h g, other)

same_or_none : (g h : Handle) → (h ≡ g) ⊎ (is_one h g ≡ 0)
same_or_none g h = grind (arith, common_steps, nat_tests, same_parts h g)

none_there : (h : Handle) (gs : List Handle) → All (λ g. h ≢ g) gs → sum_by (is_one h) gs ≡ 0
none_there h [] all = refl
none_there h (g ∷ gs) all = grind (
  arith,
  common_steps,
  sum_by-cons,
  none_there h gs (All-tail (λ g. h ≢ g) g gs all),
  none_other g h (All-head (λ g. h ≢ g) g gs all),
)

-- each handle of the list counts
counted : (h : Handle) (gs : List Handle) → Contains gs h → 1 ≤ sum_by (is_one h) gs
counted h [] inside = absurd (omega arith)
counted h (g ∷ gs) inside =
    grind (arith, common_steps, sum_by-cons, contains_cases, one_itself h, counted h gs)

-- a list of different handles has each at most once
once : (gs : List Handle) → Differ gs → (h : Handle) → sum_by (is_one h) gs ≤ 1
once [] differ h = omega arith
once (g ∷ gs) differ h =
    let rest = once gs (AllPairs-tail (λ g h. g ≢ h) g gs differ) h in
    let others = none_there g gs (AllPairs-head (λ g h. g ≢ h) g gs differ) in
    grind (arith, common_steps, sum_by-cons, same_or_none g h, one_itself g)

-- and the other way around
differ_if_once : (gs : List Handle) → ((h : Handle) → sum_by (is_one h) gs ≤ 1) → Differ gs
differ_if_once [] few = λ i j d lt within. absurd (omega arith)
differ_if_once (g ∷ gs) few =
    AllPairs-cons (λ g h. g ≢ h) g gs
    (λ i d lt same.
    grind (arith, common_steps, sum_by-cons, one_itself g, few g, counted, All-contains_itself))
    (differ_if_once gs (λ h. grind (arith, common_steps, sum_by-cons, few h)))

-- a handle is in replies as often as in the lists of their handles
in_replies : (h : Handle) (cs : List Reservation) → sum_by (is_one h) (handles_of cs)
    ≡ sum_by (λ (c : Reservation). sum_by (is_one h) (handles_in c.reply)) cs
in_replies h [] = refl
in_replies h (c ∷ cs) = search (rules, sum_by-append, sum_by-cons, in_replies h cs)

-- what these records were given differs if what all were given does
pub some_differ : (records : List Record) (log : List Reservation)
    → ((f : Reservation → ℕ) → weigh f records ≤ sum_by f log) → Differ (handles_of log)
    → Differ (handles_of (own_of_all records))
some_differ records log some differ =
    differ_if_once _
    (λ h.
    grind (
      arith,
      common_steps,
      in_replies,
      once (handles_of log) differ h,
      some (λ c. sum_by (is_one h) (handles_in c.reply)),
      sum_by-flat_map,
    ))

-- what lies inside the front of a list is in it
front_contains : (xs : List Handle) (k n asked : ℕ) → k + n ≤ asked
    → All (Contains (take asked xs)) (take n (drop k xs))
front_contains xs k n asked le =
    rw (sym (drop-take k n xs), sym (take-take (k + n) asked xs le))
    (All-drop (Contains (take asked xs)) k _
    (All-take (Contains (take asked xs)) (k + n) _ (All-contains_itself (take asked xs))))

-- the handles of a call are in the front that reaches as far
reservation_contains : (start : Allocator) (c : Reservation) (asked : ℕ) → HasItsReply start c
    → asked_at (top start) c.high + c.requested ≤ asked
    → All (Contains (take asked (available start))) (history.handles_in c.reply)
reservation_contains start c asked replied le =
    let pool : List Handle = pool_at start c.high in
    let P : Handle → Type 0 = Contains (take asked (available start)) in
    let all = All-permutation P _ _ (listed-IsPermutation start.made (take c.requested pool))
    (front_contains (available start) (asked_at (top start) c.high) c.requested asked le) in
    rw replied (elim (nat_le c.requested (length pool)) as (λ b. All P (history.handles_in (cond b
    (Ok (listed start.made (take c.requested pool)))
    (Err (record { wanted = c.requested; left = length pool })))))
    [ true ↦ all | false ↦ All-nil P ])

reservations_contain : (start : Allocator) (asked : ℕ) (cs : List Reservation)
    → All (HasItsReply start) cs
    → All (λ (c : Reservation). asked_at (top start) c.high + c.requested ≤ asked) cs
    → All (Contains (take asked (available start))) (handles_of cs)
reservations_contain start asked [] replied within = search (rules, All-nil)
reservations_contain start asked (c ∷ cs) replied within =
    search (
      rules,
      All-append,
      reservation_contains start c asked,
      reservations_contain start asked cs,
      All-head,
      All-tail,
    )

-- each call lies between the top and the cursor
reservations_within : (start : Allocator) (high : ℤ) (cs : List Reservation) (end : ℤ) (asked : ℕ)
    → high ≤ℤ pos (top start) → pos (top start) ≡ end +ℤ pos asked → Follow high cs end
    → All (λ (c : Reservation). asked_at (top start) c.high + c.requested ≤ asked) cs
    × (end ≤ℤ high)
reservations_within start high [] end asked up is f = grind (arith, common_steps)
reservations_within start high (c ∷ cs) end asked up is f =
    grind (
      arith,
      common_steps,
      reservations_within start (low c) cs end asked (omega (arith, ints)) is f.2,
    )

-- what the closing call with lost reservers owes and gives
pub record Lost (here start : Allocator) (count : ℕ) (records : List Record) (at floor : ℤ) : Type 0
  where
    pub asked : ℕ
    pub some_asked : sum_by requested_by records ≤ asked
    pub all_asked : length records ≡ count → sum_by requested_by records ≡ asked
    pub most_asked : sum_by (λ (r : Record). r.left) records + asked ≤ count * quota
    pub reached : All (λ (r : Record). cursor (after_loss start asked) ≤ℤ r.mark) records
    pub whole : length records ≡ count → cursor (after_loss start asked)
        ≡ cursor (history.after_history start (history_of records))
    pub least : pos (top here) ≤ℤ (at +ℤ pos (2 ^ 50))
    pub greatest : floor ≤ℤ pos (top here)
    pub all_given : pos 0 ≤ℤ (at +ℤ pos (here.limits.slots - here.made)) → floor ≡ at
    pub after : settled here (asked_at (top here) floor) (asked_at (top here) at)
        ≡ after_loss start asked
    pub given : All (λ (r : Record). All (Contains (take asked start.pool))
        (handles_of (own_reservations r.entries))) records
    pub none_live : All (λ h. ¬ (IsLive start h)) (take asked start.pool)
    pub distinct : AllPairs (λ g h. g ≢ h) (handles_of (own_of_all records))

-- the two numbers that are set
module _ (start : Allocator) (sound : IsSound start) (flushed : start.asked ≡ 0) where
  all_pool : available start ≡ start.pool
  all_pool = search (rules, flushed-laid_out)

  length_pool : length start.pool ≡ top start + (start.limits.slots - start.made)
  length_pool = ap length (sym all_pool) ∙ length-available start sound

  loss_is : (given asked : ℕ) → given ≤ asked → (given ≡ asked) ⊎ (given ≡ length start.pool)
      → settled start given asked ≡ after_loss start asked
  loss_is given asked le which =
      search (rules, flushed-laid_out, take_all, length-take, drop_all, zero-add)

  lost_at : (count : ℕ) (records : List Record) (at floor : ℤ) → count ≤ 1024
      → IsClosed start count records at
      → floor ≡ int_max at (neg_ℤ (pos (start.limits.slots - start.made)))
      → Lost start start count records at floor
  lost_at count records at floor few k is =
      let asked : ℕ = sum_by requested k.log in
      let all = asked_in_all start count records at k sound flushed in
      let below = cursor_greatest start count records at k sound flushed in
      let within : pos (top start) ≡ at +ℤ pos asked = omega (arith, ints) in
      let pool = length_pool in
      let floor_in : floor ≤ℤ pos (top start) = grind (arith, ints) in
      let a = asked_at-is (top start) at below in
      let g = asked_at-is (top start) floor floor_in in
      let given : ℕ = asked_at (top start) floor in
      let asked_is : asked_at (top start) at ≡ asked = omega (arith, ints) in
      let cases : (given ≡ asked) ⊎ (given ≡ length start.pool) = grind (arith, ints) in
      let W : Reservation → Type 0 =
      λ (c : Reservation). asked_at (top start) c.high + c.requested ≤ asked in
      let log_within : All W k.log =
      (reservations_within start (cursor start) k.log at asked (omega (arith, ints))
      within k.follow).0 in
      let left : cursor (after_loss start asked) ≡ cursor start -ℤ pos asked = search
      (rules, take-append-drop, all_pool, ints) in
      record {
        asked = asked;
        some_asked = k.some requested;
        all_asked = λ all_here. k.all all_here requested;
        most_asked = k.quota;
        reached = λ i d lt. let mark = (k.each i d lt).marks.mark in omega (arith, ints);
        whole =
            λ all_here. left
            ∙ sym
            (final_cursor start count records at k sound flushed all_here ∙ (omega (arith, ints)));
        least = cursor_least start count records at k sound flushed few;
        greatest = floor_in;
        all_given = λ room. grind (arith, ints);
        after = search (rules, loss_is);
        given = λ i d lt. let own =
            all_own (Contains k.log) (get_or records i d).entries (k.each i d lt).marks.known in
            rw (sym all_pool)
            (reservations_contain start asked _
            (λ j c l. All-contains (HasItsReply start) k.log _
            k.replied (own j c l)) (λ j c l. All-contains W k.log _ log_within (own j c l)));
        none_live =
            All-take (λ h. ¬ (IsLive start h)) asked start.pool
            (search (rules, all_pool, not_apart));
        distinct =
            let itself : IsLater start start =
            record { sound = sound; available_is = refl; made_is = refl } in
            some_differ records k.log k.some (given_in-distinct start (map as_call k.log) sound
            (legal_from start start k.log at itself k.follow k.replied));
      }

pub lost : (entities : Entities) (n room : ℕ) (key : Opening) (word : TableId) (shared : Shared)
    (records : List Record)
    (at floor roomed : ℤ) → IsPhase entities n key word
    → record { word = word; start = entities.allocator; rows = entities.rows; count = n } ≡ shared
    → IsClosed key.entities.allocator key.count records at
    → room ≡ entities.allocator.limits.slots - entities.allocator.made → room < 2 ^ 32
    → roomed ≡ pos room
    → floor ≡ int_max (to_z w64 (of_z w64 at))
    (to_z w64 (of_z w64 (pos 0 -ℤ to_z w64 (of_z w64 roomed))))
    → Lost entities.allocator shared.start shared.count records (to_z w64 (of_z w64 at))
    (to_z w64 (of_z w64 floor))
lost entities n room key word shared records at floor roomed phase view closed room_is room_small
    roomed_is floor_is =
    let here : Allocator = entities.allocator in
    let small = phase.begins.top in
    let k : IsClosed here n records at = rw phase.key_is at closed in
    let least = cursor_least here n records at k phase.sound phase.begins.flushed phase.few in
    let greatest = cursor_greatest here n records at k phase.sound phase.begins.flushed in
    let at_word : to_z w64 (of_z w64 at) ≡ at = omega (arith, ints) in
    let end_word : to_z w64 (of_z w64 (pos 0 -ℤ to_z w64 (of_z w64 roomed)))
    ≡ neg_ℤ (pos (here.limits.slots - here.made)) = omega (arith, ints) in
    let max_is = rw (at_word, end_word) at floor_is in
    let floor_word : to_z w64 (of_z w64 floor) ≡ floor = grind (arith, ints) in
    rw (← view, at_word, floor_word)
    (lost_at here phase.sound phase.begins.flushed n records at floor phase.few k max_is)
