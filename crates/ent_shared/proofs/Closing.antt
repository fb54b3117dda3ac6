-- The end of a phase: the history of all records is legal, and the cursor and the least floor tell
-- the allocator after it.
use Rattle.ent_shared.proofs.Histories.{falls_apart, reservations_are, respects_all, numbers_differ}
use Rattle.ent_shared.proofs.Common.{rules, ◌≡◌, ◌≢◌, ℕ, ◌+◌, ◌-◌, ◌^◌, ◌≤◌, ℤ, pos, ◌+ℤ◌, ◌-ℤ◌}
use Rattle.ent_shared.proofs.Common.{◌≤ℤ◌, ◌<ℤ◌, List, length, map, sym, ap, ◌∙◌, arith, sum}
use Rattle.ent_shared.proofs.Common.{length-append, AllPairs, ◌↔◌, ◌⊎◌, common_steps, sum_by}
use Rattle.ent_shared.proofs.Common.{cases_lt, length_permutation, ints, Handle, Entities}
use Rattle.ent_shared.proofs.Common.{Allocator, available, cursor, top, asked_at, settled}
use Rattle.ent_shared.proofs.Common.{after_flush, IsSound, IsLive, after_takes-sound}
use Rattle.ent_shared.proofs.Common.{available-after_takes, asked-after_takes, cursor-after_takes}
use Rattle.ent_shared.proofs.Common.{length-taken, length-available, flushed-laid_out, asked_at-is}
use Rattle.ent_shared.proofs.Common.{after_history-takes, given_in-distinct, given_in-not_live}
use Rattle.ent_shared.proofs.Common.{given_in-taken, given_in-bring_to_life, after_history-settled}
use Rattle.ent_shared.proofs.Common.{Record, Opening, least_floor, IsClosed, as_call, own_of_all}
use Rattle.ent_shared.proofs.Common.{reservations_of, history_of, Respects, All, Contains, w64}
use Rattle.ent_shared.proofs.Common.{to_z, of_z, Shared, TableId, IsPhase}
use Rattle.ent_alloc.specs.History as history
use Rattle.ent_shared.proofs.Words.{requested, follow_asked, few_asked}
use Rattle.ent_shared.proofs.Sorting.{follow_falls}
use Rattle.ent_shared.proofs.Settling.{IsLater, legal_from, min_right, floor_below, taken_floor}
use Rattle.ent_shared.proofs.Settling.{floor_sorted, floor_of_all}

-- what the closing call owes and gives, in the numbers of its code
pub record Ended (here start : Allocator) (records : List Record) (at floor : ℤ) : Type 0 where
  pub least : pos (top here) ≤ℤ (at +ℤ pos (2 ^ 50))
  pub greatest : floor ≤ℤ pos (top here)
  pub ordered : at ≤ℤ floor
  pub reachable : pos 0 ≤ℤ (floor +ℤ pos (here.limits.slots - here.made))
  pub all_given : pos 0 ≤ℤ (at +ℤ pos (here.limits.slots - here.made)) → floor ≡ at
  pub is_legal : history.IsLegal start (history_of records)
  pub respects : All (Respects (reservations_of records)) records
  pub after : settled here (asked_at (top here) floor) (asked_at (top here) at)
      ≡ history.after_history start (history_of records)
  pub all_fall : AllPairs (λ earlier later. later.high <ℤ earlier.high) (reservations_of records)
  pub all_numbers : AllPairs (λ r s. r.number ≢ s.number) records
  pub all_distinct : AllPairs (λ g h. g ≢ h) (history.given_in (history_of records))
  pub none_live : All (λ h. ¬ (IsLive start h)) (history.given_in (history_of records))
  pub brings_to_life : (h : Handle)
      → IsLive (after_flush (history.after_history start (history_of records))) h ↔ IsLive start h
      ⊎ Contains (history.given_in (history_of records)) h

module _ (start : Allocator) (count : ℕ) (records : List Record) (at : ℤ)
    (k : IsClosed start count records at)
    (sound : IsSound start) (flushed : start.asked ≡ 0) where
  pub asked_in_all : cursor start ≡ at +ℤ pos (sum_by requested k.log)
  asked_in_all = follow_asked (cursor start) k.log at k.follow

  pub cursor_least : count ≤ 1024 → pos (top start) ≤ℤ (at +ℤ pos (2 ^ 50))
  cursor_least few =
      omega (
        arith,
        ints,
        asked_in_all,
        few_asked (sum_by requested k.log) count (omega (arith, k.quota)) few,
      )

  pub cursor_greatest : at ≤ℤ pos (top start)
  cursor_greatest = omega (arith, ints, asked_in_all)

  module _ (whole : length records ≡ count) where
    abbrev final : Allocator
    final = history.after_history start (history_of records)

    history_is : history_of records ≡ map as_call k.log
    history_is = ap (map as_call) (reservations_are start count records at k whole)

    itself : IsLater start start
    itself = search rules

    legal : history.IsLegal start (history_of records)
    legal = search (rules, history_is, legal_from, itself)

    -- the least floor tells how many are taken
    pub floor_is : least_floor (cursor start) records ≡ pos (top start) -ℤ pos (length final.taken)
    floor_is =
        let none = ap length (flushed-laid_out start sound flushed).taken in
        let all = floor_of_all start at k.log records k.each in
        let sorted = floor_sorted start (own_of_all records) in
        let log = reservations_are start count records at k whole in
        let taken = taken_floor start start k.log at flushed itself k.follow in
        search
        (rules, min_right, history_is, floor_below start k.log, all, sorted, log, none, taken)

    asked_is : sum (history.requests_of (history_of records)) ≡ sum_by requested k.log
    asked_is = grind (arith, common_steps, history_is)

    final_asked : final.asked ≡ sum_by requested k.log
    final_asked = search (rules, asked-after_takes, asked_is, after_history-takes)

    -- its cursor is the one that the word told
    pub final_cursor : cursor final ≡ at
    final_cursor =
        search (rules, cursor-after_takes, after_history-takes, asked_is, asked_in_all, ints)

    final_sound : IsSound final
    final_sound = search (rules, after_history-takes, after_takes-sound)

    final_available : available final ≡ available start
    final_available = search (rules, after_history-takes, available-after_takes)

    taken_few : length final.taken ≤ top start + (start.limits.slots - start.made)
    taken_few = search (rules, final_available, length-available, length-append)

    taken_all : sum_by requested k.log ≤ top start + (start.limits.slots - start.made)
        → length final.taken ≡ sum_by requested k.log
    taken_all enough =
        search (rules, final_available, length-available, final_asked, length-taken, final_sound)

    module _ (floor : ℤ) (is : floor ≡ least_floor (pos (top start)) records) where
      floor_here : floor ≡ pos (top start) -ℤ pos (length final.taken)
      floor_here = search (rules, ints, floor_is)

      ended_at : count ≤ 1024 → Ended start start records at floor
      ended_at few =
          let here = floor_here in
          let taken = taken_few in
          let calls : List history.Call = history_of records in
          record {
            least = cursor_least few;
            greatest = omega (arith, ints);
            ordered =
                search (rules, here, asked_in_all, taken_few, cases_lt, requested, ints, taken_all);
            reachable = omega (arith, ints);
            all_given = search (rules, floor_here, asked_in_all, taken_all);
            is_legal = legal;
            respects = respects_all start count records at k whole;
            after =
                let given : asked_at (top start) floor ≡ length final.taken = search
                (rules, asked_at-is, floor_here, ints) in
                let asked : asked_at (top start) at ≡ sum (history.requests_of calls) = search
                (rules, asked_at-is, cursor_greatest, asked_is, asked_in_all, ints) in
                let long : length final.taken ≡ length (history.given_in calls) = search
                (rules, length_permutation, given_in-taken, legal) in
                (λ i. settled start ((given ∙ long) i) (asked i))
                ∙ sym (after_history-settled start calls sound legal
                flushed);
            all_fall = rw (reservations_are start count records at k whole)
                (falls_apart k.log (follow_falls (cursor start) k.log at k.follow));
            all_numbers = numbers_differ records k.numbers;
            all_distinct = given_in-distinct start calls sound legal;
            none_live = given_in-not_live start calls sound legal;
            brings_to_life = given_in-bring_to_life start calls sound legal flushed;
          }

-- the same of the numbers as the code has them
pub ended : (entities : Entities) (n : ℕ) (key : Opening) (word : TableId) (shared : Shared)
    (records : List Record)
    (at floor from : ℤ) → IsPhase entities n key word
    → record { word = word; start = entities.allocator; rows = entities.rows; count = n } ≡ shared
    → length records ≡ shared.count → IsClosed key.entities.allocator key.count records at
    → from ≡ pos (top entities.allocator) → floor ≡ least_floor (to_z w64 (of_z w64 from)) records
    → Ended entities.allocator shared.start records (to_z w64 (of_z w64 at))
    (to_z w64 (of_z w64 floor))
ended entities n key word shared records at floor from phase view whole closed from_is floor_is =
    let here : Allocator = entities.allocator in
    let small = phase.begins.top in
    let k : IsClosed here n records at = rw phase.key_is at closed in
    let from_word : to_z w64 (of_z w64 from) ≡ pos (top here) = omega (arith, ints) in
    let e = ended_at here n records at k phase.sound phase.begins.flushed
    (whole ∙ sym (ap (λ (s : Shared). s.count) view)) floor
    (floor_is ∙ ap (λ (z : ℤ). least_floor z records) from_word) phase.few in
    let at_word : to_z w64 (of_z w64 at) ≡ at =
    omega (arith, ints, e.ordered, e.least, e.greatest) in
    let floor_word : to_z w64 (of_z w64 floor) ≡ floor =
    omega (arith, ints, e.ordered, e.least, e.greatest) in
    rw (at_word, floor_word, sym (ap (λ (s : Shared). s.start) view)) e
