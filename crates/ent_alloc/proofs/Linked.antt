-- Slots that get their next occupants, and slots that are made: what becomes of the records, that
-- the vectors stay linked, and that the roster gains the occupants.
use Rattle.ent_alloc.proofs.Common.{rules, ◌≡◌, ◌≢◌, ℕ, ◌+◌, ◌<◌, ◌||◌, List, [], ◌∷◌, length}
use Rattle.ent_alloc.proofs.Common.{get_or, set, map, arith, suc, common_steps, list_any, eq_by_cmp}
use Rattle.ent_alloc.proofs.Common.{get_or-set_other, length-set, Handle, handle_cmp}
use Rattle.ent_alloc.proofs.Common.{handle_cmp_total, handle_cmp-IsAntisymmetric, SlotRecord}
use Rattle.ent_alloc.proofs.Common.{Pending, occupants, record_at, rows_from, reuse, reused}
use Rattle.ent_alloc.proofs.Common.{handle_at, ◌-◌, ◌≤◌, ◌++◌, take, drop, replicate, slice_get, ap}
use Rattle.ent_alloc.proofs.Common.{◌∙◌, Some, cases_lt, slice_get_read, take_at, drop_at}
use Rattle.ent_alloc.proofs.Common.{get_or-map, length-map, get_or-take, get_or-drop, length-drop}
use Rattle.ent_alloc.proofs.Common.{length-append, length-replicate, length_push, drop-map}
use Rattle.ent_alloc.proofs.Common.{take-map, get_or_append_left, get_or-append_right}
use Rattle.ent_alloc.proofs.Common.{get_or-replicate, get_or_push, Limits, fresh, no_slot}
use Rattle.ent_alloc.proofs.Common.{new_record, roster_of, AreLinked}
use Rattle.std.specs.FinSet as sets
use Rattle.ent_alloc.proofs.ListLaws.{map_alike}
use Rattle.ent_alloc.proofs.Occupants.{is_occupant, contains_occupants, is_occupant-set}
use Rattle.ent_alloc.proofs.Occupants.{length-occupants-set, ties, rows_from-set, occupants-append}
use Rattle.ent_alloc.proofs.Occupants.{occupants-new, from_list-append, rows_from-made}
use Rattle.ent_alloc.proofs.FreshHandles.{length-fresh}

-- The slots of these indexes wait at the positions from a first one on.
pub record Wait (records : List SlotRecord) (from : ℕ) (indices : List ℕ) : Type 0 where
  pub made : (k : ℕ) → k < length indices → get_or indices k 0 < length records
  pub pending : (k : ℕ) → k < length indices → (record_at records (get_or indices k 0)).occupancy
      ≡ Pending (from + k)

-- the records after the first of them got its occupant
abbrev after : List SlotRecord → ℕ → List SlotRecord
after records index = set records index (reuse (record_at records index))

-- the others still wait
Wait-rest : (records : List SlotRecord) (from index : ℕ) (indices : List ℕ)
    → Wait records from (index ∷ indices) → Wait (after records index) (from + 1) indices
Wait-rest records from index indices wait = record {
  made = λ k within. search (rules, arith, wait.made (suc k), length-set);
  pending = λ k within. grind (arith, common_steps, wait.pending 0, wait.pending (suc k));
}

-- one that waits now waited before, and is none of these
pub record StillWaits (records : List SlotRecord) (indices : List ℕ) (at position : ℕ) : Type 0
  where
    pub before : (record_at records at).occupancy ≡ Pending position
    pub apart : (k : ℕ) → k < length indices → get_or indices k 0 ≢ at

-- What became of the records: the generations and the rows stay, a slot that waits at an earlier
-- position goes on waiting there, and each of these slots has an occupant more.
pub record AreReused (records : List SlotRecord) (from : ℕ) (indices : List ℕ)
    (new : List SlotRecord) : Type 0
  where
    pub long : length new ≡ length records
    pub generation : (at : ℕ) → (record_at new at).generation ≡ (record_at records at).generation
    pub waits : (at position : ℕ) → (record_at records at).occupancy ≡ Pending position
        → position < from → (record_at new at).occupancy ≡ Pending position
    pub waited : (at position : ℕ) → (record_at new at).occupancy ≡ Pending position
        → StillWaits records indices at position
    pub count : length (occupants 0 new) ≡ length (occupants 0 records) + length indices
    pub rows : rows_from 0 new ≡ rows_from 0 records
    pub lives : (q : Handle) → is_occupant new q
        ≡ (list_any (eq_by_cmp handle_cmp q) (map (handle_at records) indices)
        || is_occupant records q)

generation-reuse : (records : List SlotRecord) (index at : ℕ) → index < length records
    → (record_at (after records index) at).generation ≡ (record_at records at).generation
generation-reuse records index at within = grind (arith, common_steps)

pub reused_are : (records : List SlotRecord) (from : ℕ) (indices : List ℕ)
    → Wait records from indices → AreReused records from indices (reused records indices)
reused_are records from [] wait = search rules
reused_are records from (index ∷ indices) wait =
    let here = wait.pending 0 (omega arith) in
    let within = wait.made 0 (omega arith) in
    let later =
    reused_are (after records index) (from + 1) indices
    (Wait-rest records from index indices wait) in
    let same : map (handle_at (after records index)) indices ≡ map (handle_at records) indices =
    search
    (rules, map_alike, generation-reuse) in
    record {
      long = search (rules, later.long);
      generation = search (rules, later.generation, generation-reuse);
      waits = λ at position is below. search (rules, later.waits at position, get_or-set_other);
      waited = λ at position is. let still = later.waited at position is in
          grind (arith, common_steps, still.before, still.apart);
      count = search (rules, later.count, length-occupants-set);
      rows = search (rules, later.rows, rows_from-set);
      lives = λ q. let set_is =
          is_occupant-set records index (reuse (record_at records index)) q within in
          grind (arith, common_steps, later.lives q, same, ties q (handle_at records index));
    }

-- so the set of the occupants is the union
pub live-reused : (records : List SlotRecord) (from : ℕ) (indices : List ℕ)
    → Wait records from indices
    → sets.from_list {R = handle_cmp} (occupants 0 (reused records indices))
    ≡ sets.union (sets.from_list (occupants 0 records))
    (sets.from_list (map (handle_at records) indices))
live-reused records from indices wait =
    sets.same_set handle_cmp_total handle_cmp-IsAntisymmetric _ _
    (λ q. let tells = (reused_are records from indices wait).lives q in
    let joined = sets.contains-union
    handle_cmp_total in
    search (rules, contains_occupants, sets.contains-from_list, joined, handle_cmp_total))

-- ---- reusing

module _ (limits : Limits) (records : List SlotRecord) (pending : List ℕ) (retired from : ℕ)
    (linked : AreLinked limits records pending retired) (within : from ≤ length pending) where
  pub Wait-drop : Wait records from (drop from pending)
  Wait-drop = search (rules, length-drop, get_or-drop)

  abbrev alive : List SlotRecord
  alive = reused records (drop from pending)

  became : AreReused records from (drop from pending) alive
  became = reused_are records from (drop from pending) Wait-drop

  position_below : (index position : ℕ) → index < length records
      → (record_at alive index).occupancy ≡ Pending position → position < from
  position_below index position made is =
      let still = became.waited index position is in
      let back = linked.back index position made still.before in
      search (rules, cases_lt, length-drop, get_or-drop, still.apart (position - from), back)

  pub reuse_keeps_links : AreLinked limits alive (take from pending) retired
  reuse_keeps_links =
      let rest = length-drop from pending in
      search (
        rules,
        became,
        became.generation,
        position_below,
        get_or-take,
        became.waits,
        became.waited,
        Wait-drop,
      )

  pub roster_of-reuse : let was = roster_of limits records pending in
      roster_of limits alive (take from pending) ≡ record was {
        live = sets.union was.live (sets.from_list (drop from was.pending));
        pending = take from was.pending;
      }
  roster_of-reuse =
      search (rules, live-reused, Wait-drop, drop-map, became, became.generation, take-map)

-- one slot, which waits last
module _ (limits : Limits) (records : List SlotRecord) (pending rest : List ℕ) (retired index : ℕ)
    (linked : AreLinked limits records pending retired) (last : pending ≡ rest ++ index ∷ []) where
  long : length pending ≡ length rest + 1
  long = ap length last ∙ length_push rest index

  taken : take (length rest) pending ≡ rest
  taken = search (rules, take_at)

  dropped : drop (length rest) pending ≡ index ∷ []
  dropped = search (rules, drop_at)

  pub last_made : index < length records
  last_made = search (rules, long, get_or_push)

  pub reuse_last_keeps_links : AreLinked limits
      (set records index (reuse (record_at records index))) rest retired
  reuse_last_keeps_links =
      search (
        rules,
        arith,
        long,
        dropped,
        taken,
        reuse_keeps_links limits records pending retired (length rest) linked,
      )

  pub roster_of-reuse_last : roster_of limits (set records index (reuse (record_at records index)))
      rest
      ≡ (let was = roster_of limits records pending in record was {
        live = sets.union was.live (sets.from_list (handle_at records index ∷ []));
        pending = take (length was.pending - 1) was.pending;
      })
  roster_of-reuse_last = search (
    rules,
    arith,
    long,
    length-map,
    drop-map (handle_at records) (length rest) pending,
    dropped,
    taken,
    roster_of-reuse limits records pending retired (length rest) linked,
  )

  pub last_handle : slice_get (map (handle_at records) pending)
      (length (map (handle_at records) pending) - 1) ≡ Some (handle_at records index)
  last_handle =
      let f = handle_at records in
      let n = length (map f pending) in
      let at : get_or pending (n - 1) 0 ≡ index = search (rules, get_or_push, long, length-map) in
      search (
        rules,
        arith,
        long,
        length-map pending f,
        slice_get_read (map f pending) n (n - 1) (f index),
        get_or-map f pending (n - 1) 0 (f index),
        at,
      )

-- ---- making

module _ (limits : Limits) (records : List SlotRecord) (pending : List ℕ) (retired count : ℕ)
    (linked : AreLinked limits records pending retired) (room : length records + count ≤ limits.slots)
  where
    abbrev grown : List SlotRecord
    grown = records ++ replicate count new_record

    old_stays : (index : ℕ) → index < length records
        → record_at grown index ≡ record_at records index
    old_stays index made =
        get_or_append_left records (replicate count new_record) no_slot index made

    new_is : (index : ℕ) → length records ≤ index → index < length grown
        → record_at grown index ≡ new_record
    new_is index past within =
        search (rules, length-append, length-replicate, get_or-append_right, get_or-replicate)

    grown_long : length grown ≡ length records + count
    grown_long = search (rules, length-append, length-replicate)

    pub make_keeps_links : AreLinked limits grown pending retired
    make_keeps_links =
        let long = grown_long in
        search (
          rules,
          cases_lt,
          new_is,
          old_stays,
          occupants-append,
          occupants-new,
          length-append,
          length-fresh,
        )

    pub roster_of-make : let was = roster_of limits records pending in
        roster_of limits grown pending
        ≡ record was {
          live = sets.union was.live (sets.from_list (fresh was.made count));
          made = was.made + count;
        }
    roster_of-make =
        let long = grown_long in
        let rows = rows_from-made 0 count records in
        search (rules, occupants-append, occupants-new, from_list-append, map_alike, old_stays)
