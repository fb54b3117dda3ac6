-- What looking a handle up in the records tells, and one slot changed: its occupant gets a row, is
-- freed, or is the last one. The vectors stay linked, and the roster changes by that handle.
use Rattle.ent_alloc.proofs.Common.{common_steps, rules, ◌≡◌, ◌≢◌, ℕ, ◌+◌, ◌-◌, ◌<◌, ◌≤◌, Bool}
use Rattle.ent_alloc.proofs.Common.{true, false, ◌&&◌, eqb, ltb, List, length, get_or, set, drop}
use Rattle.ent_alloc.proofs.Common.{map, refl, arith, cases_eq, false≢true, and_parts, and_from}
use Rattle.ent_alloc.proofs.Common.{eqb-true, leb-true, ltb-true, eq-eqb, le-leb, lt-ltb}
use Rattle.ent_alloc.proofs.Common.{false_from_ne_true, get_or-drop, get_or-map, length-drop}
use Rattle.ent_alloc.proofs.Common.{length-map, length-set, get_or-set_same, get_or-set_other}
use Rattle.ent_alloc.proofs.Common.{Handle, handle_cmp, handle_cmp_total}
use Rattle.ent_alloc.proofs.Common.{handle_cmp-IsAntisymmetric, Limits, fresh, stands_in}
use Rattle.ent_alloc.proofs.Common.{SlotRecord, Occupancy, AliveWithRow, Pending, Retired}
use Rattle.ent_alloc.proofs.Common.{occupants, occupancy_of, lives, row_kept, record_at, no_slot}
use Rattle.ent_alloc.proofs.Common.{handle_at, rows_from, is_pending_from, waits_from, roster_of}
use Rattle.ent_alloc.proofs.Common.{AreLinked, Contains, [], ◌∷◌, ◌++◌, None, cases_lt, length_push}
use Rattle.ent_alloc.proofs.Common.{map_push, get_or_append_left, get_or_push, following, is_alive}
use Rattle.ent_alloc.proofs.Common.{row_of, Roster}
use Rattle.std.specs.FinSet as sets
use Rattle.std.specs.FinMap as maps
use Rattle.ent_alloc.proofs.ListLaws.{map_alike}
use Rattle.ent_alloc.proofs.HandleSets.{Contains-from_stands_in, stands_in-from_Contains}
use Rattle.ent_alloc.proofs.FreshHandles.{length-fresh, get_or-fresh}
use Rattle.ent_alloc.proofs.Occupants.{is_occupant, contains_occupants, ties, one}
use Rattle.ent_alloc.proofs.Occupants.{length-occupants-set, occupant_made, occupant_alive, row_at}
use Rattle.ent_alloc.proofs.Occupants.{get_rows}

-- the handle is the next one of a slot that waits at this position or after it
abbrev pub waits_at : List SlotRecord → Handle → ℕ → Bool
waits_at records h from = ltb h.index (length records)
    && (is_pending_from (record_at records h.index).occupancy from
    && eqb (record_at records h.index).generation h.generation)

-- ---- one look-up tells all of a handle

module _ (records : List SlotRecord) (h : Handle) where
  pub is_occupant-occupancy : is_occupant records h ≡ lives (occupancy_of records h)
  is_occupant-occupancy = grind (arith, common_steps)

  pub row_at-occupancy : row_at records h ≡ row_kept (occupancy_of records h)
  row_at-occupancy = grind (arith, common_steps)

  pub waits_at-occupancy : (from : ℕ)
      → waits_at records h from ≡ waits_from (occupancy_of records h) from
  waits_at-occupancy from = grind (arith, common_steps)

-- ---- who waits

-- the position that a slot waits at
waiting_position : (t : Occupancy) (from : ℕ) → is_pending_from t from ≡ true
    → (position : ℕ) × (t ≡ Pending position) × (from ≤ position)
waiting_position (Pending position) from is = (position, refl, leb-true from position is)
waiting_position _ from is = absurd (false≢true is)

module _ (limits : Limits) (records : List SlotRecord) (pending : List ℕ) (retired : ℕ)
    (linked : AreLinked limits records pending retired) where
  at_position : (from k : ℕ) (d : Handle) → from + k < length pending
      → get_or (drop from (map (handle_at records) pending)) k d
      ≡ handle_at records (get_or pending (from + k) 0)
  at_position from k d within = search (rules, get_or-drop, get_or-map)

  long : (from : ℕ) → length (drop from (map (handle_at records) pending)) ≡ length pending - from
  long from = search (rules, length-drop, length-map)

  found : (h : Handle) (from : ℕ) → Contains (drop from (map (handle_at records) pending)) h
      → waits_at records h from ≡ true
  found h from (k, within, is) = search (rules, long, at_position, and_from, lt-ltb, le-leb, eq-eqb)

  waiting : (h : Handle) (from : ℕ) → waits_at records h from ≡ true
      → Contains (drop from (map (handle_at records) pending)) h
  waiting h from is =
      let parts = and_parts (ltb h.index (length records)) _ is in
      let rest = and_parts (is_pending_from (record_at records h.index).occupancy from) _ parts.1 in
      let position = waiting_position (record_at records h.index).occupancy from rest.0 in
      search (
        rules,
        linked.listed h.index position.0,
        linked.back h.index position.0,
        ltb-true h.index (length records) parts.0,
        position,
        eqb-true _ _ rest.1,
        at_position from (position.0 - from) h,
        long,
      )

  -- who waits after a position is told by the record
  pub stands_in-pending : (h : Handle) (from : ℕ) → waits_at records h from
      ≡ stands_in (drop from (map (handle_at records) pending)) h
  stands_in-pending h from =
      grind (arith, common_steps, waiting h from, found h from, Contains-from_stands_in)

-- ---- fresh handles

pub fresh_yes : (h : Handle) (made count : ℕ) → h.generation ≡ 1 → made ≤ h.index
    → h.index - made < count → stands_in (fresh made count) h ≡ true
fresh_yes h made count first after within = stands_in-from_Contains (fresh made count) h
    (h.index - made, omega (arith, length-fresh made count), search (rules, get_or-fresh))

pub fresh_no : (h : Handle) (made count : ℕ)
    → (h.generation ≡ 1 → made ≤ h.index → h.index - made < count → ⊥)
    → stands_in (fresh made count) h ≡ false
fresh_no h made count none =
    search (rules, false_from_ne_true, Contains-from_stands_in, length-fresh, get_or-fresh)

-- ---- rows

module _ (limits : Limits) (records : List SlotRecord) (pending : List ℕ) (retired : ℕ)
    (h : Handle) (row : ℕ)
    (linked : AreLinked limits records pending retired) (lives : is_occupant records h ≡ true) where
  abbrev labelled : SlotRecord
  labelled =
      record { generation = (record_at records h.index).generation; occupancy = AliveWithRow row }

  abbrev relabelled : List SlotRecord
  relabelled = set records h.index labelled

  slot_made : h.index < length records
  slot_made = occupant_made records h lives

  others : (at : ℕ) → at ≢ h.index → record_at relabelled at ≡ record_at records at
  others at ne = get_or-set_other records h.index at labelled no_slot ne

  itself : (at : ℕ) → at ≡ h.index → record_at relabelled at ≡ labelled
  itself at e = search (rules, get_or-set_same, slot_made)

  generations : (at : ℕ) → (record_at relabelled at).generation ≡ (record_at records at).generation
  generations at = search (rules, cases_eq, itself, others)

  pub set_row_keeps_links : AreLinked limits relabelled pending retired
  set_row_keeps_links = search
      (rules, length-set, length-occupants-set, slot_made, one, occupant_alive, generations, others)

  same_live : sets.from_list {R = handle_cmp} (occupants 0 relabelled)
      ≡ sets.from_list (occupants 0 records)
  same_live =
      sets.same_set handle_cmp_total handle_cmp-IsAntisymmetric _ _
      (λ q.
      grind (arith, common_steps, contains_occupants relabelled q, contains_occupants records q))

  new_rows : maps.from_entries {R = handle_cmp} (rows_from 0 relabelled)
      ≡ maps.insert (maps.from_entries (rows_from 0 records)) h row
  new_rows = maps.same_map handle_cmp_total handle_cmp-IsAntisymmetric _ _
      (λ q. let put =
      maps.get-insert handle_cmp_total (maps.from_entries (rows_from 0 records)) h row q in
      grind
      (arith, common_steps, ties q h, get_rows relabelled q, get_rows records q))

  pub roster_of-set_row : let was = roster_of limits records pending in
      roster_of limits relabelled pending ≡ record was { rows = maps.insert was.rows h row }
  roster_of-set_row = search (rules, map_alike, generations, same_live, new_rows, length-set)

module _ (limits : Limits) (records : List SlotRecord) (pending : List ℕ) (gone : ℕ) (h : Handle)
    (linked : AreLinked limits records pending gone) (lives : is_occupant records h ≡ true) where
  made_slot : h.index < length records
  made_slot = occupant_made records h lives

  apart : (position : ℕ) → position < length pending → get_or pending position 0 ≢ h.index
  apart position below e = search (rules, occupant_alive, false≢true)

  -- its record has no occupant any more
  module _ (left : SlotRecord) (dead : is_alive left.occupancy ≡ false)
      (bare : row_of left.occupancy ≡ None) where
    abbrev changed : List SlotRecord
    changed = set records h.index left

    other : (at : ℕ) → at ≢ h.index → record_at changed at ≡ record_at records at
    other at ne = get_or-set_other records h.index at left no_slot ne

    same : record_at changed h.index ≡ left
    same = get_or-set_same records h.index left no_slot made_slot

    fewer : length (occupants 0 changed) + 1 ≡ length (occupants 0 records)
    fewer = search (rules, length-occupants-set, made_slot, one, occupant_alive)

    live_is : sets.from_list {R = handle_cmp} (occupants 0 changed)
        ≡ sets.remove (sets.from_list (occupants 0 records)) h
    live_is = sets.same_set handle_cmp_total handle_cmp-IsAntisymmetric _ _
        (λ q. let gone =
        sets.contains-remove handle_cmp_total (sets.from_list (occupants 0 records)) h q in
        grind
        (arith, common_steps, contains_occupants changed q, contains_occupants records q))

    rows_is : maps.from_entries {R = handle_cmp} (rows_from 0 changed)
        ≡ maps.remove (maps.from_entries (rows_from 0 records)) h
    rows_is = maps.same_map handle_cmp_total handle_cmp-IsAntisymmetric _ _
        (λ q. let gone =
        maps.get-remove handle_cmp_total (maps.from_entries (rows_from 0 records)) h q in grind
        (arith, common_steps, ties q h, get_rows changed q, get_rows records q))

    pending_is : map (handle_at changed) pending ≡ map (handle_at records) pending
    pending_is = search (rules, map_alike, other, apart)

  -- ---- the slot waits for the next one

  abbrev vacant : SlotRecord
  vacant = record { generation = h.generation + 1; occupancy = Pending (length pending) }

  abbrev released : List SlotRecord
  released = set records h.index vacant

  pub one_lives : length pending + gone + 1 ≤ length records
  one_lives = let counted = linked.counted in omega (arith, fewer vacant refl refl)

  pub release_keeps_links : h.generation ≢ limits.generations
      → AreLinked limits released (pending ++ h.index ∷ []) gone
  release_keeps_links before =
      let less = fewer vacant refl refl in
      let made = made_slot in
      search (rules, length_push, cases_lt, cases_eq, get_or_append_left, get_or_push, apart)

  abbrev was : Roster
  was = roster_of limits records pending

  pub roster_of-release : roster_of limits released (pending ++ h.index ∷ []) ≡ record was {
    live = sets.remove was.live h;
    rows = maps.remove was.rows h;
    pending = was.pending ++ following h ∷ [];
  }
  roster_of-release = search (rules, pending_is, map_push, same, live_is, rows_is, length-set)

  -- ---- the slot is retired

  abbrev unused : SlotRecord
  unused = record { generation = (record_at records h.index).generation; occupancy = Retired }

  abbrev retired : List SlotRecord
  retired = set records h.index unused

  pub retire_keeps_links : AreLinked limits retired pending (gone + 1)
  retire_keeps_links = search (rules, fewer unused refl refl, made_slot)

  pub roster_of-retire : roster_of limits retired pending
      ≡ record was { live = sets.remove was.live h; rows = maps.remove was.rows h }
  roster_of-retire = search (rules, live_is, rows_is, pending_is, length-set)
