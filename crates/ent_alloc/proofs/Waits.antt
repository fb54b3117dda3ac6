-- Slots that are made, and wait after all others: the vectors stay linked, and the roster has their
-- first occupants.
use Rattle.ent_alloc.proofs.Common.{rules, ◌≡◌, ℕ, zero, suc, ◌+◌, ◌-◌, ◌<◌, ◌≤◌, refl, sym, ap}
use Rattle.ent_alloc.proofs.Common.{◌∙◌, List, [], ◌∷◌, ◌++◌, length, get_or, map, arith}
use Rattle.ent_alloc.proofs.Common.{range_with_len, common_steps, cases_lt, length-append}
use Rattle.ent_alloc.proofs.Common.{get_or_append_left, get_or-append-add, append-nil, add-zero}
use Rattle.ent_alloc.proofs.Common.{length-range_with_len, get_or-range_with_len, Limits, fresh}
use Rattle.ent_alloc.proofs.Common.{SlotRecord, record_at, no_slot, handle_at, occupants, rows_from}
use Rattle.ent_alloc.proofs.Common.{roster_of, AreLinked, waiting_at, new_waiting}
use Rattle.ent_alloc.proofs.FreshHandles.{first_of_slot, fresh-next, fresh-none}
use Rattle.ent_alloc.proofs.ListLaws.{map_alike}
use Rattle.ent_alloc.proofs.Occupants.{occupants-append}
use Rattle.std.proofs.lemmas.List.{map-append}

pub length-new_waiting : (position count : ℕ) → length (new_waiting position count) ≡ count
length-new_waiting position zero = refl
length-new_waiting position (suc count) = ap (λ n. suc n) (length-new_waiting (position + 1) count)

pub get_or-new_waiting : (position count k : ℕ) (d : SlotRecord) → k < count
    → get_or (new_waiting position count) k d ≡ waiting_at 1 (position + k)
get_or-new_waiting position zero k d below = absurd (omega arith)
get_or-new_waiting position (suc count) zero d below = ap (waiting_at 1) (omega arith)
get_or-new_waiting position (suc count) (suc k) d below =
    search (rules, arith, get_or-new_waiting (position + 1) count k)

pub new_waiting-push : (position count : ℕ)
    → new_waiting position (count + 1)
    ≡ new_waiting position count ++ waiting_at 1 (position + count) ∷ []
new_waiting-push position zero = search (rules, add-zero)
new_waiting-push position (suc count) = search (rules, new_waiting-push (position + 1) count)

pub range-push : (from count : ℕ)
    → range_with_len from (count + 1) ≡ range_with_len from count ++ (from + count) ∷ []
range-push from zero = search (rules, add-zero)
range-push from (suc count) = search (rules, range-push (from + 1) count)

fresh-range : (from count : ℕ) → map first_of_slot (range_with_len from count) ≡ fresh from count
fresh-range from zero = sym (fresh-none from)
fresh-range from (suc count) = search (rules, fresh-next, fresh-range (from + 1) count)

occupants-waiting : (from position count : ℕ) → occupants from (new_waiting position count) ≡ []
occupants-waiting from position zero = refl
occupants-waiting from position (suc count) = occupants-waiting (from + 1) (position + 1) count

rows-waiting : (from position count : ℕ) → rows_from from (new_waiting position count) ≡ []
rows-waiting from position zero = refl
rows-waiting from position (suc count) = rows-waiting (from + 1) (position + 1) count

rows-made : (from position count : ℕ) (records : List SlotRecord)
    → rows_from from (records ++ new_waiting position count) ≡ rows_from from records
rows-made from position count [] = rows-waiting from position count
rows-made from position count (r ∷ records) =
    search (rules, rows-made (from + 1) position count records)

module _ (limits : Limits) (records : List SlotRecord) (pending : List ℕ) (retired count : ℕ)
    (linked : AreLinked limits records pending retired) (room : length records + count ≤ limits.slots)
  where
    abbrev grown : List SlotRecord
    grown = records ++ new_waiting (length pending) count

    abbrev order : List ℕ
    order = pending ++ range_with_len (length records) count

    grown_long : length grown ≡ length records + count
    grown_long = search (rules, length-append, length-new_waiting)

    order_long : length order ≡ length pending + count
    order_long = search (rules, length-append, length-range_with_len)

    old_stays : (index : ℕ) → index < length records
        → record_at grown index ≡ record_at records index
    old_stays index made =
        get_or_append_left records (new_waiting (length pending) count) no_slot index made

    new_is : (index : ℕ) → length records ≤ index → index < length records + count
        → record_at grown index ≡ waiting_at 1 (length pending + (index - length records))
    new_is index past within = grind (arith, common_steps, get_or-append-add, get_or-new_waiting)

    old_place : (position : ℕ) → position < length pending
        → get_or order position 0 ≡ get_or pending position 0
    old_place position within =
        get_or_append_left pending (range_with_len (length records) count) 0 position within

    new_place : (position : ℕ) → length pending ≤ position → position < length pending + count
        → get_or order position 0 ≡ length records + (position - length pending)
    new_place position past within =
        grind (arith, common_steps, get_or-append-add, get_or-range_with_len)

    -- what is so of the generation of each old slot, and of the first one, is so of each slot's
    generation_in : (P : ℕ → Type 0)
        → ((index : ℕ) → index < length records → P (record_at records index).generation) → P 1
        → (index : ℕ) → index < length grown → P (record_at grown index).generation
    generation_in P each first index within =
        search (rules, cases_lt, old_stays, new_is, grown_long)

    living : occupants 0 grown ≡ occupants 0 records
    living = search (rules, occupants-append, occupants-waiting, append-nil)

    pub waiting_keeps_links : AreLinked limits grown order retired
    waiting_keeps_links = search (
      rules,
      generation_in (λ g. 1 ≤ g) linked.least,
      generation_in (λ g. g ≤ limits.generations) linked.greatest,
      linked.limited,
      grown_long,
      order_long,
      living,
      cases_lt,
      old_stays,
      new_is,
      old_place,
      new_place,
      linked.listed,
      linked.back,
    )

    olds : map (handle_at grown) pending ≡ map (handle_at records) pending
    olds = search (rules, map_alike, old_stays, linked.made)

    news : map (handle_at grown) (range_with_len (length records) count)
        ≡ fresh (length records) count
    news =
        map_alike (handle_at grown) first_of_slot (range_with_len (length records) count)
        (search (rules, get_or-range_with_len, length-range_with_len, new_is))
        ∙ fresh-range (length records) count

    pub roster_of-waiting : let was = roster_of limits records pending in
        roster_of limits grown order
        ≡ record was { pending = was.pending ++ fresh was.made count; made = was.made + count }
    roster_of-waiting = search (
      rules,
      map-append,
      olds,
      news,
      living,
      rows-made 0 (length pending) count records,
      grown_long,
    )
