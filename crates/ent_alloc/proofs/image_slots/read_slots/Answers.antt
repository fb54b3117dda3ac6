use Rattle.ent_alloc.proofs.Common.{rules, ◌≡◌, ◌+◌, ◌*◌, ◌<◌, ◌++◌, ℕ, List, [], length, arith}
use Rattle.ent_alloc.proofs.Common.{sym, ap, ◌∙◌, drop, get_or, flat_map, append_assoc}
use Rattle.ent_alloc.proofs.Common.{flat_map_more, SlotRecord, record_bytes, with_waiting}
use Rattle.ent_alloc.proofs.ImageWords.{pieces, before_end, length-piece, cut, none_cut}
use Rattle.ent_alloc.proofs.ImageFaults.{no_row_next, no_place_next, no_fault, position_free}
use Rattle.ent_alloc.proofs.ImageFaults.{no_slot_next, next_slot, can_wait, position_taken}
use Rattle.ent_alloc.proofs.ImageLinked.{read_more, length-with_waiting, written_back}
use Rattle.ent_alloc.proofs.image_slots.read_slots.Goals.{After-len-index, After-deref}
use Rattle.ent_alloc.proofs.image_slots.read_slots.Goals as goal

-- the piece that is read next
module _ (c : After-len-index) where
  abbrev bytes : List ℕ
  bytes = c.args.bytes.now

  abbrev index : ℕ
  index = c.loop-slot.slot-index

  abbrev chunks : List (List ℕ)
  chunks = c.as_chunks.result.0.now

  abbrev more : List ℕ
  more = drop (12 * (index + 1)) bytes

  below_made : length c.loop-slot.records.items < c.args.made
  below_made = search (rules, before_end)

  index_is : length c.loop-slot.records.items ≡ c.len-index.result
  index_is = omega (arith, c.len-index.ensures)

  piece_long : (d : List ℕ) → length (get_or chunks index d) ≡ 12
  piece_long d = search (rules, length-piece)

  piece_cut : (d : List ℕ) → drop (12 * index) bytes ≡ get_or chunks index d ++ more
  piece_cut d = search (rules, cut)

  slot_first : (s : SlotRecord) (d : List ℕ) → get_or chunks index d ≡ record_bytes s
      → drop (12 * index) bytes ≡ record_bytes s ++ more
  slot_first s d is = piece_cut d ∙ ap (◌++ more) is

-- all were read
read_all : (c : After-deref) → length c.loop-slot.records.items ≡ c.args.made
read_all c = search (rules, pieces)

pub returns-in_default-clause-refused : goal.returns-in_default-clause-refused
returns-in_default-clause-refused c not_memory r are limits made waiting same =
    let below = below_made (goal.at.returns-in_default-clause-refused c).After-len-index in
    let none =
    none_cut c.args.bytes.now c.args.made c.as_chunks.result.0.now c.loop-slot.slot-index _
    c.as_chunks.ensures.front c.as_chunks.ensures.front_len c.requires.long c.loop-slot-test.true
    r.limits
    (rw (← limits) at c.in_default.ensures.none) in
    search (rules, no_slot_next)

pub returns-in_default-clause-fault : goal.returns-in_default-clause-fault
returns-in_default-clause-fault c not_memory =
    let here = (goal.at.returns-in_default-clause-fault c).After-len-index in
    let loop = c.loop-slot.invariant in
    rw (← loop.waiting, c.slot_fault.ensures, ← index_is here)
    (no_row_next c.args.limits (search rules) _
    c.loop-slot.pending.items _ (bytes here) c.loop-slot.live loop.read loop.bytes c.args.made _
    (more here)
    (piece_cut here _) (piece_long here _) c.in_default.ensures.row (below_made here))

pub returns-then-not-admit-clause-refused : goal.returns-then-not-admit-clause-refused
returns-then-not-admit-clause-refused c not_memory r are limits made waiting same =
    let here = (goal.at.returns-then-not-admit-clause-refused c).After-len-index in
    let loop = c.loop-slot.invariant in
    let records = c.loop-slot.records.items in
    let slot = c.in-Some.record in
    let within = rw (← limits) at c.in-Some.ensures.within in
    let read = rw (← limits) at loop.read in
    let below = below_made here in
    let bytes_are = same ∙ loop.bytes ∙ ap (flat_map record_bytes records ++◌)
    (slot_first here slot _ c.in-Some.ensures.bytes) in
    let is =
    next_slot r are records (more here) slot (omega arith) within c.in-Some.ensures.fits
    bytes_are in
    let can =
    can_wait r are records c.loop-slot.pending.items _ c.loop-slot.live read (omega arith)
    (same ∙ loop.bytes)
    (loop.waiting ∙ sym waiting) slot is in
    c.admit.ensures.refused c.if-not-admit.true (rw c.deref_mut.ensures.value can)

pub returns-then-not-admit-clause-fault : goal.returns-then-not-admit-clause-fault
returns-then-not-admit-clause-fault c not_memory =
    let here = (goal.at.returns-then-not-admit-clause-fault c).After-len-index in
    let loop = c.loop-slot.invariant in
    let slot = c.in-Some.record in
    rw (← loop.waiting, c.slot_fault-then-not-admit.ensures, ← index_is here)
    (no_place_next c.args.limits (search
    rules)
    _ c.loop-slot.pending.items _ (bytes here) c.loop-slot.live loop.read loop.bytes c.args.made
    slot (more here)
    (slot_first here slot _ c.in-Some.ensures.bytes) c.in-Some.ensures.within c.in-Some.ensures.fits
    (λ can. c.admit.ensures.refused c.if-not-admit.true (rw c.deref_mut.ensures.value can))
    (below_made here))

pub loop-slot-preserved : goal.loop-slot-preserved
loop-slot-preserved c =
    let here = (goal.at.loop-slot-preserved c).After-len-index in
    let loop = c.loop-slot.invariant in
    let records = c.loop-slot.records.items in
    let pending = c.loop-slot.pending.items in
    let slot = c.in-Some.record in
    let below = below_made here in
    let lent : c.deref_mut.result.now ≡ pending = c.deref_mut.ensures.value in
    let new : c.admit.new.pending ≡ with_waiting pending slot.occupancy (length records) =
    rw (← lent, index_is here) (c.admit.ensures.placed c.if-not-admit.false) in
    let long = length-with_waiting pending slot.occupancy (length records) in
    let placed =
    written_back c.loop-slot.pending.len pending c.admit.new.pending (ap length new ∙ long)
    (search rules)
    ∙ new in
    let more_read =
    read_more c.args.limits records pending c.loop-slot.live loop.read slot
    c.in-Some.ensures.within
    c.in-Some.ensures.fits (rw (← lent) (c.admit.ensures.waits c.if-not-admit.false)) (omega
    (arith, c.ranges.made.fits)) in
    let items = rw c.of.ensures at c.push_reserved.ensures.items in
    let lives = ap (c.loop-slot.live +◌) c.occupants_of-live.ensures.value in
    record {
      read = rw (items, placed, lives) more_read;
      made = search rules;
      waiting = ap length placed ∙ long ∙ loop.waiting;
      few = omega (arith, loop.few, c.occupants_of-live.ensures.most);
      bytes =
          rw (items, ← flat_map_more record_bytes [] records slot, append_assoc)
          (loop.bytes ∙ ap (flat_map record_bytes records ++◌)
          (slot_first here slot _ c.in-Some.ensures.bytes));
      room = search rules;
    }

pub returns-in-Some-vacant_position-clause-refused :
    goal.returns-in-Some-vacant_position-clause-refused
returns-in-Some-vacant_position-clause-refused c not_memory r are limits made waiting same =
    search (
      rules,
      position_taken,
      read_all (goal.at.returns-in-Some-vacant_position-clause-refused c).After-deref,
    )

pub returns-in-Some-vacant_position-clause-fault : goal.returns-in-Some-vacant_position-clause-fault
returns-in-Some-vacant_position-clause-fault c not_memory =
    let loop = c.loop-slot.invariant in
    let all = read_all (goal.at.returns-in-Some-vacant_position-clause-fault c).After-deref in
    let found = c.in-Some-vacant_position.ensures in
    let lent = c.deref.ensures.value in
    rw (← loop.waiting)
    (position_free c.args.limits (search rules) c.loop-slot.records.items
    c.loop-slot.pending.items
    _ c.args.bytes.now c.loop-slot.live loop.read loop.bytes c.args.made all
    c.in-Some-vacant_position.position
    c.requires.few (rw lent at found.some) (rw lent at found.is) (rw lent at found.first))

pub returns-in-None-clause-faultless : goal.returns-in-None-clause-faultless
returns-in-None-clause-faultless c = search (
  rules,
  no_fault,
  read_all (goal.at.returns-in-None-clause-faultless c).After-deref,
  c.loop-slot.invariant.waiting,
  c.in-None.ensures.none,
)
