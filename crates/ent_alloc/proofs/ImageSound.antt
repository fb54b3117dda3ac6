-- Sound slots are those of a sound allocator, and a sound allocator has sound slots.
use Rattle.ent_alloc.proofs.Common.{IsTrue, ◌≡◌, sym, ◌∙◌, ℕ, ◌+◌, ◌-◌, rules, ◌<◌, ◌≤◌, List}
use Rattle.ent_alloc.proofs.Common.{length, reverse}
use Rattle.ent_alloc.proofs.Common.{filter, arith, IsPermutation-reverse, length-map}
use Rattle.ent_alloc.proofs.Common.{reverse-reverse, All-filter, AllPairs-filter, Handle, Limits}
use Rattle.ent_alloc.proofs.Common.{Roster, Allocator, available, is_old, AreApart, Entities, idle}
use Rattle.ent_alloc.proofs.Common.{allocator_of, entities_of, AreReserved, occupants, roster_of}
use Rattle.ent_alloc.proofs.Common.{AreLinked, handle_at, AreSlots, HasImage, roster, SlotRecord}
use Rattle.std.specs.FinSet as sets
use Rattle.ent_alloc.proofs.ListLaws.{AllPairs-IsPermutation}
use Rattle.ent_alloc.proofs.Replies.{apart_both}
use Rattle.ent_alloc.proofs.ImageSlots.{All-reverse, slots_sound}
use Rattle.ent_alloc.proofs.LaidOut.{old_ones_below}
use Rattle.ent_alloc.proofs.PoolLaw.{taken_is, aside_is}
use Rattle.ent_alloc.proofs.Retired.{retired-rest}
use Rattle.ent_alloc.proofs.Occupants.{len_occupants}
use Rattle.ent_alloc.proofs.Meaning.{top_is, old_is, available_is}
use Rattle.ent_alloc.proofs.ImageLinked.{AreTied, are_slots}

-- so records and positions that point at each other are linked, and no slot counts twice
module _ (limits : Limits) (records : List SlotRecord) (pending : List ℕ) (live : ℕ)
    (tied : AreTied limits records pending) (counted : live ≡ length (occupants 0 records)) where
  pub each_once : live + length pending ≤ length records
  each_once =
      let r = roster_of limits records pending in
      let sound = slots_sound r (are_slots limits records pending tied) in
      search (
        rules,
        arith,
        len_occupants 0 records,
        length-map pending (handle_at records),
        retired-rest (allocator_of r 0 0) sound,
        top_is r 0 0 (omega arith) sound,
      )

  pub linked : AreLinked limits records pending (length records - length pending - live)
  linked = let once = each_once in search (rules, arith, tied)

-- ---- from an allocator to its slots

module _ (e : Entities) (has : HasImage e) where
  abbrev s : Allocator
  s = e.allocator

  abbrev old : List Handle
  old = filter (is_old s.made) (available s)

  pub roster_slots : AreSlots (roster e)
  roster_slots =
      let below = All-reverse (λ h. h.index < s.made) old (old_ones_below s) in
      let apart =
      AllPairs-IsPermutation AreApart apart_both old (reverse old) (IsPermutation-reverse old)
      (AllPairs-filter AreApart (is_old s.made) (available s) has.sound.apart) in
      let live_within =
      λ (h : Handle) (alive : IsTrue (sets.contains s.live h)).
      (has.sound.live h alive).within in
      let live_made =
      λ (h : Handle) (alive : IsTrue (sets.contains s.live h)). (has.sound.live h alive).made in
      let live_apart =
      λ (h : Handle) (alive : IsTrue (sets.contains s.live h)). All-reverse (AreApart h) old
      (All-filter (is_old s.made) (AreApart h) (available s) (has.sound.live h alive).apart) in
      search (rules, All-reverse, All-filter)

  -- what there is to give is what the slots give if nothing is reserved
  pub idle_is : idle (roster e) ≡ available s
  idle_is = search (rules, reverse-reverse)

  -- the entities are those of their slots
  pub entities_are : e ≡ entities_of (roster e) s.asked (length s.taken)
  entities_are = search (rules, has.sound.pool, taken_is, aside_is, idle_is)

-- ---- entities of the same slots and requests

pub same_entities : (d e : Entities) → HasImage d → HasImage e → roster d ≡ roster e
    → d.allocator.asked ≡ e.allocator.asked → length d.allocator.taken ≡ length e.allocator.taken
    → d ≡ e
same_entities d e is_d is_e slots asked taken = entities_are d is_d
    ∙ (λ i. entities_of (slots i) (asked i) (taken i)) ∙ sym (entities_are e is_e)

-- ---- what reserved entities are

module _ (r : Roster) (asked given : ℕ) (reserved : AreReserved r asked given) where
  pub roster_is : roster (entities_of r asked given) ≡ r
  roster_is = search (rules, available_is, old_is, reverse-reverse)
