use Rattle.ent_alloc.proofs.Common.{rules, ◌≡◌, ℕ, ◌+◌, ◌-◌, ◌≤◌, List, ◌++◌, length, map, take}
use Rattle.ent_alloc.proofs.Common.{drop, replicate, arith, common_steps, append_assoc}
use Rattle.ent_alloc.proofs.Common.{with_items_is, take_rest, drop-map, SlotRecord, fresh}
use Rattle.ent_alloc.proofs.Common.{roster_of, handle_at, new_record, reused, AreLinked}
use Rattle.std.specs.FinSet as sets
use Rattle.ent_alloc.proofs.Linked.{make_keeps_links, roster_of-make, reuse_keeps_links}
use Rattle.ent_alloc.proofs.Linked.{roster_of-reuse}
use Rattle.ent_alloc.proofs.slots.Slots.bring_to_life.Goals.{After-reuse_all}
use Rattle.ent_alloc.proofs.slots.Slots.bring_to_life.Goals as goal

-- the handles that waited are those of the pending slots
waited : (lent records : List SlotRecord) (slots pending : List ℕ) (kept : ℕ) → lent ≡ records
    → slots ≡ pending → map (handle_at lent) (take (length slots - kept) (drop kept slots))
    ≡ drop kept (map (handle_at records) pending)
waited lent records slots pending kept same same_pending = search (rules, take_rest, drop-map)

-- what the two loops leave in the records
record AreWritten (records : List SlotRecord) (pending : List ℕ) (fresh kept slots : ℕ)
    (made new : List SlotRecord) (len : ℕ) : Type 0 where
  room : length records + fresh ≤ slots
  within : kept ≤ length pending
  grown_is : made ≡ records ++ replicate fresh new_record
  written_is : new ≡ reused (records ++ replicate fresh new_record) (drop kept pending)
  long : length new ≡ len

all_written : (c : After-reuse_all)
    → AreWritten c.self.inside.records.items c.self.inside.pending.items c.args.fresh c.args.kept
    c.self.inside.limits.slots c.make_all.new.records.items c.reuse_all.new.records
    c.make_all.new.records.len
all_written c = grind (arith, common_steps)

-- the records with the new slots are linked, and stand for the roster with their first occupants
linked : (c : After-reuse_all)
    → AreLinked c.self.inside.limits
    (c.self.inside.records.items ++ replicate c.args.fresh new_record) c.self.inside.pending.items
    c.self.inside.retired
linked c = search (rules, make_keeps_links, all_written c, c.self.invariant)

grown_roster : (c : After-reuse_all) → roster_of c.self.inside.limits
    (c.self.inside.records.items ++ replicate c.args.fresh new_record) c.self.inside.pending.items
    ≡ record c.args.self.now {
      live =
          sets.union c.args.self.now.live
          (sets.from_list (fresh c.args.self.now.made c.args.fresh));
      made = c.args.self.now.made + c.args.fresh;
    }
grown_roster c =
    search (rules, roster_of-make _ _ _ _ _ c.self.invariant (all_written c).room, c.self.view_is)

pub invariant_of-self-2 : goal.invariant_of-self-2
invariant_of-self-2 c =
    let at = (goal.at.invariant_of-self-2 c).After-reuse_all in
    let all = all_written at in
    search (
      rules,
      with_items_is c.make_all.new.records c.reuse_all.new.records all.long,
      all.written_is,
      c.truncate.ensures.items,
      reuse_keeps_links _ _ _ _ c.args.kept (linked at) all.within,
    )

pub returns-clause-ok : goal.returns-clause-ok
returns-clause-ok c =
    let at = (goal.at.returns-clause-ok c).After-reuse_all in
    let all = all_written at in
    search (
      rules,
      with_items_is c.make_all.new.records c.reuse_all.new.records all.long,
      all.written_is,
      c.truncate.ensures.items,
      roster_of-reuse _ _ _ _ c.args.kept (linked at) all.within,
      grown_roster at,
    )

pub returns-clause-born : goal.returns-clause-born
returns-clause-born c =
    let at = (goal.at.returns-clause-born c).After-reuse_all in
    search (
      rules,
      grown_roster at,
      waited,
      all_written at,
      c.deref_mut.ensures.value,
      c.deref.ensures.value,
      c.self.view_is,
      c.reuse_all.ensures.listed,
      c.in_ok-reserve-2.ensures.items,
      append_assoc,
    )
