use Rattle.ent_alloc.proofs.Common.{rules, sym, subst, ◌≡◌, ℕ, List, ◌<◌, length, All}
use Rattle.ent_alloc.proofs.Common.{with_items_is, SlotRecord, placed, moved, true, record_at}
use Rattle.ent_alloc.proofs.Common.{is_pending_from}
use Rattle.ent_alloc.proofs.Fronts.{slots_in, waiting_in, links_in, roster_in, length-moved}
use Rattle.ent_alloc.proofs.Fronts.{length-placed}
use Rattle.ent_alloc.proofs.slots.Slots.wait_last.Goals.{After-wait_last}
use Rattle.ent_alloc.proofs.slots.Slots.wait_last.Goals as goal

pub wait_last-requires-clause-made : goal.wait_last-requires-clause-made
wait_last-requires-clause-made c =
    subst (λ (rs : List SlotRecord). All (λ i. i < length rs) c.args.order.now)
    (sym c.deref_mut.ensures.value)
    (slots_in _ _ _ _ _ c.args.self.now c.self.invariant c.self.view_is c.requires.few
    c.requires.same)

pub wait_last-requires-clause-waiting : goal.wait_last-requires-clause-waiting
wait_last-requires-clause-waiting c = subst
    (λ (rs : List SlotRecord). All (λ i. is_pending_from (record_at rs i).occupancy 0 ≡ true)
    c.args.order.now)
    (sym c.deref_mut.ensures.value)
    (waiting_in _ _ _ _ _ c.args.self.now c.self.invariant c.self.view_is c.requires.few
    c.requires.same)

-- what is written
record AreWritten (records new_records : List SlotRecord) (pending new_pending : List ℕ)
    (is : List ℕ) (made waiting : ℕ) : Type 0 where
  records_are : new_records ≡ moved records (length pending) is
  pending_are : new_pending ≡ placed pending (length pending) is
  made_are : length new_records ≡ made
  waiting_are : length new_pending ≡ waiting

written : (c : After-wait_last) → AreWritten c.self.inside.records.items c.wait_last.new.records
    c.self.inside.pending.items c.wait_last.new.pending c.args.order.now c.self.inside.records.len
    c.self.inside.pending.len
written c = search (rules, length-moved, length-placed)

pub invariant_of-self : goal.invariant_of-self
invariant_of-self c =
    let all = written (goal.at.invariant_of-self c).After-wait_last in
    search (
      rules,
      with_items_is c.self.inside.records c.wait_last.new.records all.made_are,
      with_items_is c.self.inside.pending c.wait_last.new.pending all.waiting_are,
      all.records_are,
      all.pending_are,
      links_in _ _ _ _ _ c.args.self.now c.self.invariant c.self.view_is c.requires.few
          c.requires.same,
    )

pub returns : goal.returns
returns c slots =
    let all = written (goal.at.returns c).After-wait_last in
    search (
      rules,
      with_items_is c.self.inside.records c.wait_last.new.records all.made_are,
      with_items_is c.self.inside.pending c.wait_last.new.pending all.waiting_are,
      all.records_are,
      all.pending_are,
      roster_in _ _ _ _ _ c.args.self.now c.self.invariant c.self.view_is c.requires.few slots,
    )
