use Rattle.ent_alloc.proofs.Common.{rules, ◌≡◌, get_or_read, record_at}
use Rattle.ent_alloc.proofs.Linked.{last_made, last_handle, reuse_last_keeps_links}
use Rattle.ent_alloc.proofs.Linked.{roster_of-reuse_last}
use Rattle.ent_alloc.proofs.slots.Slots.reuse_last.Goals.{After-index_mut}
use Rattle.ent_alloc.proofs.slots.Slots.reuse_last.Goals as goal

-- the record that is lent is that of the last pending slot
read : (c : After-index_mut) → c.index_mut.result.now
    ≡ record_at c.self.inside.records.items c.in_ok-index.index
read c = search (rules, get_or_read, last_made)

pub invariant_of-self-2 : goal.invariant_of-self-2
invariant_of-self-2 c =
    search (
      rules,
      read,
      reuse_last_keeps_links,
      c.self.invariant,
      c.in_ok-index.ensures.items,
      c.reuse-generation.ensures.reused,
    )

pub returns : goal.returns
returns c =
    let read = read (goal.at.returns c).After-index_mut in
    search (
      rules,
      c.reuse-generation.ensures,
      read,
      roster_of-reuse_last _ _ _ _ _ _ c.self.invariant c.in_ok-index.ensures.items,
      last_handle _ _ _ _ _ _ c.self.invariant c.in_ok-index.ensures.items,
      c.self.view_is,
      c.from_parts.ensures,
    )
