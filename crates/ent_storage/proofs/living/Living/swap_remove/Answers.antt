use Rattle.ent_storage.proofs.Common.{rules, ◌≡◌, ◌<◌, length, ap, arith, vec_len, Living}
use Rattle.ent_storage.proofs.Common.{IsMovedInto, AreColumnsOf, entities_from}
use Rattle.ent_storage.proofs.EntitiesOfResidents.{inside_from, moved, written_back}
use Rattle.ent_storage.proofs.living.Living.swap_remove.Goals.{After-self, After-swap_remove-2}
use Rattle.ent_storage.proofs.living.Living.swap_remove.Goals as goal

-- the place is one of the residents'
inside : (c : After-self) → c.args.place < vec_len c.self.inside.residents
inside c = let within = inside_from _ _ _ _ _ c.self.view_is c.requires in omega arith

pub swap_remove-requires : goal.swap_remove-requires
swap_remove-requires c = record {
  before = omega (arith, inside (goal.at.swap_remove-requires c).After-self);
  in_use = rw (c.deref_mut.ensures.value, c.deref.ensures.value) c.self.invariant.1;
}

pub swap_remove-requires-2 : goal.swap_remove-requires-2
swap_remove-requires-2 c = inside (goal.at.swap_remove-requires-2 c).After-self

-- the last entity has moved into the place
after : (c : After-swap_remove-2) → c.args.place < vec_len c.self.inside.residents
    → length c.swap_remove.new.columns ≡ length c.self.inside.columns.items
    → IsMovedInto (entities_from 0 c.self.inside.residents.items c.self.inside.columns.items)
    c.args.place (entities_from 0 c.swap_remove-2.new.self.items c.swap_remove.new.columns)
    × AreColumnsOf (length c.swap_remove-2.new.self.items) c.swap_remove.new.columns
after c inside as_many =
    let down = rw (c.deref_mut.ensures.value, c.len-last.ensures) at c.swap_remove.ensures.moved in
    moved _ _ _ _ _ c.self.inside.residents.ok.0 c.swap_remove-2.new.self.ok.0
    c.swap_remove-2.ensures.len inside
    c.swap_remove-2.ensures.by_index _ _ down as_many c.self.invariant.0

pub invariant_of-self : goal.invariant_of-self
invariant_of-self c =
    let inside = inside (goal.at.invariant_of-self c).After-self in
    let len = rw c.deref_mut.ensures.value at c.swap_remove.ensures.len in
    let back = written_back _ _ _ len c.self.inside.columns.ok.0 in
    search (rules, after, back, inside, len)

pub returns-clause-entities : goal.returns-clause-entities
returns-clause-entities c =
    let inside = inside (goal.at.returns-clause-entities c).After-self in
    let as_many = rw c.deref_mut.ensures.value at c.swap_remove.ensures.len in
    rw (
      written_back _ _ _ as_many c.self.inside.columns.ok.0,
      ← ap (λ (l : Living). l.entities) c.self.view_is,
    )
    (after (goal.at.returns-clause-entities c).After-swap_remove-2 inside as_many).0
