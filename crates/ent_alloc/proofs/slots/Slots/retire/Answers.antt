use Rattle.ent_alloc.proofs.Common.{rules, ◌≡◌, ◌≤◌, true, arith}
use Rattle.ent_alloc.proofs.Occupants.{is_occupant, occupant_made, occupant_generation, lives_in}
use Rattle.ent_alloc.proofs.Looked.{one_lives, retire_keeps_links, roster_of-retire}
use Rattle.ent_alloc.proofs.slots.Slots.retire.Goals.{After-self}
use Rattle.ent_alloc.proofs.slots.Slots.retire.Goals as goal

-- the handle is that of an occupant
lives : (c : After-self) → is_occupant c.self.inside.records.items c.args.handle ≡ true
lives c = search (rules, lives_in)

pub index_mut-requires : goal.index_mut-requires
index_mut-requires c =
    omega (
      arith,
      occupant_made c.self.inside.records.items c.args.handle
          (lives (goal.at.index_mut-requires c).After-self),
    )

pub overflow_add-self : goal.overflow_add-self
overflow_add-self c =
    let lives = lives (goal.at.overflow_add-self c).After-self in
    search (rules, arith, one_lives _ _ _ _ _ c.self.invariant lives)

pub invariant_of-self : goal.invariant_of-self
invariant_of-self c =
    let lives = lives (goal.at.invariant_of-self c).After-self in
    search (
      rules,
      occupant_generation c.self.inside.records.items c.args.handle lives,
      retire_keeps_links _ _ _ _ _ c.self.invariant lives,
    )

pub returns : goal.returns
returns c =
    let lives = lives (goal.at.returns c).After-self in
    search (
      rules,
      occupant_generation c.self.inside.records.items c.args.handle lives,
      roster_of-retire _ _ _ _ _ c.self.invariant lives,
      c.self.view_is,
    )
