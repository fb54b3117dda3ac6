use Rattle.ent_alloc.proofs.Common.{rules, ◌≡◌, ◌≢◌, ◌+◌, ◌≤◌, true, arith, false≢true, length}
use Rattle.ent_alloc.proofs.Common.{set-get_or}
use Rattle.std.specs.FinSet as sets
use Rattle.ent_alloc.proofs.Occupants.{is_occupant, contains_occupants}
use Rattle.ent_alloc.proofs.Looked.{one_lives, release_keeps_links, roster_of-release}
use Rattle.ent_alloc.proofs.slots.Slots.leave.Goals.{Else-not-is_occupied_by, After-is_occupied_by}
use Rattle.ent_alloc.proofs.slots.Slots.leave.Goals.{Else-generation-generations}
use Rattle.ent_alloc.proofs.slots.Slots.leave.Goals as goal

-- whom the vectors let live
living : (c : After-is_occupied_by) → sets.contains c.args.self.now.live c.args.handle
    ≡ is_occupant c.self.inside.records.items c.args.handle
living c = search (rules, contains_occupants, c.self.view_is)

lives : (c : Else-not-is_occupied_by) → is_occupant c.self.inside.records.items c.args.handle ≡ true
lives c = search (rules)

some_live : (c : Else-not-is_occupied_by)
    → length c.self.inside.pending.items + c.self.inside.retired + 1
    ≤ length c.self.inside.records.items
some_live c = one_lives _ _ _ _ _ c.self.invariant (lives c)

-- it is not of the last generation
not_last : (c : Else-generation-generations)
    → c.args.handle.generation ≢ c.self.inside.limits.generations
not_last c last = search (rules)

pub returns-in_default-clause-not_alive : goal.returns-in_default-clause-not_alive
returns-in_default-clause-not_alive c = search (rules, contains_occupants, c.self.view_is)

pub returns-then-not-is_occupied_by-clause-not_alive :
    goal.returns-then-not-is_occupied_by-clause-not_alive
returns-then-not-is_occupied_by-clause-not_alive c = search (rules, living)

-- the record that was lent is as it was
pub invariant_of-self-then-generation-generations :
    goal.invariant_of-self-then-generation-generations
invariant_of-self-then-generation-generations c = search (rules, set-get_or, c.self.invariant)

pub retire-requires : goal.retire-requires
retire-requires c =
    let lives = lives (goal.at.retire-requires c).Else-not-is_occupied_by in
    search (
      rules,
      set-get_or,
      lives,
      contains_occupants c.self.inside.records.items c.args.handle,
    )

pub returns-then-generation-generations-clause-retired :
    goal.returns-then-generation-generations-clause-retired
returns-then-generation-generations-clause-retired c last =
    search (rules, set-get_or, c.retire.ensures, c.self.view_is)

pub returns-then-generation-generations-clause-lived :
    goal.returns-then-generation-generations-clause-lived
returns-then-generation-generations-clause-lived c = search (rules, living, lives)

pub returns-then-generation-generations-clause-not_alive :
    goal.returns-then-generation-generations-clause-not_alive
returns-then-generation-generations-clause-not_alive c = search (rules, living, lives, false≢true)

pub returns-then-is_err-clause-not_alive : goal.returns-then-is_err-clause-not_alive
returns-then-is_err-clause-not_alive c = search (rules, living, lives, false≢true)

pub pending-requires-clause-few : goal.pending-requires-clause-few
pending-requires-clause-few c = search (rules, arith, some_live)

pub invariant_of-self-2 : goal.invariant_of-self-2
invariant_of-self-2 c =
    let at = goal.at.invariant_of-self-2 c in
    let keeps = release_keeps_links _ _ _ _ _ c.self.invariant (lives at.Else-not-is_occupied_by)
    (not_last at.Else-generation-generations) in
    search (rules, keeps, c.push.ensures.items)

pub returns-clause-waits : goal.returns-clause-waits
returns-clause-waits c before =
    let whole = roster_of-release _ _ _ _ _ c.self.invariant
    (lives (goal.at.returns-clause-waits c).Else-not-is_occupied_by) in
    search (rules, whole, c.self.view_is, c.index-index.ensures, c.push.ensures.items)

pub returns-clause-lived : goal.returns-clause-lived
returns-clause-lived c = search (rules, living, lives)

pub returns-clause-not_alive : goal.returns-clause-not_alive
returns-clause-not_alive c = search (rules, living, lives, false≢true)
