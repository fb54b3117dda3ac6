use Rattle.ent_alloc.proofs.Common.{rules, ◌≡◌, lives, occupancy_of}
use Rattle.ent_alloc.proofs.Occupants.{contains_occupants}
use Rattle.ent_alloc.proofs.Looked.{is_occupant-occupancy}
use Rattle.ent_alloc.proofs.slots.Slots.is_alive.Goals.{After-is_living}
use Rattle.ent_alloc.proofs.slots.Slots.is_alive.Goals as goal

-- the look-up is of the vector's records
found : (c : After-is_living) → c.is_living.result
    ≡ lives (occupancy_of c.self.inside.records.items c.args.handle)
found c = search (rules)

pub returns : goal.returns
returns c = search (rules, contains_occupants, is_occupant-occupancy, found)
