use Rattle.ent_alloc.proofs.Common.{arith, rules, ◌≡◌, ℕ, true, common_steps, Handle, Roster}
use Rattle.ent_alloc.proofs.Common.{AreReserved}
use Rattle.std.specs.FinSet as sets
use Rattle.std.specs.FinMap as maps
use Rattle.ent_alloc.proofs.Flushes.{rows-inserted}
use Rattle.ent_alloc.proofs.entities.Entities.set_row.Goals.{After-set_row}
use Rattle.ent_alloc.proofs.entities.Entities.set_row.Goals as goal

-- a row changes nothing that the requests speak of
with_row : (r : Roster) (asked given : ℕ) (h : Handle) (row : ℕ) → sets.contains r.live h ≡ true
    → AreReserved r asked given
    → AreReserved (record r { rows = maps.insert r.rows h row }) asked given
with_row r asked given h row lives reserved = search (rules, rows-inserted, lives)

lives : (c : After-set_row) → sets.contains c.self.inside.slots.live c.args.handle ≡ true
lives c = grind (arith, common_steps)

pub invariant_of-self : goal.invariant_of-self
invariant_of-self c = search
    (rules, c.set_row.ensures, with_row, c.args.handle, c.args.row, lives, c.self.invariant)

pub returns-clause-rows_of_living : goal.returns-clause-rows_of_living
returns-clause-rows_of_living c = (invariant_of-self c).rows
