use Rattle.ent_alloc.proofs.Common.{arith, rules, ◌≡◌, common_steps, occupancy_of}
use Rattle.ent_alloc.proofs.Occupants.{contains_occupants, get_rows}
use Rattle.ent_alloc.proofs.Looked.{is_occupant-occupancy, row_at-occupancy, waits_at-occupancy}
use Rattle.ent_alloc.proofs.Looked.{stands_in-pending}
use Rattle.ent_alloc.proofs.slots.Slots.occupancy_of.Goals as goal

pub returns : goal.returns
returns c =
    let is : c.occupancy_of.result ≡ occupancy_of c.self.inside.records.items c.args.handle =
    search (rules) in
    record {
      lives = search (rules, contains_occupants, is_occupant-occupancy);
      row = search (rules, get_rows, row_at-occupancy);
      waits = λ from. let tells = stands_in-pending c.self.inside.limits c.self.inside.records.items
          c.self.inside.pending.items c.self.inside.retired c.self.invariant c.args.handle from in
          search (rules, c.self.view_is, waits_at-occupancy, tells);
      made = grind (arith, common_steps);
    }
