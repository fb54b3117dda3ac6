use Rattle.ent_alloc.proofs.Common.{rules, arith, get_or_default, no_slot}
use Rattle.ent_alloc.proofs.Occupants.{len_occupants, rising_occupants}
use Rattle.ent_alloc.proofs.slots.Slots.occupants.Goals as goal

pub new-requires : goal.new-requires
new-requires c = record {
  count = search (rules, len_occupants, c.live.ensures, c.self.view_is);
  numbered = search (rules, arith);
  generations = λ k d within.
      search (
        rules,
        arith,
        get_or_default c.self.inside.records.items k d no_slot,
        c.self.invariant.least k,
        c.self.invariant.greatest k,
      );
}

pub returns : goal.returns
returns c = search (rules, rising_occupants, len_occupants)
