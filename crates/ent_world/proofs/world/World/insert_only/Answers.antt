use Rattle.ent_world.proofs.Kept.{keys-components, same_keys-components}
use Rattle.ent_world.proofs.Common.{rules, inl, inr}
use Rattle.ent_world.proofs.PlacedRows.{on_either}
use Rattle.ent_world.proofs.world.World.insert_only.Goals as goal

pub invariant_of-self : goal.invariant_of-self
invariant_of-self c =
    elim (on_either c.insert_at.result c.insert_at.ensures.ok c.insert_at.ensures.err) [
      | inl changed ↦ search (rules, keys-components, same_keys-components, c.self.invariant)
      | inr same ↦ rw same c.self.invariant
    ]
