-- A copy of a column.
use Rattle.std.specs.Prelude.{◌≡◌}
use Rattle.ent_storage.specs.SparseSet.{Column, no_column}

-- the same values, and no room where the first one has neither values nor room
pub record IsCopy (old new : Column) : Type 0 where
  pub values : new.values ≡ old.values
  pub none : old ≡ no_column → new ≡ no_column
