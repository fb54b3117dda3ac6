-- What a sparse map ends as, where a `&mut` to one of its values is returned.
use Rattle.std.specs.Prelude.{Option}
use Rattle.std.specs.Borrow.{Lends, LendsIf, Fml, RattleType, MutBor}
use Rattle.ent_handle.specs.Handle.{Handle}
use Rattle.ent_storage.specs.SparseMap.{SparseMap, with_written_in}
use Rattle.ent_storage.specs.contracts.sparse_map.SparseMap.{the_row}

module _ (T : RattleType) (m : MutBor (SparseMap T.Denot)) (h : Handle) where
  -- once the borrow r ends, the handle has the last value written through r
  abbrev pub lends_value : MutBor T.Denot → Fml
  lends_value r = Lends (the_row T) T m r (with_written_in m.now h)

  -- the same where r is a reference, and at `None` the map stays as it is
  abbrev pub lends_get : Option (MutBor T.Denot) → Fml
  lends_get r = LendsIf (the_row T) T m r (with_written_in m.now h) m.now
