-- What contracts see of an entry: what a map has for one handle.
use Rattle.std.specs.Prelude.{◌≡◌, ◌+◌, ◌≤◌, ◌↔◌, Option, Result, None, Some, [], max}
use Rattle.std.specs.Borrow.{Fml, RattleType, MutBor, LendsSoOk, follows}
use Rattle.std.specs.FinMap as map
use mir.Syntax.{named}
use Rattle.ent_handle.specs.HandedBack.{HandedBack}
use Rattle.ent_handle.specs.Handle.{Handle}
use Rattle.ent_storage.specs.HandleMap.{HandleMap, HasLater, IsBeyond}
use Rattle.ent_storage.specs.HandleMap.{without_slot, with_written, some_written}
use Rattle.ent_storage.specs.declared.handle_map.entry.Entry.{Entry}
pub use Rattle.ent_storage.specs.declared.handle_map.entry.Entry.TheVariants.{Occupied, Vacant}
use Rattle.ent_storage.specs.declared.handle_map.entry.OccupiedEntry.{OccupiedEntry}
use Rattle.ent_storage.specs.declared.handle_map.error.InsertError as why
use Rattle.ent_storage.specs.contracts.handle_map.HandleMap.{the_row}
use Rattle.ent_storage.specs.contracts.handle_map.entry.OccupiedEntry as occupied

module _ {T : Type 0} where
  -- the reference to the map
  abbrev pub entry_ref : Entry T → MutBor (HandleMap T)
  entry_ref (Occupied o) = o.map
  entry_ref (Vacant v) = v.map

  -- the map
  abbrev pub entry_map : Entry T → HandleMap T
  entry_map e = (entry_ref e).now

  -- the handle
  abbrev pub entry_handle : Entry T → Handle
  entry_handle (Occupied o) = o.handle
  entry_handle (Vacant v) = v.handle

  -- the value that the handle has
  abbrev pub entry_value : Entry T → Option T
  entry_value (Occupied o) = map.get o.map.now.values o.handle
  entry_value (Vacant v) = None

  -- the second map is the first one, once a handle without a value has this one
  pub record IsFilled (old : HandleMap T) (h : Handle) (value : T) (new : HandleMap T) :
      Type 0 where
    pub values : new.values ≡ map.insert (without_slot old.values h.index) h value
    pub slots : new.slots ≡ max old.slots (h.index + 1)
    pub room : old.room ≤ new.room
    pub limit : new.limit ≡ old.limit

  -- the map is as the entry's, once its handle has the value
  abbrev pub Gives : Entry T → T → HandleMap T → Type 0
  Gives (Occupied o) value new = new ≡ with_written o.map.now o.handle value
  Gives (Vacant v) value new = IsFilled v.map.now v.handle value new

  -- why the map refuses a value for the handle, if it does
  pub record IsRefusal (m : HandleMap T) (h : Handle) (error : Option why.InsertError) :
      Type 0 where
    pub limit : (error ≡ Some why.TheVariants.Limit) ↔ IsBeyond m.limit h
    pub later : (error ≡ Some why.TheVariants.Later)
        ↔ (¬ (IsBeyond m.limit h) × HasLater m.values h)
    pub memory : error ≡ Some why.TheVariants.Memory → m.room ≤ h.index

  -- the occupied entry, once it has the value
  abbrev pub with_value : OccupiedEntry T → T → OccupiedEntry T
  with_value o value = record {
    map = record o.map { now = with_written o.map.now o.handle value };
    handle = o.handle;
    present = some_written o.map.now o.handle value;
  }

  -- the second entry is the first one, once its handle has the value
  pub record IsWritten (old : OccupiedEntry T) (value : T) (new : OccupiedEntry T) : Type 0 where
    pub same_map : new.map.ghost_name ≡ old.map.ghost_name
    pub map : new.map.now ≡ with_written old.map.now old.handle value
    pub handle : new.handle ≡ old.handle
    pub written : entry_value (Occupied new) ≡ Some value

module _ (T : RattleType) where
  -- once the borrow r ends, the handle has the last value written through r
  abbrev pub occupied_lends : OccupiedEntry T.Denot → MutBor T.Denot → Fml
  occupied_lends o r =
      follows (the_row T) T o.map.ghost_name r.ghost_name (with_written o.map.now o.handle)

  -- the same of the entry behind o, of which the lifetime is the second of the signature
  abbrev pub lends_in : MutBor (OccupiedEntry T.Denot) → MutBor T.Denot → Fml
  lends_in o r =
      follows (occupied.the_row (record { mir = named 1; lft = [] }) T) T o.ghost_name r.ghost_name
      (with_value o.now)

  -- once the borrow ends, the handle has the last value written through it, and after an error
  -- nothing has changed
  abbrev pub entry_lends : Entry T.Denot
      → Result (MutBor T.Denot) (HandedBack T.Denot why.InsertError) → Fml
  entry_lends e r = LendsSoOk (the_row T) T (entry_ref e) r (λ new value. Gives e value new)
      (λ new. new ≡ entry_map e)
