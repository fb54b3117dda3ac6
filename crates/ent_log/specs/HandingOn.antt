-- How a closure takes entries in turn, each with the allocator that the one before it left.
use Rattle.std.specs.Prelude.{◌≡◌, List, ◌∷◌, ◌++◌, Result, Ok, Err}
use Rattle.std.specs.List.{FoldsTo}
use Rattle.std.specs.Borrow.{MutBor}
use Rattle.ent_alloc.specs.Entities.{Entities}
use Rattle.ent_log.specs.declared.entry.Entry.{Entry}

module _ {C E F : Type 0} (step : F → MutBor Entities → Entry C → Result (Unit {0}) (Entry C × E)
    → MutBor Entities → F → Type 0) where
  -- a call of f with this allocator and entry may return this, and leave this allocator and closure
  pub record CalledAt (f : F) (before : Entities) (entry : Entry C)
      (returned : Result (Unit {0}) (Entry C × E)) (after : Entities) (next : F) : Type 0 where
    pub shown : MutBor Entities
    pub shows : shown.now ≡ before
    pub left : MutBor Entities
    pub called : step f shown entry returned left next
    pub leaves : left.now ≡ after

  -- the closure took the entry, and left this closure and allocator
  abbrev pub Takes : F × Entities → Entry C → F × Entities → Type 0
  Takes before entry after =
      CalledAt before.0 before.1 entry (Ok tt) after.1 after.0

  -- The closure took all entries in turn, each once, and the allocator is as the last call left it.
  pub record TakesAll (f : F) (before : Entities) (entries : List (Entry C)) (after : Entities)
      : Type 0 where
    pub last : F
    pub each : FoldsTo Takes (f, before) entries (last, after)

  -- The closure took the first entries in turn, each once, and then failed at one, with this error.
  -- The entry that it returned is left, with those behind the one at which it failed.
  pub record FailsAt (f : F) (before : Entities) (entries : List (Entry C)) (error : E)
      (left : List (Entry C)) (after : Entities) : Type 0 where
    pub taken : List (Entry C)
    pub entry : Entry C
    pub behind : List (Entry C)
    pub in_order : entries ≡ taken ++ entry ∷ behind
    pub between : F × Entities
    pub each : FoldsTo Takes (f, before) taken between
    pub returned : Entry C
    pub last : F
    pub fails : CalledAt between.0 between.1 entry (Err (returned, error)) after last
    pub left_is : left ≡ returned ∷ behind
