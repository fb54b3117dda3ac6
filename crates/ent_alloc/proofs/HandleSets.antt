-- Which handles a set or a list of handles has after a change.
use Rattle.ent_alloc.proofs.Common.{arith, rules, ◌≡◌, ◌≢◌, Bool, true, ◌||◌, List, IsTrue, ◌⊎◌}
use Rattle.ent_alloc.proofs.Common.{Contains, All, AllPairs, common_steps, eq_by_cmp}
use Rattle.ent_alloc.proofs.Common.{eq_by_cmp_equiv, Contains-from_any, tells_apart, All-contains}
use Rattle.ent_alloc.proofs.Common.{Handle, handle_cmp, handle_cmp_total}
use Rattle.ent_alloc.proofs.Common.{handle_cmp-IsAntisymmetric, stands_in, AreApart, and_parts}
use Rattle.ent_alloc.proofs.Common.{or-true}
use Rattle.std.specs.FinSet as set
use Rattle.ent_alloc.proofs.ListLaws.{same_from_AllPairs}

-- a set of handles
abbrev Handles : Type 0
Handles = set.FinSet handle_cmp

-- its members are of different slots
abbrev IsOneASlot : Handles → Type 0
IsOneASlot s = (g h : Handle) → IsTrue (set.contains s g) → IsTrue (set.contains s h)
    → g.index ≡ h.index → g ≡ h

-- one of the two holds
either_true : (a b : Bool) → (a || b) ≡ true → (a ≡ true) ⊎ (b ≡ true)
either_true a b e = grind (arith)

-- the order's test tells handles apart
pub same_handle : (g h : Handle) → eq_by_cmp handle_cmp g h ≡ true → g ≡ h
same_handle g h e = tells_apart handle_cmp-IsAntisymmetric g h e

-- a handle ties with itself
pub itself : (h : Handle) → eq_by_cmp handle_cmp h h ≡ true
itself h = (eq_by_cmp_equiv handle_cmp_total).refl h

-- a list as the specifications ask it
pub Contains-from_stands_in : (handles : List Handle) (h : Handle) → IsTrue (stands_in handles h)
    → Contains handles h
Contains-from_stands_in handles h e = Contains-from_any same_handle h handles e

-- and the other way round
pub stands_in-from_Contains : (handles : List Handle) (h : Handle) → Contains handles h
    → IsTrue (stands_in handles h)
stands_in-from_Contains handles h has = grind (arith, common_steps)

-- what is there after an insert was inserted or was there
pub in_inserted : (s : Handles) (h x : Handle) → IsTrue (set.contains (set.insert s h) x)
    → (x ≡ h) ⊎ IsTrue (set.contains s x)
in_inserted s h x e =
    search (rules, either_true, set.contains-insert, handle_cmp_total, same_handle)

-- what was inserted is there
pub inserted : (s : Handles) (h : Handle) → IsTrue (set.contains (set.insert s h) h)
inserted s h = search (rules, set.contains-insert, handle_cmp_total, itself)

-- what is there after a remove was there, and is another
pub in_removed : (s : Handles) (h x : Handle) → IsTrue (set.contains (set.remove s h) x)
    → (x ≢ h) × IsTrue (set.contains s x)
in_removed s h x e = search (rules, and_parts, set.contains-remove, handle_cmp_total, itself)

-- what a set has after all of a list
pub contains-union_list : (s : Handles) (more : List Handle) (x : Handle)
    → set.contains (set.union s (set.from_list more)) x ≡ (set.contains s x || stands_in more x)
contains-union_list s more x =
    search (rules, set.contains-union, handle_cmp_total, set.contains-from_list)

-- what is there was there or is in the list
pub in_union_list : (s : Handles) (more : List Handle) (x : Handle)
    → IsTrue (set.contains (set.union s (set.from_list more)) x)
    → IsTrue (set.contains s x) ⊎ Contains more x
in_union_list s more x e = search (rules, either_true, contains-union_list, Contains-from_stands_in)

-- what was there stays
pub union_list_keeps : (s : Handles) (more : List Handle) (x : Handle) → IsTrue (set.contains s x)
    → IsTrue (set.contains (set.union s (set.from_list more)) x)
union_list_keeps s more x e = search (rules, contains-union_list)

-- what is in the list is there
pub union_list_has : (s : Handles) (more : List Handle) (x : Handle) → Contains more x
    → IsTrue (set.contains (set.union s (set.from_list more)) x)
union_list_has s more x has = search (rules, contains-union_list, stands_in-from_Contains, or-true)

-- one occupant more, of a slot that has none
pub one_occupant_inserted : (live : Handles) (x : Handle)
    → ((y : Handle) → IsTrue (set.contains live y) → AreApart y x) → IsOneASlot live
    → IsOneASlot (set.insert live x)
one_occupant_inserted live x apart one g h in_g in_h same = search (rules, in_inserted)

-- many occupants more, of slots that have none
pub one_occupant_joined : (live : Handles) (more : List Handle)
    → ((y : Handle) → IsTrue (set.contains live y) → All (AreApart y) more) → AllPairs AreApart more
    → IsOneASlot live → IsOneASlot (set.union live (set.from_list more))
one_occupant_joined live more apart among one g h in_g in_h same =
    let same_new = same_from_AllPairs AreApart more g h among in
    search (rules, in_union_list, All-contains)

-- what holds of the new occupant and of those before
pub of_inserted : (P : Handle → Type 0) (live : Handles) (x : Handle) → P x
    → ((y : Handle) → IsTrue (set.contains live y) → P y) → (y : Handle)
    → IsTrue (set.contains (set.insert live x) y) → P y
of_inserted P live x here before y alive = search (rules, in_inserted)

-- what holds of those that were alive and of those that come to life
pub of_joined : (P : Handle → Type 0) (live : Handles) (more : List Handle)
    → ((y : Handle) → IsTrue (set.contains live y) → P y) → All P more → (y : Handle)
    → IsTrue (set.contains (set.union live (set.from_list more)) y) → P y
of_joined P live more before each y alive = search (rules, in_union_list, All-contains)
