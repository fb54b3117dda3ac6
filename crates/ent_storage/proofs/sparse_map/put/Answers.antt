use Rattle.ent_storage.proofs.Common.{rules, ◌≡◌, ◌≤◌, ◌∙◌, Some, refl, sym, ap, get_or, slice_get}
use Rattle.ent_storage.proofs.Common.{arith, List, ℕ, slice_get_read, none-some, same_Some}
use Rattle.ent_storage.proofs.Common.{HandedBack, Handle, InsertError, IsFreeSlot as IsFree}
use Rattle.ent_storage.proofs.Sparse.{none_free, free_no_later, before_none, not_later, has_later}
use Rattle.ent_storage.proofs.Sparse.{has_no_later, had, had_other, is_handle, not_handle}
use Rattle.ent_storage.proofs.Sparse.{over_positioned, over_values}
use Rattle.ent_storage.proofs.sparse_map.put.Given.{Over}
use Rattle.ent_storage.proofs.sparse_map.put.Goals.{After-replace-standing}
use Rattle.ent_storage.proofs.sparse_map.put.Goals as goal

pub returns-in_default-clause-before : goal.returns-in_default-clause-before
returns-in_default-clause-before g c =
    let free : IsFree c.args.entries.now.items c.args.handle.index = search rules in
    before_none _ _ (none_free _ _ c.requires.positioned _ free) c.add.ensures.before

pub returns-in_default-clause-later : goal.returns-in_default-clause-later
returns-in_default-clause-later g c =
    let free : IsFree c.args.entries.now.items c.args.handle.index = search rules in (
      λ e. absurd (not_later _ c.add.ensures.memory e),
      λ l.
          absurd
          (free_no_later c.args.entries.now.items c.args.positions.now.items c.requires.positioned
          c.args.handle
          free l),
    )

pub returns-then-generation-clause-later : goal.returns-then-generation-clause-later
returns-then-generation-clause-later g c =
    let k = c.in-Some.position in
    let x = c.index.result.now in
    let at = rw c.deref.ensures.value at c.in-Some.ensures in
    let here = slice_get_read _ _ _ _ refl at.inside c.index.ensures in
    let slot : x.0.index ≡ c.args.handle.index =
    ap (λ (y : Handle × g.row.T.Denot). y.0.index) c.index.ensures
    ∙ at.found x ∙ c.index_of-index.ensures.value in (
      λ _. has_later c.args.entries.now.items c.args.positions.now.items c.requires.positioned k x
          here c.args.handle
          slot (omega arith),
      λ _. ap (λ (r : HandedBack g.row.T.Denot InsertError). Some r.error) c.new.ensures,
    )

-- the entry at the position was of the handle's slot
record Stood {X : Type 0} (D : List (Handle × X)) (k : ℕ) (x : Handle × X) (h : Handle) :
    Type 0 where
  here : slice_get D k ≡ Some x
  slot : x.0.index ≡ h.index
  least : x.0.generation ≤ h.generation

stood : (g : Over) (c : After-replace-standing g)
    → Stood c.args.entries.now.items c.in-Some.position c.replace-standing.result c.args.handle
stood g c =
    let D = c.args.entries.now.items in
    let k = c.in-Some.position in
    let x = c.replace-standing.result in
    let at = rw c.deref.ensures.value at c.in-Some.ensures in
    let was : x ≡ get_or D k x = c.replace-standing.ensures.value ∙ c.index_mut.ensures.value
    ∙ ap (get_or D k) (sym c.replace-standing.ensures.value) in
    let here = slice_get_read _ _ _ _ refl at.inside was in
    let read = slice_get_read _ _ _ _ refl at.inside c.index.ensures in
    let generation =
    ap (λ (y : Handle × g.row.T.Denot). y.0.generation) (same_Some _ _ (sym read ∙ here)) in
    record {
      here = here;
      slot = ap (λ (y : Handle × g.row.T.Denot). y.0.index) was ∙ at.found x
          ∙ c.index_of-index.ensures.value;
      least = omega arith;
    }

pub returns-then-eq : goal.returns-then-eq
returns-then-eq g c =
    let was = stood g (goal.at.returns-then-eq g c).After-replace-standing in
    let over =
    over_positioned _ _ c.requires.positioned _ _ _ was.here c.args.handle c.args.value
    was.slot in
    let none = has_no_later _ _ c.requires.positioned _ _ was.here _ was.slot was.least in
    search (rules, over, none, over_values, had, is_handle, was, none-some)

pub returns-else-eq : goal.returns-else-eq
returns-else-eq g c =
    let was = stood g (goal.at.returns-else-eq g c).After-replace-standing in
    let over =
    over_positioned _ _ c.requires.positioned _ _ _ was.here c.args.handle c.args.value
    was.slot in
    let none = has_no_later _ _ c.requires.positioned _ _ was.here _ was.slot was.least in
    search (rules, over, none, over_values, had_other, not_handle, was, none-some)
