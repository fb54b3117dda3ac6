use Rattle.ent_storage.proofs.Common.{◌≡◌, ◌+◌, ◌≤◌, ap, sym, subst, ◌∙◌, arith, length, get_or}
use Rattle.ent_storage.proofs.Common.{set, pos, refl, rules, refill, w64, cast_signed}
use Rattle.ent_storage.proofs.Common.{cast_unsigned, to_z-of_z, put, component_cmp, Bundle}
use Rattle.ent_storage.proofs.Common.{IsBundle, IsAt, IsGapFor, cases_lt, false≢true, length-set}
use Rattle.ent_storage.proofs.Common.{component_cmp_total as total}
use Rattle.ent_storage.proofs.Positions.{find_in_gap, written, inserted}
use Rattle.ent_storage.proofs.Puts.{bundle_put, refill_whole}
use Rattle.ent_storage.proofs.bundle.Bundle.put.Goals as goal
use Rattle.ent_storage.proofs.bundle.Bundle.put.Given.{Over}

-- what is written over
over : (g : Over) (c : goal.After-self-1 g)
    → refill (length c.self.inside.items.items) c.self.inside.items.items
    (set c.deref_mut.result.now c.in-Ok.index (
      (get_or c.deref_mut.result.now c.in-Ok.index (record { 0 = 0 }, pos 0)).0,
      cast_signed w64 (cast_unsigned w64 c.args.value),
    )) ≡ put component_cmp c.args.id c.args.value c.self.inside.items.items
over g c =
    let es = c.self.inside.items.items in
    let index = c.in-Ok.index in
    let at =
    subst (λ (b : Bundle). IsAt component_cmp b c.args.id index) c.as_slice.ensures
    c.in-Ok.ensures.found in
    let value = cast_signed w64 (cast_unsigned w64 c.args.value) in
    let item = get_or es index (record { 0 = 0 }, pos 0) in
    ap
    (λ xs.
    refill (length es) es (set xs index ((get_or xs index (record { 0 = 0 }, pos 0)).0, value)))
    c.deref_mut.ensures.value ∙ refill_whole es (set es index (item.0, value))
    (length-set es index _)
    ∙ written total es c.args.id c.args.value index (record { 0 = 0 }, pos 0) item value
    c.self.invariant.0.rising at
    refl (to_z-of_z w64 c.args.value c.ranges.value)

pub invariant_of-self : goal.invariant_of-self
invariant_of-self g c = (
  subst IsBundle (sym (over g c))
      (bundle_put _ _ (search rules) c.ranges.value _ c.self.invariant.0),
  c.self.invariant.1,
)

pub returns-in-Ok-clause-ok : goal.returns-in-Ok-clause-ok
returns-in-Ok-clause-ok g c =
    over g c ∙ ap (put component_cmp c.args.id c.args.value) c.self.view_is

-- what is added
added : (g : Over) (c : goal.In_ok-insert-in-Err g) → c.insert.new.self.items
    ≡ put component_cmp c.args.id c.args.value c.self.inside.items.items
added g c =
    let gap =
    subst (λ (b : Bundle). IsGapFor component_cmp b c.args.id c.in-Err.index) c.as_slice.ensures
    c.in-Err.ensures.absent in
    c.in_ok-insert-in-Err.ensures.ok
    ∙ inserted total c.self.inside.items.items c.args.id c.args.value c.in-Err.index _
    gap (to_z-of_z w64 c.args.value c.ranges.value)

pub invariant_of-self-in-Continue-1 : goal.invariant_of-self-in-Continue-1
invariant_of-self-in-Continue-1 g c =
    search (rules, added, bundle_put, c.insert.ensures.capacity, c.self.invariant)

pub returns-in_ok-insert-in-Err-clause-ok : goal.returns-in_ok-insert-in-Err-clause-ok
returns-in_ok-insert-in-Err-clause-ok g c =
    added g c ∙ ap (put component_cmp c.args.id c.args.value) c.self.view_is

pub returns-in_err-insert-in-Err-clause-memory : goal.returns-in_err-insert-in-Err-clause-memory
returns-in_err-insert-in-Err-clause-memory g c =
    let es = c.self.inside.items.items in
    let gap =
    subst (λ (b : Bundle). IsGapFor component_cmp b c.args.id c.in-Err.index) c.as_slice.ensures
    c.in-Err.ensures.absent in
    let none = find_in_gap total es c.args.id c.in-Err.index gap in
    let room = cases_lt c.self.inside.items.capacity (length es + 1) in
    let full : g.row.INLINE ≤ length es =
    search
    (rules, arith, false≢true, c.in_err-insert-in-Err.ensures.succeeds, c.self.invariant.1) in
    search (rules, c.from_residual.result, c.args.id, c.self.view_is, none, full)

pub search-requires : goal.search-requires
search-requires g c = search (rules, c.as_slice.ensures, c.self.invariant.0.rising)
