use Rattle.ent_storage.proofs.Common.{rules, ◌≢◌, ◌∙◌, ap, Column, Fits, fin_empty}
use Rattle.ent_storage.proofs.Copied.{some_values, fits}
use Rattle.ent_storage.proofs.sparse_set.SparseSet.take_over.Goals.{Then-not-is_empty}
use Rattle.ent_storage.proofs.sparse_set.SparseSet.take_over.Goals as goal

-- the source has values
some : (c : Then-not-is_empty) → c.args.source.now.values ≢ fin_empty
some c none =
    some_values _ _ c.source.invariant
    (λ zero. search (rules, zero, c.source.inside.dense.ok.0, c.if-not-is_empty.true))
    (ap (λ (m : Column). m.values) c.source.view_is ∙ none)

-- so its vectors fit
its : (c : Then-not-is_empty) → Fits c.args.self.now c.args.source.now
its c = fits c.args.self.now c.args.source.now c.requires (some c)

pub overwrite-requires-then-not-is_empty : goal.overwrite-requires-then-not-is_empty
overwrite-requires-then-not-is_empty c =
    let fits = its (goal.at.overwrite-requires-then-not-is_empty c).Then-not-is_empty in
    search rules

-- a set without room takes over none
pub returns-then-not-is_empty-clause-none : goal.returns-then-not-is_empty-clause-none
returns-then-not-is_empty-clause-none c none =
    let fits = its (goal.at.returns-then-not-is_empty-clause-none c).Then-not-is_empty in
    search rules
