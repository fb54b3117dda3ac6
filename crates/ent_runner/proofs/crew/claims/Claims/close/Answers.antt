use Rattle.ent_runner.proofs.Common.{sym, ◌∙◌, rules, AreClaimsClosed, items_all}
use Rattle.ent_runner.proofs.Steps.{goes_by_records}
use Rattle.ent_runner.proofs.Closing.{records_of, first, apart, claimed, once}
use Rattle.ent_runner.proofs.crew.claims.Claims.close.Goals as goal

pub new_holder-all-requires-clause-rule : goal.new_holder-all-requires-clause-rule
new_holder-all-requires-clause-rule c = goes_by_records _ _

pub merge-requires-clause-rule : goal.merge-requires-clause-rule
merge-requires-clause-rule c = goes_by_records _ _

closed : (c : goal.After-close) → AreClaimsClosed c.args.self.numbers c.args.self.workers
    (records_of c.args.claimers.items)
closed c =
    let i = c.loop-claimer.invariant in
    let ok = c.loop-claimer.claimer-iterator.rest.ok in
    let all =
    items_all c.args.claimers.items c.loop-claimer.yielded
    c.loop-claimer.claimer-iterator.rest.items i.all
    (sym ok.0 ∙ c.in-None.ensures.steps.0) in
    let key = c.self.invariant.key_is in
    search (rules, all, key)

pub returns-clause-first : goal.returns-clause-first
returns-clause-first c = first _ _ c.args.claimers.items c.requires.all (closed c)

pub returns-clause-apart : goal.returns-clause-apart
returns-clause-apart c = apart _ _ c.args.claimers.items c.requires.all (closed c)

pub returns-clause-claimed : goal.returns-clause-claimed
returns-clause-claimed c =
    claimed _ _ c.args.claimers.items c.requires.all (closed c) (search rules)

pub returns-clause-once : goal.returns-clause-once
returns-clause-once c = once _ _ c.args.claimers.items c.requires.all (closed c) (search rules)
