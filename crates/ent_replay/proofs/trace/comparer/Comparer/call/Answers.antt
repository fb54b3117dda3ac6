use Rattle.ent_replay.proofs.Common.{ap, ◌∙◌, rules, ints, Checked, pool_at-cursor}
use Rattle.ent_replay.proofs.Sorted.{IsChecking-called}
use Rattle.ent_replay.proofs.trace.comparer.Comparer.call.Goals as goal

pub returns-in-Some-clause-differs : goal.returns-in-Some-clause-differs
returns-in-Some-clause-differs c = search (rules, ints, pool_at-cursor)

pub invariant_of-result : goal.invariant_of-result
invariant_of-result c =
    IsChecking-called c.self.inside.entities.allocator c.answered.new.entities.allocator
    c.self.inside.wanted c.asked-wanted.result c.self.inside.run.items c.self.inside.latest
    (ap (λ (k : Checked). k.run) c.self.view_is ∙ c.requires.run) c.self.invariant
    c.asked-wanted.ensures.value c.asked-wanted.ensures.within
