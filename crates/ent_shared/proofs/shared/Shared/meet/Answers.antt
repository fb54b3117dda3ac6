use Rattle.ent_shared.proofs.Records.{own-met, quota-met, below_meeting}
use Rattle.ent_shared.proofs.Common.{rules}
use Rattle.ent_shared.proofs.shared.Shared.meet.Goals as goal

pub invariant_of-a : goal.invariant_of-a
invariant_of-a c = search (rules, below_meeting, quota-met)

pub returns-clause-first : goal.returns-clause-first
returns-clause-first c = search (rules, quota-met, c.requires.first)

pub returns-clause-given : goal.returns-clause-given
returns-clause-given c = search (rules, own-met)
