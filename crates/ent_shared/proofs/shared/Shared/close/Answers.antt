use Rattle.ent_shared.proofs.Common.{rules, ap, ◌∙◌, pos, to_z, of_z, w64, records_of}
use Rattle.ent_shared.proofs.Closing.{ended, Ended}
use Rattle.ent_shared.proofs.Sharing.{length-records_of}
use Rattle.ent_shared.proofs.shared.Shared.close.Goals as goal
use Rattle.ent_shared.proofs.shared.Shared.close.Goals.{After-end_phase-cursor}

-- what is known before the allocator is settled
known : (c : After-end_phase-cursor) → Ended c.self.inside.entities.allocator c.args.self.start
    (records_of c.args.reservers.items) (to_z w64 (of_z w64 c.end_phase-cursor.result.0))
    (to_z w64 (of_z w64 c.end_phase-cursor.result.1))
known c = ended _ _ _ _ _ _ _ _ _ c.self.invariant c.self.view_is
    (length-records_of c.args.reservers.items ∙ c.requires.all) c.end_phase-cursor.ensures.cursor
    (c.from.ensures ∙ ap pos c.top.ensures) c.end_phase-cursor.ensures.floor

pub settle-requires : goal.settle-requires
settle-requires c =
    search (
      rules,
      known (goal.at.settle-requires c).After-end_phase-cursor,
      c.self.invariant.begins.flushed,
    )

pub returns-clause-legal : goal.returns-clause-legal
returns-clause-legal c = (known (goal.at.returns-clause-legal c).After-end_phase-cursor).is_legal

pub returns-clause-respects : goal.returns-clause-respects
returns-clause-respects c =
    (known (goal.at.returns-clause-respects c).After-end_phase-cursor).respects

pub returns-clause-after : goal.returns-clause-after
returns-clause-after c = let end = known (goal.at.returns-clause-after c).After-end_phase-cursor in
    search (rules, end)

pub returns-clause-falls : goal.returns-clause-falls
returns-clause-falls c = (known (goal.at.returns-clause-falls c).After-end_phase-cursor).all_fall

pub returns-clause-numbers : goal.returns-clause-numbers
returns-clause-numbers c =
    (known (goal.at.returns-clause-numbers c).After-end_phase-cursor).all_numbers

pub returns-clause-distinct : goal.returns-clause-distinct
returns-clause-distinct c =
    (known (goal.at.returns-clause-distinct c).After-end_phase-cursor).all_distinct

pub returns-clause-not_live : goal.returns-clause-not_live
returns-clause-not_live c =
    (known (goal.at.returns-clause-not_live c).After-end_phase-cursor).none_live

pub returns-clause-brings_to_life : goal.returns-clause-brings_to_life
returns-clause-brings_to_life c =
    let end = known (goal.at.returns-clause-brings_to_life c).After-end_phase-cursor in
    search (rules, end)
