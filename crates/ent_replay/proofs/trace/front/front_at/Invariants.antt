use Rattle.ent_replay.proofs.Common.{◌-◌, length}
use Rattle.ent_replay.proofs.Lineups.{Listed}
use Rattle.ent_replay.proofs.trace.front.front_at.Given as goal

abbrev pub invariant-loop-handle : goal.invariant-loop-handle
invariant-loop-handle l = Listed l.entities.allocator l.position l.next l.front.items

-- what is left to be listed
abbrev pub decreases-loop-handle : goal.decreases-loop-handle
decreases-loop-handle l = 8 - length l.front.items
