use Rattle.ent_replay.proofs.Common.{◌≡◌, ◌≤◌, length, take, vec_len, vec_capacity, outcomes_of}
use Rattle.ent_replay.proofs.Common.{after_events}
use Rattle.ent_replay.proofs.machine.Machine.run.Given as goal

abbrev pub invariant-loop-done : goal.invariant-loop-done
invariant-loop-done l = (l.self ≡ after_events l.fn.self (take l.done l.events))
    × (l.outcomes.items ≡ outcomes_of l.fn.self (take l.done l.events))
    × (vec_len l.outcomes ≡ l.done) × (length l.events ≤ vec_capacity l.outcomes)
