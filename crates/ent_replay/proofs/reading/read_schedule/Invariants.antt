use Rattle.ent_replay.proofs.Common.{◌≡◌, length, vec_len, schedule_of}
use Rattle.ent_replay.proofs.ScheduleLaws.{with_front, read_from}
use Rattle.ent_replay.proofs.reading.read_schedule.Given as goal

abbrev pub invariant-loop-rest : goal.invariant-loop-rest
invariant-loop-rest l =
    with_front l.events.items (read_from (vec_len l.events) l.rest) ≡ schedule_of l.text

abbrev pub decreases-loop-rest : goal.decreases-loop-rest
decreases-loop-rest l = length l.rest
