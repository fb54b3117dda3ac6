use Rattle.ent_replay.proofs.Common.{◌≡◌, length, and_then, handles_told, words_in}
use Rattle.ent_replay.proofs.trace.answers.read_handles.Given as goal

-- the handles so far, and those that are read of the rest
abbrev pub invariant-loop-word : goal.invariant-loop-word
invariant-loop-word l =
    and_then l.handles.items (handles_told (words_in l.rest)) ≡ handles_told (words_in l.told)

abbrev pub decreases-loop-word : goal.decreases-loop-word
decreases-loop-word l = length l.rest
