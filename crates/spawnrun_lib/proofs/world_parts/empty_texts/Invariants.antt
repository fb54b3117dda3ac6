use Rattle.spawnrun_lib.proofs.Common.{◌≡◌, vec_len}
use Rattle.spawnrun_lib.proofs.world_parts.empty_texts.Given as goal

abbrev pub invariant-loop : goal.invariant-loop
invariant-loop l = vec_len l.texts ≡ l.counter
