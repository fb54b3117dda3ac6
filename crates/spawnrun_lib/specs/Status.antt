-- The program's exit status.
use Rattle.std.specs.Prelude.{ℕ}
use Rattle.spawnrun_lib.specs.declared.status.Status.{Status}
use Rattle.spawnrun_lib.specs.declared.status.Status.TheVariants.{Done, Refused, Memory, Device}

-- 2 is left for words that are no command line
abbrev pub exit_number : Status → ℕ
exit_number Done = 0
exit_number Refused = 1
exit_number Memory = 3
exit_number Device = 4
