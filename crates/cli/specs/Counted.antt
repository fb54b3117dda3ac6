-- What a counting adapter keeps.
use Rattle.std.specs.Prelude.{ℕ}
use Rattle.cli.specs.declared.devices.counted.Counted.{Counted}

-- the reader or writer that the adapter counts for
abbrev pub device_of : {T : Type 0} → Counted T → T
device_of counted = counted.device

-- how many calls failed
abbrev pub failures_of : {T : Type 0} → Counted T → ℕ
failures_of counted = counted.failures
