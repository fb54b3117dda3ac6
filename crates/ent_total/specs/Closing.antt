-- Why a phase was not closed.
use Rattle.std.specs.Prelude.{ℕ}
use Rattle.ent_total.specs.declared.close_error.CloseError.{CloseError}
use Rattle.ent_total.specs.declared.close_error.CloseError.TheVariants.{OtherPhase, Order, Missing}
use Rattle.ent_total.specs.declared.close_error.CloseError.TheVariants.{InUse}

-- callers are missing
abbrev pub IsMissing : CloseError → Type 0
IsMissing (Missing count) = Unit {0}
IsMissing OtherPhase = ⊥
IsMissing Order = ⊥
IsMissing InUse = ⊥

-- how many of them, if that is the error
abbrev pub count_missing : CloseError → ℕ
count_missing (Missing count) = count
count_missing OtherPhase = 0
count_missing Order = 0
count_missing InUse = 0
