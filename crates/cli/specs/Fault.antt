-- What clap's errors are for a program.
use Rattle.std.specs.Prelude.{⊤, ◌≡◌, ◌≢◌}
use Rattle.clap.specs.Words.{IsAmong, kind_of}
use Rattle.clap.specs.Kinds.{Kinds}
use Rattle.clap.specs.declared.error.Error.{Error}
use Rattle.clap.specs.declared.error.kind.ErrorKind.TheVariants.{OutOfMemory}
use Rattle.cli.specs.declared.line_fault.LineFault.{LineFault}
use Rattle.cli.specs.declared.line_fault.LineFault.TheVariants.{Line, Memory}

-- the fault that an error of clap's is
abbrev pub IsFaultOf : Error → LineFault → Type 0
IsFaultOf error (Line same) = (same ≡ error) × (kind_of error ≢ OutOfMemory)
IsFaultOf error Memory = kind_of error ≡ OutOfMemory

-- the fault is one of these kinds, unless memory ran out
abbrev pub IsFaultAmong : Kinds → LineFault → Type 0
IsFaultAmong kinds (Line error) = IsAmong (kind_of error) kinds
IsFaultAmong kinds Memory = ⊤
