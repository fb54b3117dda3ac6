-- The fault that a program makes of clap's error.
use Rattle.std.proofs.Common.{rules, ◌≡◌}
use Rattle.std.specs.Prelude.{IfErr, IsErrAnd, Result}
use Rattle.clap.specs.Words.{HasKind, kind_of}
use Rattle.clap.specs.Kinds.{Kinds}
use Rattle.clap.specs.declared.error.Error.{Error}
use Rattle.clap.specs.declared.error.ErrorKind.TheVariants.{OutOfMemory}
use Rattle.cli.specs.Fault.{IsFaultAmong, IsFaultOf}
use Rattle.cli.specs.declared.line_fault.LineFault.{LineFault}
use Rattle.cli.specs.declared.line_fault.LineFault.TheVariants.{Memory}

-- an error of words that are admitted is lack of memory
pub only_memory : {T : Type 0} (r : Result T LineFault) (error : Error) (admitted : Type 0)
    → IsErrAnd r (IsFaultOf error) → (admitted → kind_of error ≡ OutOfMemory)
    → IfErr r (λ fault. admitted → fault ≡ Memory)
only_memory it error admitted fault kind = search rules

-- and clap's rules find it
pub found_fault : {T : Type 0} (r : Result T LineFault) (error : Error) (kinds : Kinds)
    → IsErrAnd r (IsFaultOf error) → HasKind kinds error → IfErr r (IsFaultAmong kinds)
found_fault it error kinds fault kind = search rules
