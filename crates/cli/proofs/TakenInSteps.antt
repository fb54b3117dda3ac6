-- Bytes taken in several steps.
use Rattle.std.proofs.Common.{◌∙◌, ℕ, List, ◌++◌, Option, Some, None, ap, sym, append_assoc, arith}
use Rattle.std.specs.Io.KnownBytes.{Consumes}
use Rattle.cli.specs.Device.{Takes, TakesAtMost}

-- bytes taken in two steps are taken in one
pub Consumes-append : (old middle new : Option (List ℕ)) (first second : List ℕ)
    → Consumes old middle first → Consumes middle new second → Consumes old new (first ++ second)
Consumes-append None middle new first second taken more = taken
Consumes-append (Some all) None new first second taken more = elim taken [ ]
Consumes-append (Some all) (Some rest) None first second taken more = elim more [ ]
Consumes-append (Some all) (Some rest) (Some left) first second taken more = taken
    ∙ (ap (λ bytes. first ++ bytes) more ∙ sym (append_assoc first second left))

-- this many are at most this many
pub TakesAtMost-Takes : (old new : Option (List ℕ)) (count : ℕ) → Takes old new count
    → TakesAtMost old new count
TakesAtMost-Takes old new count takes = (takes.0, omega (arith, takes.1), takes.2)
