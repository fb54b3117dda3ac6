-- The exit statuses that all programs have, and what the error stream gets with them.
use Rattle.std.specs.Prelude.{ℕ, List, [], ◌==◌, if◌then◌else◌, codes}
use Rattle.std.specs.declared.io.ErrorKind.{ErrorKind}
use Rattle.std.specs.declared.io.ErrorKind.TheVariants.{InvalidData, OutOfMemory}
use Rattle.cli.specs.declared.devices.named.NameFault.{NameFault}
use Rattle.cli.specs.declared.devices.named.NameFault.TheVariants.{Memory}

-- what the error stream gets with a status
abbrev pub said : ℕ → List ℕ
said status =
    if status == 3 then codes "memory\n" else (if status == 4 then codes "device\n" else [])

-- the exit status if the program's words can't be read
abbrev pub words_status : ErrorKind → ℕ
words_status OutOfMemory = 3
words_status InvalidData = 2
words_status kind = 4

-- the exit status if the file that a word names isn't read
abbrev pub name_status : NameFault → ℕ
name_status Memory = 3
name_status fault = 4
