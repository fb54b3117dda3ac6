-- A file that a word names: why it isn't read, and the line that says so.
use Rattle.std.specs.Prelude.{ℕ, List, ◌++◌, codes}
use Rattle.std.specs.declared.io.ErrorKind.{ErrorKind}
use Rattle.std.specs.declared.io.ErrorKind.TheVariants as kind
use Rattle.cli.specs.declared.devices.named.NameFault.{NameFault}
use Rattle.cli.specs.declared.devices.named.NameFault.TheVariants as fault

-- what an error of the system says of the name
abbrev pub fault_of : ErrorKind → NameFault
fault_of kind.NotFound = fault.Missing
fault_of kind.NotADirectory = fault.Missing
fault_of kind.IsADirectory = fault.Folder
fault_of kind.OutOfMemory = fault.Memory
fault_of _ = fault.Closed

abbrev pub reason : NameFault → List ℕ
reason fault.Missing = codes "no such file"
reason fault.Folder = codes "is a folder"
reason fault.Closed = codes "can't be opened"
reason fault.Memory = codes "out of memory"

-- the line that refuses a file
abbrev pub refusal : List ℕ → List ℕ → NameFault → List ℕ
refusal program name why =
    program ++ codes ": " ++ reason why ++ codes ": " ++ name ++ codes "\n"
