-- What is written to a terminal while a trace is read.
use Rattle.std.specs.Prelude.{ℕ, List, ◌++◌, codes}
use Rattle.std.specs.Fmt.{decimal}

-- that many millions of lines were read
abbrev pub millions_text : ℕ → List ℕ
millions_text millions = decimal millions ++ codes " million lines\n"
