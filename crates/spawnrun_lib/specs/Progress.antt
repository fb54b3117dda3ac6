-- What a terminal shows of a run's progress.
use Rattle.std.specs.Prelude.{ℕ, List, ◌++◌, codes}
use Rattle.std.specs.Fmt.{decimal}

-- that many of all are done; it is written over what the line had before
abbrev pub done_text : ℕ → ℕ → List ℕ
done_text done of = codes "\r" ++ decimal done ++ codes " of " ++ decimal of ++ codes " done"

-- what empties the line
abbrev pub empty_text : List ℕ
empty_text = codes "\r\u{1b}[K"
