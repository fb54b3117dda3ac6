-- What the test of a schedule found, and where.
use Rattle.std.specs.Prelude.{ℕ, ◌-◌, List, [], ◌++◌, codes, slice_index_or}
use Rattle.std.specs.Fmt.{decimal}
use Rattle.std.specs.List.{flat_map}
use Rattle.ent_replay.specs.ScheduleText.{lines_of}
use Rattle.ent_script.specs.Shown.{byte_text, front}

-- the line of this number, from 1; empty if there is none
abbrev pub line_at : List ℕ → ℕ → List ℕ
line_at text line = slice_index_or (lines_of text) (line - 1) []

-- a line of a schedule and its number
abbrev pub line_found : List ℕ → ℕ → List ℕ
line_found text line =
    codes "; found \"" ++ front (flat_map byte_text (line_at text line)) ++ codes "\" at line "
    ++ decimal line ++ codes " (counted from 1)"
