-- What a test of a script found, and where.
use Rattle.std.specs.Prelude.{◌≡◌, ℕ, ◌<◌, ◌≤◌, ◌⊎◌, List, [], ◌++◌, length, codes, MatchOption}
use Rattle.std.specs.Fmt.{decimal}
use Rattle.ent_script.specs.declared.read_fault.ReadFault.{ReadFault}
use Rattle.ent_script.specs.declared.read_fault.ReadFault.TheVariants as fault
use Rattle.ent_script.specs.Reading.{json_of}
use Rattle.ent_script.specs.Place.{Place, IsPlaceOf, Shows}
use Rattle.ent_script.specs.Shown.{front, plain}

-- where a test of a script failed; nothing unless it is in a frame
abbrev pub position_text : ReadFault → List ℕ
position_text (fault.Frame f) = codes " at frame " ++ decimal f ++ codes " (counted from 0)"
position_text (fault.System f s) =
    codes " at frame " ++ decimal f ++ codes ", system " ++ decimal s
    ++ codes " (counted from 0)"
position_text (fault.Operation f s o c) =
    codes " at frame " ++ decimal f ++ codes ", system " ++ decimal s
    ++ codes ", operation " ++ decimal o ++ codes " (counted from 0)"
position_text other = []

-- what is shown of a script: what is at the place of the fault, or some words about a text that
-- isn't JSON
abbrev pub ShowsValue : List ℕ → ReadFault → List ℕ → Type 0
ShowsValue text e shown =
    MatchOption (json_of text) ((words : List ℕ) × (shown ≡ front (plain words)))
    (λ d. (place : Place) × IsPlaceOf d e place × Shows place shown)

-- that, and where it is
pub record TellsOfValue (text : List ℕ) (e : ReadFault) (found : List ℕ) : Type 0 where
  pub shown : List ℕ
  pub shows : ShowsValue text e shown
  pub is : found ≡ codes "; found " ++ shown ++ position_text e

-- that there was no memory to show it, and where it is
abbrev pub unshown_text : ReadFault → List ℕ
unshown_text e = codes "; found what there was no memory to show" ++ position_text e

-- the longest text that is read once more, in bytes
abbrev pub longest_shown : ℕ
longest_shown = 65536

-- For a longer text the line says only where the test failed. For a shorter one it also says what
-- is there, or that there was no memory to show it.
pub record TellsOfScript (text : List ℕ) (e : ReadFault) (found : List ℕ) : Type 0 where
  pub long : longest_shown < length text → found ≡ position_text e
  pub short : length text ≤ longest_shown → TellsOfValue text e found ⊎ (found ≡ unshown_text e)
