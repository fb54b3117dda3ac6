-- What a rule over a word and its records must be like, so that records may move from holder to
-- holder.
use Rattle.std.specs.Prelude.{List, flat_map, IsPermutation}
use Rattle.atomic_table.specs.Table.{State}

-- the records of all holders
abbrev pub records_in : {R : Type 0} → List (List R) → List R
records_in {R} views = flat_map (λ (view : List R). view) views

-- The rule goes by the records, and not by which holder has which: it stays true if other holders
-- have them.
abbrev pub GoesByRecords : {R : Type 0} → (State (Unit {0}) (List R) → Type 0) → Type 0
GoesByRecords {R} holds =
    (s : State (Unit {0}) (List R)) (views : List (List R))
    → IsPermutation (records_in s.views) (records_in views) → holds s
    → holds (record { words = s.words; homes = s.homes; views = views })
