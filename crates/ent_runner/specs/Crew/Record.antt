-- What one claimer has claimed, and how a step adds to it.
use Rattle.std.specs.Prelude.{ℕ, nat_lt, if◌then◌else◌, true, false, List, [], ◌∷◌, ◌++◌}
use Rattle.ent_runner.specs.declared.crew.record.ClaimRecord.{ClaimRecord}

-- a claimer that has done nothing yet
abbrev pub nothing_claimed : ℕ → ClaimRecord
nothing_claimed numbers = record { numbers = numbers; claims = []; ended = false }

-- the record after a step that found this number
abbrev pub after_claim : ClaimRecord → ℕ → ClaimRecord
after_claim r found =
    if nat_lt found r.numbers
    then record r { claims = r.claims ++ found ∷ [] }
    else record r { ended = true }

-- no claimer's record
abbrev pub nobody : ClaimRecord
nobody = record { numbers = 0; claims = []; ended = false }

-- the one record of what a token knows
abbrev pub claims_of : List (List ClaimRecord) → ClaimRecord
claims_of ((r ∷ rs) ∷ views) = r
claims_of _ = nobody
