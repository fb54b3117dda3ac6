-- The number of an option: what clap's getter reads.
use Rattle.std.proofs.Common.{rules, ◌≡◌, ◌∙◌, ◌^◌, ◌<◌, ◌≤◌, ℕ, Option, Some}
use Rattle.std.specs.Prelude.{Result}
use Rattle.std.specs.Str.Parse.{ExplainsUnsignedError, HasUnsignedDigitsIfOk, ParsesUnsigned}
use Rattle.std.specs.declared.num.ParseIntError.{ParseIntError}
use Rattle.clap.specs.Matches.{ReadsOne, one_text}
use Rattle.clap.specs.Words.{Text, rows_of, without_minus}
use Rattle.clap.specs.declared.parser.matches.Found.{Found}
use Rattle.clap.proofs.WalkLemmas.{one_text-rows}
use Rattle.cli.specs.Options.{HasNumber, option_number}

-- what `FromStr` promises of a number of this many bits
abbrev number_gives : ℕ → Text → Result ℕ ParseIntError → Type 0
number_gives bits text r = ParsesUnsigned bits 10 text r × ExplainsUnsignedError 10 text r
    × HasUnsignedDigitsIfOk text r

-- the number that the getter of an option in range reads
pub number_read : (bits : ℕ) (option : Text) (most : ℕ) (found : Found) (r : Option ℕ)
    → most < 2 ^ bits → HasNumber option most (rows_of found)
    → ((text : Text) → one_text found option ≡ Some text → ReadsOne (number_gives bits) text r)
    → (n : ℕ) × (r ≡ Some n) × (1 ≤ n) × (n ≤ most)
    × (option_number option (rows_of found) ≡ Some n)
number_read bits option most found r fits number reads = search
    (rules, reads (without_minus number.text) (one_text-rows found option ∙ number.is))
