-- Options that take numbers, in the words of clap.
use Rattle.std.specs.Prelude.{◌≡◌, ℕ, List, [], ◌∷◌, Option, Some, pos, codes, option_map}
use Rattle.std.specs.Str.Parse.{digits_value, without_leading_plus}
use Rattle.clap.specs.Words.{IsSignedIn, Row, Rule, Text, found_of, new_rule, one_of, rows_of}
use Rattle.clap.specs.Words.{without_minus}
use Rattle.clap.specs.declared.builder.ArgAction.TheVariants.{Set}
use Rattle.clap.specs.declared.builder.value_parser.ValueParser.TheVariants.{Signed}
use Rattle.clap.specs.declared.parser.ArgMatches.{ArgMatches}

-- an option that takes a whole number from 1 to `most`, and has a default
abbrev pub number_option : Text → ℕ → Text → Rule
number_option name most default = record (new_rule name) {
  long = Some name;
  action = Some Set;
  value_names = 1;
  parser = Some (Signed (pos 1) (pos most));
  defaults = default ∷ [];
}

abbrev pub slots_option : Rule
slots_option = number_option (codes "slots") 4294967295 (codes "4294967295")

abbrev pub generations_option : Rule
generations_option = number_option (codes "generations") 2147483647 (codes "2147483647")

-- what clap's matches have for each option
abbrev pub given : ArgMatches → List Row
given matches = rows_of (found_of matches)

-- the number that an option has there
abbrev pub option_number : Text → List Row → Option ℕ
option_number option rows =
    option_map (λ text. digits_value 10 (without_leading_plus text)) (one_of option rows)

-- the option's value is a whole number from 1 to `most`, which may have a sign
pub record HasNumber (option : Text) (most : ℕ) (rows : List Row) : Type 0 where
  pub text : Text
  pub is : one_of option rows ≡ Some (without_minus text)
  pub within : IsSignedIn (pos 1) (pos most) text
