-- Names, and their numbers among others.
use Rattle.std.specs.Prelude.{ℕ, Bool, ◌==◌, ◌+◌, ◌&&◌, ◌||◌, List, [], ◌∷◌, ◌++◌, length, nat_le}
use Rattle.std.specs.Prelude.{if◌then◌else◌, Option, Some, None, option_map, option_and_then}
use Rattle.std.specs.Prelude.{is_some}
use Rattle.std.specs.Char.{is_ascii_digit, is_ascii_lowercase}
use Rattle.std.specs.List.{list_all, fold}
use Rattle.std.specs.Str.{bytes_eq}
use Rattle.serde_json.specs.Data.{Data}
use Rattle.serde_json.specs.Find.{as_str}

-- a letter from a to z, a digit, or `_`
abbrev pub is_name_byte : ℕ → Bool
is_name_byte b = is_ascii_lowercase b || is_ascii_digit b || b == 95

-- 1 to 32 of them
abbrev pub is_name : List ℕ → Bool
is_name text = nat_le 1 (length text) && nat_le (length text) 32 && list_all is_name_byte text

-- the name that a value is
abbrev pub as_name : Data → Option (List ℕ)
as_name d = option_and_then (λ text. if is_name text then Some text else None) (as_str d)

-- the number of a name among others
abbrev pub number_among : List ℕ → List (List ℕ) → Option ℕ
number_among name [] = None
number_among name (first ∷ others) =
    if bytes_eq first name then Some 0 else option_map (λ n. n + 1) (number_among name others)

-- the names with this one, which goes last unless it is there
abbrev pub with_name : List (List ℕ) → List ℕ → List (List ℕ)
with_name names name = if is_some (number_among name names) then names else names ++ name ∷ []

abbrev pub with_part : List (List ℕ) → Option (List ℕ) → List (List ℕ)
with_part names None = names
with_part names (Some name) = with_name names name

-- the different names that f finds in the values, in the order in which they come first
abbrev pub names_in : (Data → Option (List ℕ)) → List Data → List (List ℕ)
names_in f ds = fold (λ names d. with_part names (f d)) [] ds
