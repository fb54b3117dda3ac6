-- What the format asks of a JSON value.
use Rattle.std.specs.Prelude.{ℕ, ℤ, pos, negsuc, Bool, ◌&&◌, List, [], ◌∷◌, length, nat_le}
use Rattle.std.specs.Prelude.{if◌then◌else◌, Option, Some, None, option_map, option_and_then}
use Rattle.std.specs.List.{list_all, list_any}
use Rattle.std.specs.Str.{bytes_eq}
use Rattle.serde_json.specs.Data.{Data, Items, no_items, item, Members, no_members, member}
use Rattle.serde_json.specs.Find.{as_array, as_object, as_number, as_i64}

abbrev pub list_of : Items → List Data
list_of no_items = []
list_of (item d ds) = d ∷ list_of ds

abbrev pub pairs_of : Members → List (List ℕ × Data)
pairs_of no_members = []
pairs_of (member key d ms) = (key, d) ∷ pairs_of ms

-- the elements of an array
abbrev pub elements : Data → Option (List Data)
elements d = option_map list_of (as_array d)

-- the elements of an array, if there are at most that many
abbrev pub at_most : ℕ → Data → Option (List Data)
at_most most d =
    option_and_then (λ ds. if nat_le (length ds) most then Some ds else None) (elements d)

-- the members of an object: each key once, in the order of their bytes, with its value
abbrev pub members : Data → Option (List (List ℕ × Data))
members d = option_map pairs_of (as_object d)

-- each key of the members is one of these
abbrev pub keys_among : List (List ℕ) → List (List ℕ × Data) → Bool
keys_among allowed ms = list_all (λ m. list_any (λ key. bytes_eq m.0 key) allowed) ms

-- the whole number that it is
abbrev pub whole : Data → Option ℤ
whole d = option_and_then as_i64 (as_number d)

abbrev pub in_range : ℕ → ℕ → ℤ → Option ℕ
in_range low high (pos n) = if nat_le low n && nat_le n high then Some n else None
in_range low high (negsuc n) = None

-- the whole number in this range that it is
abbrev pub whole_within : ℕ → ℕ → Data → Option ℕ
whole_within low high d = option_and_then (in_range low high) (whole d)
