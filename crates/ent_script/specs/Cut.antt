-- A value of which no more is kept than a test of scripts looks at.
use Rattle.std.specs.Prelude.{ℕ, zero, suc}
use Rattle.serde_json.specs.Data.{Data, null, boolean, number, string, array, object}
use Rattle.serde_json.specs.Data.{no_items, Members, no_members, member}

-- arrays are emptied, and so are objects nested deeper than that many levels
abbrev mutual
  pub cut : ℕ → Data → Data
  cut levels null = null
  cut levels (boolean b) = boolean b
  cut levels (number n) = number n
  cut levels (string s) = string s
  cut levels (array ds) = array no_items
  cut zero (object ms) = object no_members
  cut (suc levels) (object ms) = object (cut_members levels ms)

  pub cut_members : ℕ → Members → Members
  cut_members levels no_members = no_members
  cut_members levels (member k d ms) = member k (cut levels d) (cut_members levels ms)
