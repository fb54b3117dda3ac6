-- What the first pass over a text keeps of an object at the top.
use Rattle.std.specs.Prelude.{List, ℕ, codes, if◌then◌else◌}
use Rattle.std.specs.Str.{bytes_eq}
use Rattle.serde_json.specs.Data.{Data, null, Members, no_members, member}
use Rattle.ent_script.specs.Cut.{cut}

-- The value under a key, emptied. The heading doesn't depend on what `components` are.
abbrev pub head : List ℕ → Data → Data
head key d = if bytes_eq key (codes "components") then null else cut 0 d

abbrev pub heads : Members → Members
heads no_members = no_members
heads (member key d ms) = member key (head key d) (heads ms)
