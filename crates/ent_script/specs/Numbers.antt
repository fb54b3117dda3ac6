-- What the maps of names say. Only the invariant of `Names`, which is private, and proofs use this.
use Rattle.std.specs.Prelude.{◌≡◌, ◌-◌, ◌<◌, ℕ, List, length, map, Option, Some, IfSome}
use Rattle.std.specs.Ordering.{nat_cmp}
use Rattle.std.specs.BTreeMap.{BTreeMap, get_by}
use Rattle.std.specs.Borrow.{Bor}
use Rattle.std.specs.Cmp.Lexicographic.{slice_cmp}
use Rattle.ent_script.specs.Names.{number_among}

-- the map has the number of each name: how many come before it
abbrev pub HaveNumbers : List (Bor (List ℕ)) → BTreeMap (Bor (List ℕ)) ℕ → Type 0
HaveNumbers names numbers = (text : List ℕ)
    → get_by (λ k. slice_cmp nat_cmp text k.now) numbers
    ≡ number_among text (map (λ name. name.now) names)

-- the last of the names, if it is known
abbrev pub IsLast : List (Bor (List ℕ)) → Option (Bor (List ℕ)) → Type 0
IsLast names last = IfSome last (λ name. (0 < length names)
    × (number_among name.now (map (λ name. name.now) names) ≡ Some (length names - 1)))
