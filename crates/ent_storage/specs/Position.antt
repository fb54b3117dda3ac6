-- The position of a key in a list of pairs whose keys strictly rise, or where it would go.
use Rattle.std.specs.Prelude.{◌≡◌, ℕ, ◌<◌, ◌≤◌, List, length}
use Rattle.std.specs.declared.cmp.Ordering.{Ordering}
use Rattle.std.specs.declared.cmp.Ordering.TheVariants.{Less, Equal, Greater}
use Rattle.std.specs.List.{HoldsAt, AllWithin}

module _ {K X : Type 0} (R : K → K → Ordering) where
  -- the pair at position i has the key
  pub record IsAt (pairs : List (K × X)) (key : K) (i : ℕ) : Type 0 where
    pub in_range : i < length pairs
    pub has_key : HoldsAt (λ pair. R pair.0 key ≡ Equal) pairs i

  -- no pair has the key, which would go to position i: the keys before it are smaller, the others
  -- greater
  pub record IsGapFor (pairs : List (K × X)) (key : K) (i : ℕ) : Type 0 where
    pub in_range : i ≤ length pairs
    pub smaller_before : AllWithin (λ pair. R pair.0 key ≡ Less) pairs 0 i
    pub greater_after : AllWithin (λ pair. R pair.0 key ≡ Greater) pairs i (length pairs)
