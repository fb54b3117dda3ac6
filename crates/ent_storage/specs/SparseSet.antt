-- The values of one component: a finite map from places, and the two vectors that represent it.
use Rattle.std.specs.Prelude.{◌≡◌, ◌≢◌, ℕ, ℤ, ◌<◌, ◌≤◌, ◌⊎◌, List, None, Some, slice_get, refl}
use Rattle.std.specs.Coded.{Coded, code_by, coded×, coded_ℕ, coded_ℤ}
use Rattle.std.specs.Ordering.{nat_cmp}
use Rattle.std.specs.FinMap as map

-- the value at each place that has one
abbrev pub Values : Type 0
Values = map.FinMap nat_cmp ℤ

-- The values of one component, for how many more of them there is room, and for how many places.
-- Then the length and the capacity of the dense vector, and the capacity of the sparse one.
pub record Column : Type 0 where
  pub values : Values
  pub spare : ℕ
  pub places : ℕ
  pub count : ℕ
  pub value_room : ℕ
  pub place_room : ℕ

-- a column is stored as the tuple of its parts
abbrev pub column_code : Coded Column
column_code =
    code_by (Values × (ℕ × (ℕ × (ℕ × (ℕ × ℕ))))) (coded× (map.code coded_ℕ coded_ℤ)
    (coded× coded_ℕ (coded× coded_ℕ (coded× coded_ℕ (coded× coded_ℕ coded_ℕ)))))
    (λ c. (c.values, (c.spare, (c.places, (c.count, (c.value_room, c.place_room))))))
    (λ p. record {
      values = p.0;
      spare = p.1.0;
      places = p.1.1.0;
      count = p.1.1.1.0;
      value_room = p.1.1.1.1.0;
      place_room = p.1.1.1.1.1;
    }) (λ _. refl)

-- a column of no values, without room
abbrev pub no_column : Column
no_column = record {
  values = map.empty;
  spare = 0;
  places = 0;
  count = 0;
  value_room = 0;
  place_room = 0;
}

-- each pair of the dense vector is where the sparse vector says at the pair's place
pub record IsDense (dense : List (ℕ × ℤ)) (sparse : List ℕ) : Type 0 where
  pub entry : (k p : ℕ) (v : ℤ) → slice_get dense k ≡ Some (p, v) → slice_get sparse p ≡ Some k

-- a value can be set at the place without memory
pub record HasRoomAt (column : Column) (place : ℕ) : Type 0 where
  pub spare : map.get column.values place ≡ None → 0 < column.spare
  pub in_range : map.get column.values place ≡ None → place < column.places

-- the values after the one at a place was taken out, and the one at a later place moved there
pub record IsMovedDown (place last : ℕ) (old new : Values) : Type 0 where
  pub moved : place < last → map.get new place ≡ map.get old last
  pub left : map.get new last ≡ None
  pub others : (p : ℕ) → p ≢ place → p ≢ last → map.get new p ≡ map.get old p

-- the vectors of the source fit into those of the column
pub record Fits (column source : Column) : Type 0 where
  pub some : 0 < source.count
  pub values : source.count ≤ column.value_room
  pub places : source.places ≤ column.place_room

-- the column can take over the values of the source without memory
abbrev pub HasRoomFor : Column → Column → Type 0
HasRoomFor column source = (source.values ≡ map.empty) ⊎ Fits column source
