-- The places of entities: the position of each in the vectors of a storage.
use Rattle.std.specs.Prelude.{◌≡◌, ◌≢◌, ℕ, ◌+◌, ◌-◌, ◌<◌, List, length, slice_get, refl}
use Rattle.std.specs.Coded.{Coded, code_by, coded×, coded_ℕ}
use Rattle.std.specs.FinMap as map
use Rattle.ent_handle.specs.Handle.{Handle, handle_cmp, handle_code}

-- how many places there are at most: each of them is kept in 32 bits
abbrev pub most_places : ℕ
most_places = 4294967296

-- the place of each handle, and for how many handles there is room in all
pub record Places : Type 0 where
  pub by_handle : map.FinMap handle_cmp ℕ
  pub room : ℕ

-- places are stored as the pair of these two
abbrev pub places_code : Coded Places
places_code =
    code_by (map.FinMap handle_cmp ℕ × ℕ) (coded× (map.code handle_code coded_ℕ) coded_ℕ)
    (λ p. (p.by_handle, p.room)) (λ p. record { by_handle = p.0; room = p.1 }) (λ _. refl)

-- the handles at the places after one was taken out: the last one has moved into its place
pub record AreWithout (place : ℕ) (old new : List Handle) : Type 0 where
  pub one_less : length new + 1 ≡ length old
  pub moved : place + 1 < length old → slice_get new place ≡ slice_get old (length old - 1)
  pub others : (k : ℕ) → k ≢ place → k + 1 < length old → slice_get new k ≡ slice_get old k
