-- The values of an entity, one by one: what is written tells them.
use Rattle.ent_storage.proofs.Common.{rules, ◌≡◌, ◌≢◌, refl, sym, ap, ◌∙◌, ℕ, zero, suc, ℤ, ◌+◌}
use Rattle.ent_storage.proofs.Common.{◌<◌, ◌≤◌, List, ◌++◌, Option, None, Some, add-one, arith, w64}
use Rattle.ent_storage.proofs.Common.{FitsSigned, flat_map, range_with_len, Fits-lt-pow, Fits-of_z}
use Rattle.ent_storage.proofs.Common.{cases_eq, append_assoc, append-nil, ComponentId, value_bytes}
use Rattle.ent_storage.proofs.Common.{values_bytes, component, to_z-of_z}
use Rattle.ent_handle.proofs.Spelled.{same_longs}

-- ---- pieces, one for each number

module _ (f : ℕ → List ℕ) where
  pieces_more : (a n : ℕ) → flat_map f (range_with_len a (suc n))
      ≡ flat_map f (range_with_len a n) ++ f (a + n)
  pieces_more a zero = search (rules, append-nil)
  pieces_more a (suc n) = search (rules, append_assoc, pieces_more (a + 1) n)

  -- the piece of one number, and those before and after it
  pieces_split : (a n k : ℕ) → k < n → (rest : List ℕ) × (flat_map f (range_with_len a n)
      ≡ flat_map f (range_with_len a k) ++ (f (a + k) ++ rest))
  pieces_split a zero k lt = absurd (omega arith)
  pieces_split a (suc n) zero lt = (flat_map f (range_with_len (a + 1) n), search (rules, arith))
  pieces_split a (suc n) (suc k) lt = let inner = pieces_split (a + 1) n k (omega arith) in
      search (rules, append_assoc)

-- pieces that are alike one by one
pieces_alike : (f g : ℕ → List ℕ) (a n : ℕ) → ((k : ℕ) → a ≤ k → k < a + n → f k ≡ g k)
    → flat_map f (range_with_len a n) ≡ flat_map g (range_with_len a n)
pieces_alike f g a zero each = refl
pieces_alike f g a (suc n) each =
    search (
      rules,
      arith,
      each a,
      pieces_alike f g (a + 1) n (λ k least below. each k (omega arith) (omega arith)),
    )

-- ---- one value

-- a value has 64 bits, if there is one
abbrev pub Fits : Option ℤ → Type 0
Fits value = (v : ℤ) → value ≡ Some v → FitsSigned w64 v

abbrev pub AllFit : (ComponentId → Option ℤ) → Type 0
AllFit value = (id : ComponentId) → Fits (value id)

same_value : (v w : Option ℤ) (xs ys : List ℕ) → Fits v → Fits w
    → value_bytes v ++ xs ≡ value_bytes w ++ ys → (v ≡ w) × (xs ≡ ys)
same_value v w xs ys fv fw same = search (rules, same_longs, to_z-of_z, Fits-lt-pow, Fits-of_z)

-- ---- values

abbrev piece : (ComponentId → Option ℤ) → ℕ → List ℕ
piece value k = value_bytes (value (component k))

pub values_more : (value : ComponentId → Option ℤ) (n : ℕ)
    → values_bytes value (n + 1) ≡ values_bytes value n ++ value_bytes (value (component n))
values_more value n = search (rules, arith, add-one, pieces_more (piece value) 0 n)

same_pieces : (f g : ComponentId → Option ℤ) (a n : ℕ) (xs ys : List ℕ) → AllFit f → AllFit g
    → flat_map (piece f) (range_with_len a n) ++ xs ≡ flat_map (piece g) (range_with_len a n) ++ ys
    → ((k : ℕ) → a ≤ k → k < a + n → f (component k) ≡ g (component k)) × (xs ≡ ys)
same_pieces f g a zero xs ys ff fg same = ((λ k least below. absurd (omega arith)), same)
same_pieces f g a (suc n) xs ys ff fg same =
    let rest_f = flat_map (piece f) (range_with_len (a + 1) n) in
    let rest_g = flat_map (piece g) (range_with_len (a + 1) n) in
    let one =
    same_value (f (component a)) (g (component a)) (rest_f ++ xs) (rest_g ++ ys)
    (ff (component a))
    (fg (component a))
    (sym (append_assoc (piece f a) rest_f xs) ∙ same ∙ append_assoc (piece g a) rest_g ys) in
    let rest = same_pieces f g (a + 1) n xs ys ff fg one.1 in
    search (rules, cases_eq)

-- values that are written alike are the same
pub same_values : (f g : ComponentId → Option ℤ) (n : ℕ) (xs ys : List ℕ) → AllFit f → AllFit g
    → values_bytes f n ++ xs ≡ values_bytes g n ++ ys
    → ((k : ℕ) → k < n → f (component k) ≡ g (component k)) × (xs ≡ ys)
same_values f g n xs ys ff fg same = search (rules, same_pieces)

-- ---- values that are read

apart_by_number : (id : ComponentId) (n : ℕ) → id.0 ≢ n → id ≢ component n
apart_by_number id n other is = other (ap (λ (c : ComponentId). c.0) is)

module _ (old new : ComponentId → Option ℤ) (n : ℕ) (value : Option ℤ)
    (here : new (component n) ≡ value)
    (others : (id : ComponentId) → id ≢ component n → new id ≡ old id) where
  -- the next one
  pub read_more : (bytes rest left : List ℕ) → bytes ≡ values_bytes old n ++ rest
      → rest ≡ value_bytes value ++ left → bytes ≡ values_bytes new (n + 1) ++ left
  read_more bytes rest left before next =
      search (rules, pieces_alike, apart_by_number, append_assoc, values_more)

  pub free_more : ((id : ComponentId) → n ≤ id.0 → old id ≡ None) → (id : ComponentId)
      → n + 1 ≤ id.0 → new id ≡ None
  free_more free id least = search (rules, apart_by_number)

  pub fits_more : (P : ℕ → ℤ → Type 0) → ((id : ComponentId) (v : ℤ) → old id ≡ Some v → P id.0 v)
      → ((v : ℤ) → value ≡ Some v → P n v) → (id : ComponentId) (v : ℤ) → new id ≡ Some v → P id.0 v
  fits_more P each last id v is = search (rules, cases_eq, apart_by_number)

-- where no value is next, no values are written
pub none_next : (f g : ComponentId → Option ℤ) (width n : ℕ) (bytes rest more : List ℕ) → n < width
    → AllFit f → AllFit g → bytes ≡ values_bytes f n ++ rest
    → ((value : Option ℤ) (left : List ℕ) → rest ≢ value_bytes value ++ left)
    → bytes ≢ values_bytes g width ++ more
none_next f g width n bytes rest more lt ff fg before none same =
    let split = pieces_split (piece g) 0 width n lt in
    let parts =
    same_values f g n rest (piece g (0 + n) ++ (split.0 ++ more)) ff fg
    (search (rules, append_assoc)) in
    none (g (component (0 + n))) (split.0 ++ more) parts.1

pub below_more : (P : ComponentId → Type 0) (n : ℕ) → ((id : ComponentId) → id.0 < n → P id)
    → P (component n) → (id : ComponentId) → id.0 < n + 1 → P id
below_more P n each last id below = search (rules, cases_eq)
