-- What stands behind the bracket that a reader took, and behind a value that it passed over.
use Rattle.ent_script.proofs.Common.{rules, ◌≡◌, ◌-◌, ℕ, [], ◌∷◌, List, length, Some, None, Bool}
use Rattle.ent_script.proofs.Common.{true, false, tokens, Token, items, members, value, left_some}
use Rattle.ent_script.proofs.Common.{Data, Items, Members, array, object, no_members, as_array}
use Rattle.ent_script.proofs.Common.{as_object, get, of_json, of_items, of_members, converted, read}
use Rattle.ent_script.proofs.Common.{left, BeginsObject, BeginsArray, begins_object, Ok, ◌<◌}
use Rattle.ent_script.proofs.Turns.{converted-array, converted-object}
use Rattle.ent_script.proofs.Finding.{whole_text, no_object}

pub opened_array : (depth : ℕ) (ts r : List Token) (d : Data)
    → converted of_json (value depth (Token.begin_array ∷ ts)) ≡ Some (d, r)
    → (0 < depth)
    × ((ds : Items) × (d ≡ array ds)
    × (converted of_items (items (value (depth - 1)) (length ts) ts) ≡ Some (ds, r)))
unfolding value
opened_array it ts r d e = search (rules, converted-array)

pub opened_object : (depth : ℕ) (ts r : List Token) (d : Data)
    → converted of_json (value depth (Token.begin_object ∷ ts)) ≡ Some (d, r)
    → (0 < depth) × ((ms : Members) × (d ≡ object ms) × (converted (λ ms. of_members ms no_members)
    (members (value (depth - 1)) (length ts) ts) ≡ Some (ms, r)))
unfolding value
opened_object it ts r d e = search (rules, converted-object)

-- whether the value was an array
module _ (depth : ℕ) (b : Bool) (ts : List Token) (d : Data) (rest : List Token)
    (begins : BeginsArray depth (Ok b) ts d rest) where
  pub array_begun : b ≡ true → (ds : Items) × (d ≡ array ds)
      × (converted of_items (items (value (depth - 1)) (length ts) ts) ≡ Some (ds, rest))
  array_begun is = search rules

  pub no_array_begun : b ≡ false → (as_array d ≡ None) × (ts ≡ rest)
  no_array_begun is = search rules

-- whether the value was an object
module _ (depth : ℕ) (b : Bool) (ts : List Token) (d : Data) (rest : List Token)
    (begins : BeginsObject depth (Ok b) ts d rest) where
  pub object_begun : b ≡ true → (ms : Members) × (d ≡ object ms)
      × (converted (λ ms. of_members ms no_members) (members (value (depth - 1)) (length ts) ts)
      ≡ Some (ms, rest))
  object_begun is = search rules

  pub no_object_begun : b ≡ false → (as_object d ≡ None) × (ts ≡ rest)
  no_object_begun is = search rules

-- whether the text is an object
module _ (text : List ℕ) (d : Data) (read_as : read text ≡ Some d) (all : List Token)
    (of_text : all ≡ tokens text) where
  whole : converted of_json (value 127 all) ≡ Some (d, [])
  whole = search (rules, whole_text)

  pub text_object : (ts : List Token) → all ≡ Token.begin_object ∷ ts
      → (ms : Members) × (d ≡ object ms)
      × (converted (λ ms. of_members ms no_members) (members (value 126) (length ts) ts)
      ≡ Some (ms, []))
  text_object ts begins = search (rules, opened_object, whole)

  pub text_no_object : (k : List ℕ) → begins_object all ≡ false → get k d ≡ None
  text_no_object k other = no_object 127 all [] d k other whole

-- a value that was passed over, of which the first token was taken before
pub passed_nested : (depth : ℕ) (t u : Token) (all ts r : List Token) → all ≡ t ∷ ts → t ≡ u
    → left (converted of_json (value depth (t ∷ ts))) ≡ Some r
    → (d : Data) × (converted of_json (value depth all) ≡ Some (d, r))
    × (converted of_json (value depth (u ∷ ts)) ≡ Some (d, r))
passed_nested depth t u all ts r first is over = search (rules, left_some)
