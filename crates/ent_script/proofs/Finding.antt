-- Of a text that is read as a value: what each step of a reader finds, and what it passed over.
use Rattle.ent_script.proofs.Common.{rules, ◌≡◌, ℕ, ◌-◌, List, [], ◌∷◌, false, Option, Some, None}
use Rattle.ent_script.proofs.Common.{option_map, refl, sym, ap, ◌∙◌, Token, Parse, parse_map}
use Rattle.ent_script.proofs.Common.{after_end_array, read_key, items, members, value, value_is}
use Rattle.ent_script.proofs.Common.{Data, Items, no_items, item, Members, put, as_array, as_object}
use Rattle.ent_script.proofs.Common.{get, tokens, begins_object, of_json, of_items, of_members}
use Rattle.ent_script.proofs.Common.{converted, read, ◌+◌, length, list_of, left}
use Rattle.json.specs.Json as json
use Rattle.ent_script.proofs.Turns.{item_read, item_refused, member_read, member_refused}
use Rattle.ent_script.proofs.Turns.{key_refused, converted-object, converted-array}

pub impossible : {A : Type 0} {P : Type 0} (x : A) → None ≡ Some x → P
impossible x e = absurd (cc e)

pub mapped : {A B : Type 0} (f : A → B) (o : Option (A × List Token)) (b : B) (r : List Token)
    → parse_map f o ≡ Some (b, r) → (a : A) × (b ≡ f a) × (o ≡ Some (a, r))
mapped f None b r e = impossible (b, r) e
mapped {A} {B} f (Some p) b r e = search (rules)

module _ (p : Parse json.Json) where
  next_by : (o : Option (Data × List Token)) (n : ℕ) (ts rest : List Token) (ds : Items)
      → converted of_json (p ts) ≡ o → after_end_array ts ≡ None
      → converted of_items (items p n ts) ≡ Some (ds, rest)
      → (d : Data) × (r : List Token) × (later : Items) × (ds ≡ item d later)
      × (converted of_json (p ts) ≡ Some (d, r))
      × (converted of_items (items p (n - 1) r) ≡ Some (later, rest))
  unfolding items
  next_by it n ts rest ds first going e = search (rules, item_refused, item_read, mapped)

  pub next_item : (n : ℕ) (ts rest : List Token) (ds : Items) → after_end_array ts ≡ None
      → converted of_items (items p n ts) ≡ Some (ds, rest)
      → (d : Data) × (r : List Token) × (later : Items) × (ds ≡ item d later)
      × (converted of_json (p ts) ≡ Some (d, r))
      × (converted of_items (items p (n - 1) r) ≡ Some (later, rest))
  next_item n ts rest ds going e = next_by (converted of_json (p ts)) n ts rest ds refl going e

  pub last_item : (n : ℕ) (ts r rest : List Token) (ds : Items) → after_end_array ts ≡ Some r
      → converted of_items (items p n ts) ≡ Some (ds, rest) → (ds ≡ no_items) × (r ≡ rest)
  unfolding items
  last_item n ts r rest ds over e = search rules

  member_by : (o : Option (Data × List Token)) (n : ℕ) (k : List ℕ) (ts s rest : List Token)
      (old ms : Members) → converted of_json (p s) ≡ o → read_key ts ≡ Some (Some k, s)
      → converted (λ ms. of_members ms old) (members p n ts) ≡ Some (ms, rest)
      → (d : Data) × (r : List Token) × (converted of_json (p s) ≡ Some (d, r))
      × (converted (λ ms. of_members ms (put k d old)) (members p (n - 1) r) ≡ Some (ms, rest))
  unfolding members
  member_by it n k ts s rest old ms first key e = search (rules, member_refused, member_read)

  pub next_member : (n : ℕ) (k : List ℕ) (ts s rest : List Token) (old ms : Members)
      → read_key ts ≡ Some (Some k, s)
      → converted (λ ms. of_members ms old) (members p n ts) ≡ Some (ms, rest)
      → (d : Data) × (r : List Token) × (converted of_json (p s) ≡ Some (d, r))
      × (converted (λ ms. of_members ms (put k d old)) (members p (n - 1) r) ≡ Some (ms, rest))
  next_member n k ts s rest old ms key e =
      member_by (converted of_json (p s)) n k ts s rest old ms refl key e

  pub last_member : (n : ℕ) (ts r rest : List Token) (old ms : Members)
      → read_key ts ≡ Some (None, r)
      → converted (λ ms. of_members ms old) (members p n ts) ≡ Some (ms, rest)
      → (ms ≡ old) × (r ≡ rest)
  unfolding members
  last_member n ts r rest old ms over e = search rules

  pub no_key : (n : ℕ) (ts rest : List Token) (old ms : Members) {P : Type 0} → read_key ts ≡ None
      → converted (λ ms. of_members ms old) (members p n ts) ≡ Some (ms, rest) → P
  no_key n ts rest old ms none e = search (rules, impossible, key_refused)

-- ---- a value that does not begin with the bracket of an array is none

pub no_array : (depth : ℕ) (t : Token) (ts r : List Token) (d : Data) → (t ≡ Token.begin_array → ⊥)
    → converted of_json (value depth (t ∷ ts)) ≡ Some (d, r) → as_array d ≡ None
no_array depth t ts r d other e = search (rules, mapped, converted-object, impossible, value_is)

pub no_object_at : (depth : ℕ) (t : Token) (ts r : List Token) (d : Data)
    → (t ≡ Token.begin_object → ⊥) → converted of_json (value depth (t ∷ ts)) ≡ Some (d, r)
    → as_object d ≡ None
no_object_at depth t ts r d other e = search (rules, mapped, converted-array, impossible, value_is)

-- after no token there is no value
pub no_token : (depth : ℕ) (r : List Token) (d : Data) {P : Type 0}
    → converted of_json (value depth []) ≡ Some (d, r) → P
no_token depth r d e = search (rules, impossible, value_is)

-- what was passed over
pub passed : {A : Type 0} (o : Option (A × List Token)) (left r : List Token) (a : A)
    → option_map (λ p. p.1) o ≡ Some left → o ≡ Some (a, r) → left ≡ r
passed o left r a e is = search (rules)

pub not_passed : {A : Type 0} {P : Type 0} (o : Option (A × List Token)) (r : List Token) (a : A)
    → option_map (λ p. p.1) o ≡ None → o ≡ Some (a, r) → P
not_passed o r a e is = impossible r (sym e ∙ ap (option_map (λ p. p.1)) is)

-- ---- a value that does not begin with the brace of an object has no members

pub no_object : (depth : ℕ) (ts r : List Token) (d : Data) (k : List ℕ) → begins_object ts ≡ false
    → converted of_json (value depth ts) ≡ Some (d, r) → get k d ≡ None
no_object depth ts r d k other e = search (rules, impossible, mapped, converted-array, value_is)

-- ---- the whole text

-- the tokens of a text that is read are those of a value, and no more
pub whole_text : (text : List ℕ) (d : Data) → read text ≡ Some d
    → converted of_json (value 127 (tokens text)) ≡ Some (d, [])
whole_text text d e = search (rules, impossible)

module _ (p : Parse json.Json) where
  -- there is one item less
  pub item_over : (n : ℕ) (ts over rest : List Token) (ds : Items) → after_end_array ts ≡ None
      → left (converted of_json (p ts)) ≡ Some over
      → converted of_items (items p n ts) ≡ Some (ds, rest)
      → (later : Items) × (length (list_of ds) ≡ length (list_of later) + 1)
      × (converted of_items (items p (n - 1) over) ≡ Some (later, rest))
  item_over n ts over rest ds going gone e = let next = next_item p n ts rest ds going e in
      search (rules, passed)

  module _ (n : ℕ) (k : List ℕ) (ts s rest : List Token) (old ms : Members)
      (named : read_key ts ≡ Some (Some k, s))
      (e : converted (λ ms. of_members ms old) (members p n ts) ≡ Some (ms, rest)) where
    -- its name has some value
    pub member_over : (over : List Token) → left (converted of_json (p s)) ≡ Some over
        → (d : Data)
        × (converted (λ ms. of_members ms (put k d old)) (members p (n - 1) over) ≡ Some (ms, rest))
    member_over over gone = search (rules, next_member, passed)

    pub member_not_over : {P : Type 0} → left (converted of_json (p s)) ≡ None → P
    member_not_over gone = search (rules, next_member, not_passed)
