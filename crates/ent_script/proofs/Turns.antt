-- The grammar's loops, a turn at a time: under the conversion to data, and of what is left alone.
use Rattle.ent_script.proofs.Common.{rules, ◌≡◌, ℕ, ◌-◌, ◌<◌, ◌≤◌, List, length, Option, Some, None}
use Rattle.ent_script.proofs.Common.{option_map, ap, Token, Parse, parse_map, after_end_array}
use Rattle.ent_script.proofs.Common.{read_key, items, members, items_end, items_more}
use Rattle.ent_script.proofs.Common.{members_no_key, members_more, Data, array, object, no_items}
use Rattle.ent_script.proofs.Common.{item, Members, no_members, put, of_json, of_items, of_members}
use Rattle.ent_script.proofs.Common.{converted, ◌∙◌, arith, Result, Err, Bool, cond, true, false}
use Rattle.ent_script.proofs.Common.{◌⊎◌, left_some, left_none, left-parse_map, IfOk, left, Passes}
use Rattle.ent_script.proofs.Common.{ReadFault, Json, Memory}
use Rattle.json.specs.Json as json

pub converted_some : {A B : Type 0} (f : A → Option B) (o : Option (A × List Token)) (b : B)
    (r : List Token) → converted f o ≡ Some (b, r) → (a : A) × (o ≡ Some (a, r)) × (f a ≡ Some b)
converted_some f it b r e = search rules

pub converted-array : (o : Option (json.Items × List Token))
    → converted of_json (parse_map json.array o) ≡ parse_map array (converted of_items o)
converted-array it = search rules

pub converted-object : (o : Option (json.Members × List Token))
    → converted of_json (parse_map json.object o)
    ≡ parse_map object (converted (λ ms. of_members ms no_members) o)
converted-object it = search rules

module _ (p : Parse json.Json) where
  pub item_read : (n : ℕ) (ts r : List Token) (d : Data) → 0 < n → after_end_array ts ≡ None
      → converted of_json (p ts) ≡ Some (d, r) → converted of_items (items p n ts)
      ≡ parse_map (item d) (converted of_items (items p (n - 1) r))
  item_read n ts r d some going e =
      let j = converted_some of_json (p ts) d r e in
      search (rules, items_more p n ts r j.0 some going j.1, j)

  pub item_refused : (n : ℕ) (ts : List Token) → after_end_array ts ≡ None
      → converted of_json (p ts) ≡ None → converted of_items (items p n ts) ≡ None
  unfolding items
  item_refused it ts going e = search rules

  pub items_over : (n : ℕ) (ts r : List Token) → length ts ≤ n → after_end_array ts ≡ Some r
      → converted of_items (items p n ts) ≡ Some (no_items, r)
  items_over n ts r enough e = ap (converted of_items) (items_end p n ts r enough e)

  module _ (old : Members) where
    pub member_read : (n : ℕ) (k : List ℕ) (ts s r : List Token) (d : Data) → 0 < n
        → read_key ts ≡ Some (Some k, s) → converted of_json (p s) ≡ Some (d, r)
        → converted (λ ms. of_members ms old) (members p n ts)
        ≡ converted (λ ms. of_members ms (put k d old)) (members p (n - 1) r)
    member_read n k ts s r d some key e =
        let j = converted_some of_json (p s) d r e in
        search (rules, members_more p n k ts s r j.0 some key j.1, j)

    pub member_refused : (n : ℕ) (k : List ℕ) (ts s : List Token) → read_key ts ≡ Some (Some k, s)
        → converted of_json (p s) ≡ None
        → converted (λ ms. of_members ms old) (members p n ts) ≡ None
    unfolding members
    member_refused it k ts s key e = search rules

    pub key_refused : (n : ℕ) (ts : List Token) → read_key ts ≡ None
        → converted (λ ms. of_members ms old) (members p n ts) ≡ None
    key_refused n ts e = search (rules, members_no_key)

pub item_passed : (p : Parse json.Json) (n : ℕ) (ts r : List Token) → 0 < n
    → after_end_array ts ≡ None → left (converted of_json (p ts)) ≡ Some r
    → left (converted of_items (items p n ts)) ≡ left (converted of_items (items p (n - 1) r))
item_passed p n ts r some going e =
    let d = left_some (converted of_json (p ts)) r e in
    search (rules, item_read p n ts r d.0 some going d.1, left-parse_map)

pub member_passed : (p : Parse json.Json) (n : ℕ) (k : List ℕ) (ts s r : List Token) (old : Members)
    → 0 < n → read_key ts ≡ Some (Some k, s) → left (converted of_json (p s)) ≡ Some r
    → (d : Data)
    × (left (converted (λ ms. of_members ms old) (members p n ts))
    ≡ left (converted (λ ms. of_members ms (put k d old)) (members p (n - 1) r)))
member_passed p n k ts s r old some key e = search (rules, left_some, member_read p old n k ts s)

pub item_stuck : (p : Parse json.Json) (n : ℕ) (ts : List Token) → after_end_array ts ≡ None
    → left (converted of_json (p ts)) ≡ None → left (converted of_items (items p n ts)) ≡ None
item_stuck p n ts going e = ap left (item_refused p n ts going (left_none _ e))

pub member_stuck : (p : Parse json.Json) (n : ℕ) (k : List ℕ) (ts s : List Token) (old : Members)
    → read_key ts ≡ Some (Some k, s) → left (converted of_json (p s)) ≡ None
    → left (converted (λ ms. of_members ms old) (members p n ts)) ≡ None
member_stuck p n k ts s old key e = ap left (member_refused p old n k ts s key (left_none _ e))

-- what is left after all items is what is left after these tokens' items
abbrev pub Goes : Parse json.Json → Option (List Token) → List Token → Type 0
Goes p all ts = (n : ℕ) × (length ts ≤ n) × (all ≡ left (converted of_items (items p n ts)))

module _ (p : Parse json.Json) (all : Option (List Token)) (ts r : List Token)
    (going : Goes p all ts) where
  pub goes_on : after_end_array ts ≡ None → left (converted of_json (p ts)) ≡ Some r
      → length r < length ts → Goes p all r
  goes_on more passed less = search (rules, arith, item_passed p going.0 ts r, going)

  pub goes_stuck : after_end_array ts ≡ None → left (converted of_json (p ts)) ≡ None → all ≡ None
  goes_stuck more refused = search (rules, item_stuck)

  pub goes_over : after_end_array ts ≡ Some r → all ≡ Some r
  goes_over over = going.2 ∙ ap left (items_over p going.0 ts r going.1 over)

-- ---- what the readers return

-- a fault of one of the two kinds
pub passes_refused : (A : Type 0) (e : ReadFault) (rest : List Token) (all : Option (List Token))
    → (e ≡ Json) ⊎ (e ≡ Memory) → (e ≡ Json → all ≡ None) → Passes {A = A} (Err e) rest all
passes_refused A it rest all kind none = search rules

pub passes_json : (A : Type 0) (e : ReadFault) (rest : List Token) (all : Option (List Token))
    → Passes {A = A} (Err e) rest all → e ≡ Json → all ≡ None
passes_json A it rest all h is = search rules

pub if_ok : {A : Type 0} {P Q : A → Type 0} (r : Result A ReadFault) → IfOk r P
    → ((x : A) → P x → Q x) → IfOk r Q
if_ok it h on = search rules

pub begun : {A : Type 0} (b : Bool) (all x y : A) → all ≡ cond b x y → b ≡ true → all ≡ x
begun it all x y e is = search rules

pub not_begun : {A : Type 0} (b : Bool) (all x y : A) → all ≡ cond b x y → b ≡ false → all ≡ y
not_begun it all x y e is = search rules
