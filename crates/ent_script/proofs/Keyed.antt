-- The keys of an operation as they are put in, and what it is by them.
use Rattle.ent_script.proofs.Common.{rules, ◌≡◌, ℕ, List, Bool, true, false, ◌&&◌, Option, Some}
use Rattle.ent_script.proofs.Common.{None, option_map, is_some, bytes_eq, refl, Err}
use Rattle.ent_script.proofs.Common.{bytes_eq-Decides, list_any, Data, object, Members, no_members}
use Rattle.ent_script.proofs.Common.{member, put, as_object, data_of, Part, cut, IsUnder, AreAmong}
use Rattle.ent_script.proofs.Common.{AreFields, of_fields, keys_among, pairs_of, has_keys, is_spawn}
use Rattle.ent_script.proofs.Common.{is_spawn_many, is_insert, is_remove, is_despawn, of_kind}
use Rattle.ent_script.proofs.Common.{operation_of, Fields, Kind, Bor, option_copied, ◌||◌, codes, []}
use Rattle.ent_script.proofs.Common.{◌∷◌}
use Rattle.ent_script.specs.Fields.{AreKinds}
use Rattle.ent_script.specs.declared.cause.Cause.TheVariants as cause
use Rattle.ent_script.specs.declared.fields.Kinds.{Kinds}
use Rattle.ent_script.specs.declared.kind.Kind.TheVariants as kinds
use Rattle.ent_script.proofs.CutMeanings.{bundle-cut, with-cut, count-cut, binding-cut, removed-cut}
use Rattle.ent_script.proofs.CutMeanings.{target-cut}
use Rattle.ent_script.proofs.Puts.{found_here, found_before, tied}

-- ---- whether each key is one of some

abbrev one_of : List (List ℕ) → List ℕ → Bool
one_of allowed k = list_any (λ name. bytes_eq k name) allowed

pub among-put : (allowed : List (List ℕ)) (k : List ℕ) (d : Data) (ms : Members)
    → keys_among allowed (pairs_of (put k d ms))
    ≡ (one_of allowed k && keys_among allowed (pairs_of ms))
among-put allowed k d no_members = refl
among-put allowed k d (member l e ms) = search (rules, tied k l, among-put allowed k d ms)

-- all keys are among some, if those before are, and the key is
pub with_key : (allowed : List (List ℕ)) (k : List ℕ) (d : Data) (ms : Members) (are one : Bool)
    → AreAmong allowed are ms → AreAmong allowed one (put k d no_members)
    → AreAmong allowed (are && one) (put k d ms)
with_key allowed k d ms are one a o = search (rules, among-put)

-- a key that is one of one, two or three
pub one_key : (a : Bool) → a ≡ ((a || false) && true)
one_key a = search rules

pub two_keys : (a b : Bool) → (a || b) ≡ ((a || (b || false)) && true)
two_keys a b = search rules

pub three_keys : (a b c : Bool) → ((a || b) || c) ≡ ((a || (b || (c || false))) && true)
three_keys a b c = search rules

-- ---- which kinds have a key

-- the kinds of a key are those of the name that it is
pub kinds_here : (name k : List ℕ) (d : Data) (kinds : Kinds) → bytes_eq k name ≡ true
    → AreKinds kinds (put name d no_members) → AreKinds kinds (put k d no_members)
kinds_here name k d kinds e are = rw ((bytes_eq-Decides k name).0 e) are

-- a key that no operation has
pub no_kinds : (k : List ℕ) (d : Data) (ms : Members) → bytes_eq k (codes "spawn") ≡ false
    → bytes_eq k (codes "as") ≡ false → bytes_eq k (codes "insert") ≡ false
    → bytes_eq k (codes "on") ≡ false → bytes_eq k (codes "remove") ≡ false
    → bytes_eq k (codes "despawn") ≡ false → bytes_eq k (codes "spawn_many") ≡ false
    → bytes_eq k (codes "with") ≡ false → AreKinds (record {
      spawn = false;
      spawn_many = false;
      insert = false;
      remove = false;
      despawn = false;
    }) (put k d ms)
no_kinds k d ms e1 e2 e3 e4 e5 e6 e7 e8 = record {
  spawn = search (rules, among-put (codes "spawn" ∷ codes "as" ∷ []) k d ms);
  spawn_many =
      search (rules, among-put (codes "spawn_many" ∷ codes "with" ∷ codes "as" ∷ []) k d ms);
  insert = search (rules, among-put (codes "insert" ∷ codes "on" ∷ []) k d ms);
  remove = search (rules, among-put (codes "remove" ∷ codes "on" ∷ []) k d ms);
  despawn = search (rules, among-put (codes "despawn" ∷ []) k d ms);
}

-- ---- what is under a key

pub under_here : (name k : List ℕ) (d : Data) (ms : Members) (v : Part) → data_of v ≡ cut 1 d
    → bytes_eq k name ≡ true → IsUnder name (Some v) (put k d ms)
under_here name k d ms v seen e = search (rules, found_here)

pub under_before : (name k : List ℕ) (d : Data) (ms : Members) (f : Option Part) → IsUnder name f ms
    → bytes_eq k name ≡ false → IsUnder name f (put k d ms)
under_before name k d ms f under e = search (rules, found_before)

-- a key is one name, and so no other
pub apart : (name other k : List ℕ) → bytes_eq k name ≡ true → bytes_eq name other ≡ false
    → bytes_eq k other ≡ false
apart name other k e differ = search (rules, bytes_eq-Decides)

-- what was under another name is there still
pub under_other : (here k : List ℕ) (d : Data) (ms : Members) → bytes_eq k here ≡ true
    → (name : List ℕ) (f : Option Part) → bytes_eq here name ≡ false → IsUnder name f ms
    → IsUnder name f (put k d ms)
under_other here k d ms e name f other is =
    under_before name k d ms f is (apart here name k e other)

-- ---- what an operation is

module _ (f : Fields) (ms : Members) (at : AreFields f ms) where
  pub spawn_is : is_spawn (object ms) ≡ (is_some f.spawn && f.kinds.spawn)
  unfolding is_spawn has_keys
  spawn_is = search (rules, at.kinds)

  pub spawn_many_is : is_spawn_many (object ms) ≡ (is_some f.spawn_many && f.kinds.spawn_many)
  unfolding is_spawn_many has_keys
  spawn_many_is = search (rules, at.kinds)

  pub insert_is : is_insert (object ms) ≡ (is_some f.insert && (is_some f.on && f.kinds.insert))
  unfolding is_insert has_keys
  insert_is = search (rules, at.kinds)

  pub remove_is : is_remove (object ms) ≡ (is_some f.remove && (is_some f.on && f.kinds.remove))
  unfolding is_remove has_keys
  remove_is = search (rules, at.kinds)

  pub despawn_is : is_despawn (object ms) ≡ (is_some f.despawn && f.kinds.despawn)
  unfolding is_despawn has_keys
  despawn_is = search (rules, at.kinds)

-- ---- what its fields mean

pub lent : (r : Option (Bor Part)) → option_map (λ (v : Bor Part). data_of v.now) r
    ≡ option_map data_of (option_copied r)
lent None = refl
lent (Some v) = refl

module _ (components bound : List (List ℕ)) (before : Option ℕ) (f : Fields) (ms : Members)
    (at : AreFields f ms) where
  pub of_fields-means : (kind : Kind) → of_fields components bound before f kind
      ≡ of_kind components bound before (object ms) kind
  unfolding of_kind of_fields
  of_fields-means kinds.Spawn = search (rules, bundle-cut, binding-cut, at)
  of_fields-means kinds.SpawnMany = search (rules, count-cut, with-cut, binding-cut, at)
  of_fields-means kinds.Insert = search (rules, bundle-cut, target-cut, at)
  of_fields-means kinds.Remove = search (rules, removed-cut, target-cut, at)
  of_fields-means kinds.Despawn = search (rules, target-cut, at)

-- what is no object is no operation
pub no_operation : (components bound : List (List ℕ)) (before : Option ℕ) (d : Data)
    → as_object d ≡ None → operation_of components bound before d ≡ Err cause.Shape
unfolding operation_of is_spawn is_spawn_many is_insert is_remove is_despawn has_keys
no_operation components bound before d e = search rules
