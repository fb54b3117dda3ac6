-- The entries of a sparse map and the positions of slots: what they stand for, after each change.
use Rattle.ent_storage.proofs.Common.{rules, ◌≡◌, ◌≢◌, ℕ, zero, suc, ◌+◌, ◌<◌, ◌≤◌, ◌^◌, true}
use Rattle.ent_storage.proofs.Common.{false, cond, ◌⊎◌, List, [], ◌∷◌, ◌++◌, length, map, set}
use Rattle.ent_storage.proofs.Common.{get_or, Option, Some, None, slice_get, refl, sym, ap, subst}
use Rattle.ent_storage.proofs.Common.{◌∙◌, arith, is_some, cases_lt, false≢true, nat_tests}
use Rattle.ent_storage.proofs.Common.{length-set, same_Some, some_pair_parts, none-some}
use Rattle.ent_storage.proofs.Common.{slice_get_within, slice_get-get_or, get_or_from_slice_get}
use Rattle.ent_storage.proofs.Common.{eq_by_cmp, Handle, handle_cmp, handle_eq, total, same}
use Rattle.ent_storage.proofs.Common.{HandleValues, HasLater, without_slot, error_of, AllZip, Later}
use Rattle.ent_storage.proofs.Common.{Memory, HandedBack, InsertError, values_of, IsPositioned}
use Rattle.ent_storage.proofs.Common.{AreEntries, IsEntryClone, AreCloned, Result, Ok, Err, OnErr}
use Rattle.ent_storage.proofs.Common.{IfOk, IfErr, fin_get, fin_insert, fin_len, fin_remove}
use Rattle.ent_storage.proofs.Common.{IsFreeSlot as IsFree}
use Rattle.ent_storage.proofs.ElementsAt.{at_set, at_set_same, at_set_other, at_push_before}
use Rattle.ent_storage.proofs.ElementsAt.{at_push_end, same_option, at_pushed, IsFilled, IsOnce}
use Rattle.ent_storage.proofs.ElementsAt.{entry_at, has_entry, len_once, values_set, values_taken}
use Rattle.ent_storage.proofs.Entries.{is_put}
use Rattle.ent_storage.proofs.Keys.{some_value, same_or_apart, tied, apart, few_apart}

module _ {X : Type 0} where
  -- ---- what the entries stand for

  module _ (D : List (Handle × X)) (h : Handle) where
    at : (v : X) → fin_get (values_of D) h ≡ Some v → (k : ℕ) × (slice_get D k ≡ Some (h, v))
    at v e = entry_at total same D h v e

  module _ (D : List (Handle × X)) (S : List ℕ) (is : IsPositioned D S) where
    pub one_slot : (j k : ℕ) (p q : Handle) (v w : X) → slice_get D j ≡ Some (p, v)
        → slice_get D k ≡ Some (q, w) → p.index ≡ q.index → j ≡ k
    one_slot j k p q v w a b e = search (rules, same_Some)

    once : IsOnce D
    once j k h v w a b = one_slot j k h h v w a b refl

    pub has : (k : ℕ) (h : Handle) (v : X) → slice_get D k ≡ Some (h, v)
        → fin_get (values_of D) h ≡ Some v
    has k h v e = has_entry total same D once k h v e

    -- what the map has at a handle of a slot that has an entry
    pub got : (k : ℕ) (h : Handle) (v : X) → slice_get D k ≡ Some (h, v) → (q : Handle)
        → q.index ≡ h.index → fin_get (values_of D) q
        ≡ cond (eq_by_cmp handle_cmp q h) (Some v) None
    got k h v e q slot = search (
      rules,
      same_or_apart,
      has,
      tied,
      apart,
      one_slot,
      some_pair_parts,
      same_option,
      at,
      none-some,
    )

    -- and at a handle of a slot without one
    pub none_free : (q : Handle) → IsFree D q.index → fin_get (values_of D) q ≡ None
    none_free q free = search (rules, same_option, at, none-some)

    -- a handle without an entry where the position of its slot says has no value
    pub missing : (h : Handle)
        → ((k : ℕ) (v : X) → slice_get S h.index ≡ Some k → slice_get D k ≢ Some (h, v))
        → fin_get (values_of D) h ≡ None
    missing h none = search (rules, same_option, at, none-some)

  -- how many there are
  pub counted : (D : List (Handle × X)) (S : List ℕ) → IsPositioned D S
      → fin_len (values_of D) ≡ length D
  counted D S is = len_once total same D (once D S is)

  -- no more entries than slots
  pub fits : (D : List (Handle × X)) (S : List ℕ) → IsPositioned D S → Handle × X
      → length D ≤ length S
  fits D S is unused =
      search (
        rules,
        arith,
        few_apart (λ (e : Handle × X). e.0.index) D (length S),
        one_slot,
        slice_get-get_or,
        slice_get_within,
      )

  -- two lists with the same entries of a handle
  module _ (D E : List (Handle × X)) (S U : List ℕ) (is : IsPositioned D S) (to : IsPositioned E U)
      (q : Handle)
      (there : (k : ℕ) (v : X) → slice_get D k ≡ Some (q, v)
      → (j : ℕ) × (slice_get E j ≡ Some (q, v)))
      (back : (k : ℕ) (v : X) → slice_get E k ≡ Some (q, v)
      → (j : ℕ) × (slice_get D j ≡ Some (q, v))) where
    pub same_at : fin_get (values_of D) q ≡ fin_get (values_of E) q
    same_at = search (rules, same_option, at, has)

  -- an entry is written over, with a handle of the same slot
  module _ (D : List (Handle × X)) (S : List ℕ) (is : IsPositioned D S) (i : ℕ) (p : Handle) (u : X)
      (here : slice_get D i ≡ Some (p, u)) (h : Handle) (v : X) (slot : p.index ≡ h.index) where
    inside : i < length D
    inside = slice_get_within D i (p, u) here

    pub over_positioned : IsPositioned (set D i (h, v)) S
    over_positioned = search (rules, at_set, inside)

    pub over_values : values_of (set D i (h, v))
        ≡ fin_insert (without_slot (values_of D) h.index) h v
    over_values = is_put _ _ h (λ q ne. search (rules, same_at, over_positioned, at_set, inside)) v
        (got (set D i (h, v)) S over_positioned i h v (at_set_same D i (h, v) inside))

    -- the same handle
    pub written_values : p ≡ h → values_of (set D i (h, v)) ≡ fin_insert (values_of D) h v
    written_values eq = subst (λ q. values_of (set D i (q, v)) ≡ fin_insert (values_of D) q v) eq
        (values_set total same D (once D S is) i p u here v)

  -- a slot without an entry gets one
  module _ (D : List (Handle × X)) (S : List ℕ) (is : IsPositioned D S) (h : Handle) (v : X)
      (free : IsFree D h.index)
      (room : h.index < length S) where
    pub pushed_positioned : IsPositioned (D ++ (h, v) ∷ []) (set S h.index (length D))
    pushed_positioned =
        search (
          rules,
          length-set,
          cases_lt,
          at_push_before,
          at_set_other,
          at_push_end,
          at_set_same,
          some_pair_parts,
        )

    not_pushed : (q : Handle) → q.index ≢ h.index → (k : ℕ) (w : X)
        → (k < length D) ⊎ (length D ≤ k) → slice_get (D ++ (h, v) ∷ []) k ≡ Some (q, w)
        → (j : ℕ) × (slice_get D j ≡ Some (q, w))
    not_pushed q ne k w c e = search (rules, at_push_before, at_push_end, some_pair_parts)

    pub pushed_values : values_of (D ++ (h, v) ∷ [])
        ≡ fin_insert (without_slot (values_of D) h.index) h v
    pushed_values =
        is_put _ _ h
        (λ q ne.
        search (
          rules,
          same_at,
          pushed_positioned,
          not_pushed q ne,
          cases_lt,
          at_push_before,
          slice_get_within,
        )) v (got _ _ pushed_positioned (length D) h v (at_pushed D (h, v)))

  -- an entry is taken out, and the last one moves to its position
  module _ (D : List (Handle × X)) (S : List ℕ) (is : IsPositioned D S) (i : ℕ) (h : Handle) (u : X)
      (here : slice_get D i ≡ Some (h, u)) (L : List (Handle × X)) (rest : IsFilled D i L) where
    pub taken_values : (U : List ℕ) → IsPositioned L U → values_of L ≡ fin_remove (values_of D) h
    taken_values U to = values_taken total same D (once D S is) i h u here L (once L U to) rest

    -- the last entry itself was taken out
    pub popped_positioned : length L ≤ i → IsPositioned L S
    popped_positioned g = search (rules, slice_get_within)

    -- another one: the slot of the last has its new position
    module _ (m : Handle) (x : X) (read : slice_get L i ≡ Some (m, x)) where
      pub in_positions : m.index < length S
      in_positions = search (rules, slice_get_within)

      pub refilled_positioned : IsPositioned L (set S m.index i)
      refilled_positioned =
          search (rules, length-set, at_set, in_positions, slice_get_within, one_slot)

  -- more slots have room
  pub more_slots : (D : List (Handle × X)) (S U : List ℕ) → IsPositioned D S → length U < 2 ^ 32
      → ((k p : ℕ) → slice_get S k ≡ Some p → slice_get U k ≡ Some p) → IsPositioned D U
  more_slots D S U is few kept = search (rules)

-- ---- two handles as they are compared

pub is_handle : (a b : Handle) → handle_eq a b ≡ true → a ≡ b
is_handle a b e = search (rules, nat_tests)

pub not_handle : (a b : Handle) → handle_eq a b ≡ false → a ≢ b
not_handle a b e eq = search (rules, false≢true)

-- the entry of a handle, at a position
pub record IsStanding {X : Type 0} (D : List (Handle × X)) (h : Handle) (p : ℕ) : Type 0 where
  pub v : X
  pub has : fin_get (values_of D) h ≡ Some v
  pub entry : slice_get D p ≡ Some (h, v)

module _ {X : Type 0} (D : List (Handle × X)) (S : List ℕ) (is : IsPositioned D S) where
  -- ---- a handle that has a value

  module _ (values : HandleValues X) (view : values_of D ≡ values) (h : Handle)
      (some : is_some (fin_get values h) ≡ true) where
    pub in_slots : h.index < length S
    in_slots = search (rules, at, slice_get_within, some_value)

    -- its entry is where the position of its slot says
    pub standing : (slot p : ℕ) → slot ≡ h.index → p ≡ get_or S slot p → IsStanding D h p
    standing slot p same read = search (rules, at, get_or_from_slice_get, has, some_value)

  -- all entries are those of the map
  pub are_entries : (E : List (Handle × X)) → E ≡ D → (values : HandleValues X)
      → values_of D ≡ values → AreEntries values E
  are_entries E e values view = search (rules, counted)

  pub few_entries : Handle × X → length D < 2 ^ 32
  few_entries unused = omega (arith, is.few, fits D S is unused)

  pub full_for : (room index : ℕ) → (length S ≤ index) ⊎ (room ≤ length D)
      → (length S ≤ index) ⊎ (room ≤ fin_len (values_of D))
  full_for room index full = search (rules, counted)

  -- ---- an entry that is read at a position

  module _ (k : ℕ) (x : Handle × X) (here : slice_get D k ≡ Some (x.0, x.1)) (h : Handle) where
    pub had : x.0 ≡ h → fin_get (values_of D) h ≡ Some x.1
    had e = has D S is k h x.1 (here ∙ (λ i. Some (e i, x.1)))

    pub had_other : x.0.index ≡ h.index → x.0 ≢ h → fin_get (values_of D) h ≡ None
    had_other slot ne = got D S is k x.0 x.1 here h (sym slot)
        ∙ ap (λ b. cond b (Some x.1) None) (apart total same h x.0 (λ e. ne (sym e)))

    pub has_later : x.0.index ≡ h.index → h.generation < x.0.generation → HasLater (values_of D) h
    has_later slot l =
        let q : Handle = record { index = h.index; generation = x.0.generation } in
        let is_q : x.0 ≡ q = search rules in
        (x.0.generation, l, ap is_some (has D S is k q x.1 (here ∙ (λ i. Some (is_q i, x.1)))))

    pub has_no_later : x.0.index ≡ h.index → x.0.generation ≤ h.generation
        → HasLater (values_of D) h → ⊥
    has_no_later slot least (g, l, some) =
        search (rules, one_slot, at, same_Some, false≢true, same_option, none-some)

  pub free_no_later : (h : Handle) → IsFree D h.index → HasLater (values_of D) h → ⊥
  free_no_later h free (g, l, some) = search (rules, false≢true, none_free)

pub some_slot : {X : Type 0} (D : List (Handle × X)) (S : List ℕ) → IsPositioned D S → 0 < length D
    → 0 < length S
some_slot [] S is l = absurd (omega (arith, l))
some_slot (x ∷ D) S is l = omega (arith, slice_get_within S x.0.index 0 (is.entry 0 x.0 x.1 refl))

-- clones
module _ {X : Type 0} (is_clone : X → X → Type 0) where
  zip_there : (D E : List (Handle × X)) → AllZip (IsEntryClone is_clone) D E
      → (k : ℕ) (h : Handle) (v : X) → slice_get D k ≡ Some (h, v)
      → (w : X) × (slice_get E k ≡ Some (h, w)) × is_clone v w
  zip_there (x ∷ D) (y ∷ E) all zero h v e = search (rules, same_Some)
  zip_there (x ∷ D) (y ∷ E) all (suc k) h v e = zip_there D E all.1 k h v e
  zip_there D E all k h v e = search rules

  zip_back : (D E : List (Handle × X)) → AllZip (IsEntryClone is_clone) D E
      → (k : ℕ) (h : Handle) (w : X) → slice_get E k ≡ Some (h, w)
      → (v : X) × (slice_get D k ≡ Some (h, v)) × is_clone v w
  zip_back (x ∷ D) (y ∷ E) all zero h w e = search (rules, same_Some)
  zip_back (x ∷ D) (y ∷ E) all (suc k) h w e = zip_back D E all.1 k h w e
  zip_back D E all k h w e = search (rules, none-some)

  module _ (D E : List (Handle × X)) (S U : List ℕ) (all : AllZip (IsEntryClone is_clone) D E)
      (is : IsPositioned D S)
      (more : U ≡ S) where
    pub cloned_positioned : IsPositioned E U
    cloned_positioned = search (rules, zip_back)

    pub cloned : (values : HandleValues X) → values_of D ≡ values
        → AreCloned is_clone values (values_of E)
    cloned values view h =
        search (rules, at, zip_back, none-some, has, zip_there, cloned_positioned, same_Some)

-- ---- results

pub on_err_never : {A E : Type 0} (r : Result A E) (Q P : Type 0) → (Q → ⊥) → OnErr r (Q → P)
on_err_never (Ok a) Q P never = tt
on_err_never (Err e) Q P never = λ q. absurd (never q)

module _ {X : Type 0} where
  pub before_none : (r : Result (Option X) (HandedBack X InsertError)) (o : Option X) → o ≡ None
      → IfOk r (λ b. b ≡ None) → IfOk r (λ b. b ≡ o)
  before_none r o none is = search rules

  pub not_later : (r : Result (Option X) (HandedBack X InsertError))
      → IfErr r (λ refused. refused.error ≡ Memory) → error_of r ≡ Some Later → ⊥
  not_later r m e = search (rules, none-some, same_Some)
