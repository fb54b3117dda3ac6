-- The entities of a storage and their index, after each change.
use Rattle.ent_storage.proofs.Common.{rules, ◌≡◌, ◌≢◌, ℕ, zero, suc, ◌+◌, ◌-◌, ◌<◌, ◌≤◌, ◌⊎◌, inl}
use Rattle.ent_storage.proofs.Common.{inr}
use Rattle.ent_storage.proofs.Common.{Bool, true, false, List, [], ◌∷◌, ◌++◌, length, Some, None}
use Rattle.ent_storage.proofs.Common.{is_some, slice_get, refl, sym, ap, subst, ◌∙◌, arith}
use Rattle.ent_storage.proofs.Common.{false≢true}
use Rattle.ent_storage.proofs.Common.{none-some, same_Some, slice_get_within, cases_lt}
use Rattle.ent_storage.proofs.Common.{length_push, get_or, slice_get-get_or, FinMap, Handle}
use Rattle.ent_storage.proofs.Common.{handle_cmp, total, same, EntityMap}
use Rattle.ent_storage.proofs.Common.{Entity, Components, Store, with_components, AreWithout}
use Rattle.ent_storage.proofs.Common.{IsKeptIndex, counted, HasAll, Keeps, fin_empty}
use Rattle.ent_storage.proofs.Common.{fin_get, fin_get-empty, fin_insert, fin_remove, fin_same_map}
use Rattle.ent_storage.proofs.Keys.{some_value, none_from, insert_tells, remove_tells}
use Rattle.ent_storage.proofs.Keys.{get-insert_same, get-insert_other}
use Rattle.ent_storage.proofs.Counted.{counted_gives, counted_has, stands, stands_from}
use Rattle.ent_storage.proofs.Indexed.{same_place, same_number}

same_tests : (a b : Bool) → (a ≡ true → b ≡ true) → (b ≡ true → a ≡ true) → a ≡ b
same_tests true b f g = sym (f refl)
same_tests false true f g = absurd (false≢true (g refl))
same_tests false false f g = refl

-- ---- handles at places

some_at : (places : List Handle) (i : ℕ) → i < length places
    → (h : Handle) × (slice_get places i ≡ Some h)
some_at places i l =
    let none : Handle = record { index = 0; generation = 0 } in
    (get_or places i none, slice_get-get_or places i none l)

pushed_still : (places : List Handle) (h q : Handle) (i : ℕ) → slice_get places i ≡ Some q
    → slice_get (places ++ h ∷ []) i ≡ Some q
pushed_still [] h q i at = absurd (none-some _ at)
pushed_still (x ∷ places) h q zero at = at
pushed_still (x ∷ places) h q (suc i) at = pushed_still places h q i at

pushed_last : (places : List Handle) (h : Handle)
    → slice_get (places ++ h ∷ []) (length places) ≡ Some h
pushed_last [] h = refl
pushed_last (x ∷ places) h = pushed_last places h

pushed_at : (places : List Handle) (h q : Handle) (i : ℕ)
    → slice_get (places ++ h ∷ []) i ≡ Some q
    → (slice_get places i ≡ Some q) ⊎ ((i ≡ length places) × (h ≡ q))
pushed_at [] h q zero at = inr (refl, same_Some h q at)
pushed_at [] h q (suc i) at = absurd (none-some _ at)
pushed_at (x ∷ places) h q zero at = inl at
pushed_at (x ∷ places) h q (suc i) at = elim (pushed_at places h q i at) [
  | inl is ↦ inl is
  | inr last ↦ inr (ap suc last.0, last.1)
]

-- where a handle was before another one was taken out
module _ (old new : List Handle) (place : ℕ) (without : AreWithout place old new) where
  was_at : (k : ℕ) (q : Handle) → slice_get new k ≡ Some q
      → ((k ≢ place) × (slice_get old k ≡ Some q))
      ⊎ ((k ≡ place) × ((place + 1 < length old) × (slice_get old (length old - 1) ≡ Some q)))
  was_at k q at =
      let inside : k + 1 < length old =
      omega (arith, slice_get_within new k q at, without.one_less) in
      elim (same_number k place) [
        | inl is ↦ inr (
          is,
          (
            omega (arith, is),
            sym (without.moved (omega (arith, is)))
                ∙ subst (λ n. slice_get new n ≡ Some q) is at,
          ),
        )
        | inr n ↦ inl (n, sym (without.others k n inside) ∙ at)
      ]

  is_at : (k : ℕ) (q : Handle) → place < length old → k ≢ place → slice_get old k ≡ Some q
      → (i : ℕ) × (slice_get new i ≡ Some q)
  is_at k q taken n at =
      let inside = slice_get_within old k q at in
      elim (cases_lt (k + 1) (length old)) [
        | inl l ↦ (k, without.others k n l ∙ at)
        | inr last ↦
            let is : k ≡ length old - 1 = omega (arith, inside, last) in (
              place,
              without.moved (omega (arith, n, is, inside, without.one_less))
                  ∙ subst (λ m. slice_get old m ≡ Some q) is at,
            )
      ]

-- ---- the index

-- none yet
pub kept_none : (s : Store) (index : FinMap handle_cmp ℕ) (room : ℕ) → s.entities ≡ fin_empty
    → s.places ≡ [] → IsKeptIndex s index room
kept_none s index room none empty = record {
  each_entity = λ h is. absurd
      (false≢true (sym (ap is_some (ap (λ (m : EntityMap). fin_get m h) none
      ∙ fin_get-empty handle_cmp h)) ∙ is));
  each_place = λ i h at. absurd (none-some _ (rw empty at at));
  indexed = λ i h at. absurd (none-some _ (rw empty at at));
  fits = omega (arith, ap length empty);
}

module _ (s : Store) (index : FinMap handle_cmp ℕ) (room : ℕ) (kept : IsKeptIndex s index room) where
  -- the place that counts is that of the handle
  pub place_of : (h : Handle) (i : ℕ) → fin_get (counted s.places index) h ≡ Some i
      → slice_get s.places i ≡ Some h
  place_of h i is = stands s.places h i (counted_gives s.places index h i is).1

  pub counts_at : (h : Handle) (i : ℕ) → slice_get s.places i ≡ Some h
      → fin_get (counted s.places index) h ≡ Some i
  counts_at h i at =
      counted_has s.places index h i (kept.indexed i h at) (stands_from s.places h i at)

  -- a handle has one if it is in the map
  pub known : (h : Handle)
      → is_some (fin_get (counted s.places index) h) ≡ is_some (fin_get s.entities h)
  known h = same_tests _ _
      (λ is. let found = some_value _ is in kept.each_place found.0 h (place_of h found.0 found.1))
      (λ is. let found = kept.each_entity h is in ap is_some (counts_at h found.0 found.1))

  -- no two places have the same handle
  once : (h : Handle) (i j : ℕ) → slice_get s.places i ≡ Some h → slice_get s.places j ≡ Some h
      → i ≡ j
  once h i j a b = same_place i j (sym (kept.indexed i h a) ∙ kept.indexed j h b)

  -- without entities there is no place, and the other way round
  pub empty_places : s.entities ≡ fin_empty → s.places ≡ []
  empty_places none = elim s.places as (λ places. s.places ≡ places → places ≡ []) [
    | [] ↦ λ _. refl
    | h ∷ places ↦ λ is. absurd (false≢true
        (sym (ap (λ (m : EntityMap). is_some (fin_get m h)) none
        ∙ ap is_some (fin_get-empty handle_cmp h))
        ∙ kept.each_place 0 h (rw is refl)))
  ] refl

  none_placed : s.places ≡ [] → s.entities ≡ fin_empty
  none_placed empty = fin_same_map total same _ _ (λ q. none_from _ (λ e is.
      let at = kept.each_entity q (ap is_some is) in none-some q (rw empty at at.1))
      ∙ sym (fin_get-empty handle_cmp q))

  pub some_places : s.entities ≢ fin_empty → 0 < length s.places
  some_places some = elim s.places as (λ places. s.places ≡ places → 0 < length places) [
    | [] ↦ λ is. absurd (some (none_placed is))
    | h ∷ places ↦ λ _. omega arith
  ] refl

  -- ---- what stays as it is
  pub kept_same : (t : Store) (new : FinMap handle_cmp ℕ) (more : ℕ) → t.places ≡ s.places
      → ((h : Handle) → is_some (fin_get t.entities h) ≡ is_some (fin_get s.entities h))
      → HasAll (counted s.places index) new → length s.places ≤ more → IsKeptIndex t new more
  kept_same t new more places entities all fits = record {
    each_entity = λ h is. rw places (kept.each_entity h (sym (entities h) ∙ is));
    each_place = λ i h at. entities h ∙ kept.each_place i h (rw places at at);
    indexed = λ i h at. all h i (counts_at h i (rw places at at));
    fits = rw places fits;
  }

  -- an index that hasn't changed has all that counts
  pub all_counted : HasAll (counted s.places index) index
  all_counted h i is = (counted_gives s.places index h i is).0

  -- ---- an entity is added
  pub kept_push : (t : Store) (new : FinMap handle_cmp ℕ) (more : ℕ) (h : Handle) (e : Entity)
      → t.places ≡ s.places ++ h ∷ [] → t.entities ≡ fin_insert s.entities h e
      → fin_get (counted s.places index) h ≡ None → fin_get new h ≡ Some (length s.places)
      → Keeps h (counted s.places index) new → length s.places < more → IsKeptIndex t new more
  kept_push t new more h e places entities none placed keeps fits = record {
    each_entity = λ q is. rw places (there q (rw entities at is));
    each_place = λ i q at. rw entities (found i q (rw places at at));
    indexed = λ i q at. index_of i q (rw places at at);
    fits = omega (arith, ap length places, length_push s.places h, fits);
  }
    where
      there : (q : Handle) → is_some (fin_get (fin_insert s.entities h e) q) ≡ true
          → (i : ℕ) × (slice_get (s.places ++ h ∷ []) i ≡ Some q)
      there q is = elim (insert_tells total same s.entities h e q) [
        | inl new ↦ (length s.places, pushed_last s.places h ∙ ap Some (sym new.0))
        | inr old ↦
            let at = kept.each_entity q (sym (ap is_some old.1) ∙ is) in
            (at.0, pushed_still s.places h q at.0 at.1)
      ]

      found : (i : ℕ) (q : Handle) → slice_get (s.places ++ h ∷ []) i ≡ Some q
          → is_some (fin_get (fin_insert s.entities h e) q) ≡ true
      found i q at = elim (insert_tells total same s.entities h e q) [
        | inl new ↦ ap is_some new.1
        | inr old ↦ elim (pushed_at s.places h q i at) [
          | inl was ↦ ap is_some old.1 ∙ kept.each_place i q was
          | inr last ↦ absurd (old.0 (sym last.1))
        ]
      ]

      index_of : (i : ℕ) (q : Handle) → slice_get (s.places ++ h ∷ []) i ≡ Some q
          → fin_get new q ≡ Some i
      index_of i q at = elim (pushed_at s.places h q i at) [
        | inl was ↦
            let counts = counts_at q i was in
            keeps q i
            (λ is. none-some _ (sym none ∙ subst (λ g. fin_get (counted s.places index) g ≡ Some i) is
            counts)) counts
        | inr last ↦ ap (fin_get new) (sym last.1) ∙ placed ∙ ap Some (sym last.0)
      ]

  -- ---- an entity is taken out, and the last one moves into its place
  module _ (h : Handle) (place : ℕ) (at : slice_get s.places place ≡ Some h) (t : Store)
      (without : AreWithout place s.places t.places) (entities : t.entities ≡ fin_remove s.entities h)
    where
      -- the handle that moves is in the index
      pub moves : (m : Handle) → slice_get t.places place ≡ Some m
          → is_some (fin_get index m) ≡ true
      moves m is = elim (was_at s.places t.places place without place m is) [
        | inl other ↦ absurd (other.0 refl)
        | inr last ↦ ap is_some (kept.indexed _ m last.1.1)
      ]

      -- who is left is not the one that was taken out
      left : (k : ℕ) (q : Handle) → slice_get t.places k ≡ Some q → q ≢ h
      left k q is e = elim (was_at s.places t.places place without k q is) [
        | inl other ↦ other.0
            (once h k place (other.1 ∙ ap Some e) at)
        | inr last ↦
            let one = once h (length s.places - 1) place (last.1.1 ∙ ap Some e) at in
            absurd (omega (arith, one, last.1.0))
      ]

      -- the index, once the place of what has moved is written
      module _ (moved : FinMap handle_cmp ℕ)
          (there : (m : Handle) → slice_get t.places place ≡ Some m
          → moved ≡ fin_insert index m place)
          (last : length t.places ≤ place → moved ≡ index) where
        moved_has : (k : ℕ) (q : Handle) → slice_get t.places k ≡ Some q → fin_get moved q ≡ Some k
        moved_has k q is = elim (was_at s.places t.places place without k q is) [
          | inl other ↦ elim (cases_lt place (length t.places)) [
            | inl inside ↦ stays k q other.0 other.1 (omega (arith, slice_get_within _ k q is))
                inside
            | inr beyond ↦ rw (last beyond) (kept.indexed k q other.1)
          ]
          | inr here ↦
              let at_place = subst (λ n. slice_get t.places n ≡ Some q) here.0 is in
              rw (there q at_place)
              (get-insert_same total same index q place q refl ∙ ap Some (sym here.0))
        ]
          where
            stays : (k : ℕ) (q : Handle) → k ≢ place → slice_get s.places k ≡ Some q
                → k < length t.places → place < length t.places → fin_get moved q ≡ Some k
            stays k q n was within inside =
                let m = some_at t.places place inside in
                let end = sym (without.moved (omega (arith, inside, without.one_less))) ∙ m.1 in
                rw (there m.0 m.1) (get-insert_other total same index m.0 place q
                (λ e. absurd (omega (
                  arith,
                  once q k (length s.places - 1) was (end ∙ ap Some (sym e)),
                  within,
                  without.one_less,
                ))) ∙ kept.indexed k q was)

        pub kept_without : (new : FinMap handle_cmp ℕ) (more : ℕ) → Keeps h moved new
            → length t.places ≤ more → IsKeptIndex t new more
        kept_without new more keeps fits = record {
          each_entity = λ q is. elim (remove_tells total same s.entities h q) [
            | inl gone ↦ absurd (false≢true
                (sym (ap (λ (m : EntityMap). is_some (fin_get m q)) entities ∙ ap is_some gone.1) ∙ is))
            | inr old ↦
                let was = kept.each_entity q (sym (ap is_some old.1)
                ∙ sym (ap (λ (m : EntityMap). is_some (fin_get m q)) entities) ∙ is) in
                is_at s.places t.places place without was.0 q (slice_get_within _ place h at)
                (λ e. old.0 (same_Some q h
                (sym (subst (λ n. slice_get s.places n ≡ Some q) e was.1) ∙ at))) was.1
          ];
          each_place = λ k q is. ap (λ (m : EntityMap). is_some (fin_get m q)) entities
              ∙ elim (remove_tells total same s.entities h q) [
                | inl gone ↦ absurd (left k q is gone.0)
                | inr old ↦ ap is_some old.1
                    ∙ elim (was_at s.places t.places place without k q is) [
                      | inl other ↦ kept.each_place k q other.1
                      | inr here ↦ kept.each_place _ q here.1.1
                    ]
              ];
          indexed = λ k q is. keeps q k (left k q is) (moved_has k q is);
          fits = fits;
        }

-- the components of an entity are changed
pub same_with : (m : EntityMap) (h : Handle) (change : Components → Components) (q : Handle)
    → is_some (fin_get (with_components m h change) q) ≡ is_some (fin_get m q)
same_with m h change q = search (rules, insert_tells total same)
