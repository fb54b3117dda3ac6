-- An entity that is made or taken back; and the rows of entities stay their places after each
-- change of the two, and there are as many places as handles live.
use Rattle.ent_world.proofs.Common.{[], ap, ◌∙◌, ◌≢◌, handle_cmp, rules, ◌≡◌, refl, ℕ, ◌<◌, true}
use Rattle.ent_world.proofs.Common.{false, true≢false, List, ◌∷◌, ◌++◌, length, slice_get, arith}
use Rattle.ent_world.proofs.Common.{suc, ℤ, ◌⊎◌, Some, None, IfSome, Result, Ok, Err, OnOk, OnErr}
use Rattle.ent_world.proofs.Common.{is_err, common_steps, none-some, same_Some, Birth, Handle}
use Rattle.ent_world.proofs.Common.{handle_cmp_total, handle_cmp-IsAntisymmetric, Space, Allocator}
use Rattle.ent_world.proofs.Common.{listed_alone, reply_to, reply_from, pool_at, cursor, IsSound}
use Rattle.ent_world.proofs.Common.{same_handle, itself, reply-cursor, reply-not_live, with_items}
use Rattle.ent_world.proofs.Common.{missing, Entity, EntityMap, newborn, with_components}
use Rattle.ent_world.proofs.Common.{components_of, AreWithout, at_push_before, Bundle, spawned}
use Rattle.ent_world.proofs.Common.{false_from_ne_true, sym, ◌+◌, ◌-◌, ◌≤◌, ◌^◌, inl, inr, Option}
use Rattle.ent_world.proofs.Common.{append-nil, append_assoc, slice_get_within, slice_get-get_or}
use Rattle.ent_world.proofs.Common.{total, same, stands_in, born, after_flush, retired-rest}
use Rattle.ent_world.proofs.Common.{after_flush-sound, at_push_end, at_pushed, same_number}
use Rattle.ent_world.proofs.Common.{same_or_apart, get-insert_same, get-insert_other}
use Rattle.ent_world.proofs.Common.{get-remove_same, get-remove_other, AreLiving, with_born, AreNew}
use Rattle.ent_world.proofs.Common.{first_birth, Rows, ArePlaces, AreRows, with_rows, with_moved}
use Rattle.ent_world.proofs.Common.{zero, drop, unwrap_or, length-append, same_lists}
use Rattle.ent_world.proofs.Common.{any_passes_from_place, Contains-from_stands_in, eq_by_cmp}
use Rattle.std.specs.FinSet as set
use Rattle.std.specs.FinMap as map
use Rattle.ent_world.proofs.Born.{born-new, living-after, AreDistinct}

-- what a test of a result tells
pub on_ok : {X E : Type 0} {P : Type 0} (r : Result X E) → is_err r ≡ false → OnOk r P → P
on_ok it test p = search (rules, true≢false)

pub on_err : {X E : Type 0} {P : Type 0} (r : Result X E) → is_err r ≡ true → OnErr r P → P
on_err it test p = search (rules, true≢false)

-- one of the two holds
pub on_either : {X E P Q : Type 0} (r : Result X E) → OnOk r P → OnErr r Q → P ⊎ Q
on_either it p q = search rules

-- what is so anyhow is so after a refusal
pub anyhow : {T E : Type 0} (r : Result T E) (P : Type 0) → P → OnErr r P
anyhow it P so = search rules

pub some_entity : (m : EntityMap) (len : ℕ) → len ≡ map.len m → len ≢ 0 → m ≢ map.empty
some_entity m len is some none = some (is ∙ ap map.len none ∙ map.len-empty handle_cmp Entity)

-- Of one handle.

-- a request for one is given the front of the pool
pub one_given : (s : Allocator) (h : Handle) → reply_to s 1 ≡ Ok (h ∷ [])
    → slice_get s.pool 0 ≡ Some h
one_given s h is = grind (arith, common_steps)

pub given_new : (s : Allocator) (h : Handle) → IsSound s → reply_to s 1 ≡ Ok (h ∷ [])
    → set.contains s.live h ≡ false
given_new s h sound is = search (rules, reply-not_live s 1 (h ∷ []) is sound)

pub none_given : (s : Allocator) (space : Space) → reply_to s 1 ≡ Err space → s.pool ≡ []
none_given s space is = grind (arith, common_steps)

pub pool_some : (s : Allocator) (h : Handle) → reply_to s 1 ≡ Ok (h ∷ []) → s.pool ≡ [] → ⊥
pool_some s h is none = grind (arith, common_steps)

-- the reply where nothing is requested
pub reply_at_top : (s : Allocator) (high : ℤ) (reply : Result Handle Space) → IsSound s
    → high ≡ cursor s → listed_alone reply ≡ reply_from s.made (pool_at s high) 1
    → listed_alone reply ≡ reply_to s 1
reply_at_top s high reply sound at is = search (rules, reply-cursor s 1 sound)

-- An entity.

-- the second of two entities under one handle
insert_twice : (m : EntityMap) (h : Handle) (e f : Entity)
    → map.insert (map.insert m h e) h f ≡ map.insert m h f
insert_twice m h e f = map.same_map handle_cmp_total handle_cmp-IsAntisymmetric _ _ (λ q.
    let get = map.get-insert {X = Entity} handle_cmp_total in
    grind (arith, common_steps, get (map.insert m h e) h f q, get m h e q, get m h f q))

pub get_inserted : (m : EntityMap) (h : Handle) (e : Entity) → map.get (map.insert m h e) h ≡ Some e
get_inserted m h e = grind (arith, common_steps, map.get-insert handle_cmp_total m h e h, itself h)

-- a newborn entity lacks no component if there are no items
pub some_items : (m n : EntityMap) (h : Handle) (birth : Birth) (items : Bundle)
    → n ≡ map.insert m h (newborn birth)
    → IfSome (components_of n h) (λ held. 0 < missing held items) → 0 < length items
some_items m n h birth items made some = grind (arith, common_steps, get_inserted)

-- a newborn entity and its components
pub made_whole : (m : EntityMap) (h : Handle) (birth : Birth) (items : Bundle)
    → with_components (map.insert m h (newborn birth)) h (λ held. with_items held items)
    ≡ map.insert m h (spawned birth items)
made_whole m h birth items = search (rules, get_inserted, insert_twice)

-- an entity that came and went
pub taken_back : (m : EntityMap) (h : Handle) (e : Entity) → map.get m h ≡ None
    → map.remove (map.insert m h e) h ≡ m
taken_back m h e none = map.same_map handle_cmp_total handle_cmp-IsAntisymmetric _ _ (λ q.
    let get = map.get-remove handle_cmp_total (map.insert m h e) h q in
    grind (arith, common_steps, map.get-insert handle_cmp_total m h e q, same_handle q h))

-- a handle that came to the end of the places and went
pub end_taken_back : (places left : List Handle) (h : Handle)
    → AreWithout (length places) (places ++ h ∷ []) left → left ≡ places
end_taken_back places left h without =
    same_lists left places (omega (arith, without.one_less, length-append places (h ∷ [])))
    (λ k d lt.
    let old = slice_get-get_or places k d in
    let new = slice_get-get_or left k d in
    grind (
      arith,
      common_steps,
      without.others k,
      at_push_before places h k,
      length-append places (h ∷ []),
    ))

-- the others are new still
pub new_later : (h : Handle) (e : Entity) (hs : List Handle) (m : EntityMap)
    → stands_in hs h ≡ false → AreNew hs m → AreNew hs (map.insert m h e)
new_later h e [] m none new = tt
new_later h e (g ∷ hs) m none new =
    grind (
      arith,
      common_steps,
      map.get-insert handle_cmp_total m h e g,
      same_handle g h,
      itself h,
      new_later h e hs m,
    )

-- The places from one on.

slice_get-drop : (places : List Handle) (n i : ℕ)
    → slice_get (drop n places) i ≡ slice_get places (n + i)
slice_get-drop places zero i = search rules
slice_get-drop [] (suc n) i = refl
slice_get-drop (x ∷ places) (suc n) i = search (rules, slice_get-drop places n i)

pub stands_at : (places : List Handle) (i : ℕ) (h : Handle) → slice_get places i ≡ Some h
    → stands_in places h ≡ true
stands_at places i h is = any_passes_from_place (eq_by_cmp handle_cmp h) places i h is (itself h)

pub place_of : (places : List Handle) (h : Handle) → stands_in places h ≡ true
    → (i : ℕ) × (slice_get places i ≡ Some h)
place_of places h there =
    let at = Contains-from_stands_in places h there in
    (at.0, slice_get-get_or places at.0 h at.1 ∙ ap Some at.2)

pub stands_from : (places : List Handle) (n i : ℕ) (h : Handle) → slice_get places i ≡ Some h
    → n ≤ i → stands_in (drop n places) h ≡ true
stands_from places n i h is after =
    search (rules, arith, stands_at (drop n places) (i - n), slice_get-drop)

-- a handle that stands before, and at no other place
pub stands_before : (places : List Handle) (n i : ℕ) (h : Handle)
    → ((k : ℕ) → slice_get places k ≡ Some h → Some i ≡ Some k) → i < n
    → stands_in (drop n places) h ≡ false
stands_before places n i h once before = search (rules, place_of, same_Some, slice_get-drop)

-- a handle that stands at no place
pub stands_nowhere : (places : List Handle) (n : ℕ) (h : Handle)
    → ((k : ℕ) → slice_get places k ≢ Some h) → stands_in (drop n places) h ≡ false
stands_nowhere places n h nowhere = search (rules, place_of, slice_get-drop)

-- nobody
pub rows-empty : AreRows map.empty [] map.empty
rows-empty = search (rules, none-some, map.get-empty)

-- one entity more, at the next place
module _ {rows : Rows} {places : List Handle} {m : EntityMap} (h : Handle) (e : Entity)
    (are : AreRows rows places m)
    (new : map.contains_key m h ≡ false) where
  abbrev with_one : Rows
  with_one = map.insert rows h (length places)

  pub rows-insert : AreRows with_one (places ++ h ∷ []) (map.insert m h e)
  rows-insert =
      let row = map.get-insert total rows h (length places) in
      record {
        at = λ g k.
            let old = are.at g k in
            let apart = same_handle g h in
            let before = at_push_before places h k in
            let end = at_pushed places h in (
              λ is. grind (arith, common_steps, row g, slice_get_within places k g),
              λ is. grind (arith, common_steps, row g, at_push_end places h k, none-some),
            );
        each = λ g. grind (arith, common_steps, are.each g, row, map.get-insert total m h e);
      }

-- all that are born, one after the other
pub rows-born : (birth : Handle → Birth) (hs : List Handle) {rows : Rows} {places : List Handle}
    {m : EntityMap} → AreRows rows places m → AreNew hs m
    → AreRows (with_rows rows (length places) hs) (places ++ hs) (with_born m birth hs)
rows-born birth [] are new = search (rules, append-nil)
rows-born birth (h ∷ hs) are new =
    let e = newborn (birth h) in
    let rest = rows-born birth hs (rows-insert h e are new.0) (new_later h e hs _ new.1 new.2) in
    search (rules, length-append, append_assoc)

-- an entity is taken out, and the last one moves into its place
module _ (rows : Rows) (places left : List Handle) (m : EntityMap) (h : Handle) (place : ℕ)
    (are : AreRows rows places m) (here : slice_get places place ≡ Some h)
    (without : AreWithout place places left) where
  abbrev gone : Rows
  gone = map.remove rows h

  once : (g : Handle) (j k : ℕ) → slice_get places j ≡ Some g → slice_get places k ≡ Some g → j ≡ k
  once g j k first second = same_Some _ _ (sym ((are.at g j).1 first) ∙ (are.at g k).1 second)

  -- a handle at another place is another
  other_handle : (g : Handle) (k : ℕ) → slice_get places k ≡ Some g → k ≢ place → g ≢ h
  other_handle g k is apart e = apart (once h k place (is ∙ ap Some e) here)

  -- who had a row and is not taken out
  was : (g : Handle) (k : ℕ) → map.get gone g ≡ Some k → (g ≡ h) ⊎ (g ≢ h)
      → (g ≢ h) × (k ≢ place) × (slice_get places k ≡ Some g)
  was g k is which =
      search (rules, none-some, get-remove_same total same, get-remove_other total same)

  stays : (g : Handle) (k : ℕ) → slice_get left k ≡ Some g → k ≢ place
      → (g ≢ h) × (slice_get places k ≡ Some g) × (map.get gone g ≡ Some k)
  stays g k is apart =
      search (rules, slice_get_within, without.others, other_handle, get-remove_other total same)

  each_gone : (g : Handle) → map.contains_key gone g ≡ map.contains_key (map.remove m h) g
  each_gone g =
      grind
      (arith, common_steps, map.get-remove total rows h g, map.get-remove total m h g, are.each g)

  -- it was the last one
  rows-last : slice_get left place ≡ None → AreRows gone left (map.remove m h)
  rows-last none = record {
    at = λ g k. (
      λ is.
          let before = was g k is (same_or_apart total same g h) in
          let below = slice_get_within places k g before.2 in
          let end : length left ≤ place =
          grind (arith, common_steps, slice_get-get_or left place h) in
          let inside = slice_get_within places place h here in
          search (rules, arith, without.others k),
      λ is. search (rules, none-some, stays g k is),
    );
    each = each_gone;
  }

  -- the last one moves
  module _ (x : Handle) (moved : slice_get left place ≡ Some x) where
    last : (place + 1 < length places) × (slice_get places (length places - 1) ≡ Some x)
    last =
        let below : place + 1 < length places = search (rules, slice_get_within) in
        (below, sym (without.moved below) ∙ moved)

    other : x ≢ h
    other = search (rules, other_handle, last)

    had_row : map.get gone x ≡ Some (length places - 1)
    had_row = search (rules, get-remove_other total same rows h x other, last)

    row_there : (g : Handle) (k : ℕ) → map.get (map.insert gone x place) g ≡ Some k
        → (g ≡ x) ⊎ (g ≢ x) → slice_get left k ≡ Some g
    row_there g k is (inl e) = search (rules, get-insert_same total same gone x place g e)
    row_there g k is (inr n) =
        let before =
        was g k (sym (get-insert_other total same gone x place g n) ∙ is)
        (same_or_apart total same g h) in
        grind (arith, common_steps, slice_get_within, same_Some)

    there_row : (g : Handle) (k : ℕ) → slice_get left k ≡ Some g → (k ≡ place) ⊎ (k ≢ place)
        → map.get (map.insert gone x place) g ≡ Some k
    there_row g k is which = search (
      rules,
      get-insert_same total same,
      get-insert_other total same,
      stays,
      slice_get_within,
      once,
      last,
    )

    each_moved : (g : Handle) → (g ≡ x) ⊎ (g ≢ x) → map.contains_key (map.insert gone x place) g
        ≡ map.contains_key gone g
    each_moved g which =
        search (rules, get-insert_same total same, get-insert_other total same, had_row)

    rows-moved : AreRows (map.insert gone x place) left (map.remove m h)
    rows-moved =
        search (rules, row_there, same_or_apart, there_row, same_number, each_moved, each_gone)

  pub rows-remove : (o : Option Handle) → o ≡ slice_get left place
      → AreRows (with_moved gone place o) left (map.remove m h)
  rows-remove it is = search (rules, rows-last, rows-moved)

-- Each handle of the places stands there once.
distinct_places : (xs : List Handle)
    → ((h : Handle) (i j : ℕ) → slice_get xs i ≡ Some h → slice_get xs j ≡ Some h → i ≡ j)
    → AreDistinct xs
distinct_places [] once = tt
distinct_places (x ∷ xs) once = (
  false_from_ne_true _ (λ there. let other = place_of xs x there in
      cc (once x 0 (suc other.0) refl other.1)),
  distinct_places xs (λ h i j first second. let next = once h (suc i) (suc j) first second in
      omega arith),
)

len_distinct : (xs : List Handle) → AreDistinct xs
    → set.len {R = handle_cmp} (set.from_list xs) ≡ length xs
len_distinct [] once = set.len-empty handle_cmp
len_distinct (x ∷ xs) once =
    search (rules, len_distinct xs, set.contains-from_list total, set.len-insert total)

-- who has a row stands among the places
pub rows_stand : (rows : Rows) (places : List Handle) → ArePlaces rows places → (h : Handle)
    → map.contains_key rows h ≡ stands_in places h
rows_stand rows places at h =
    let row = unwrap_or (map.get rows h) 0 in
    grind
    (arith, common_steps, at h row, stands_at places row h, place_of places h, at h, none-some)

-- as many live as there are places
pub rows-count : (s : Allocator) {rows : Rows} {places : List Handle} {m : EntityMap}
    → AreRows rows places m → AreLiving s m → set.len s.live ≡ length places
rows-count s {rows} {places} are living =
    let listed : s.live ≡ set.from_list places = set.same_set total same _ _ (λ q.
    cc (
      are.each q,
      living q,
      rows_stand rows places are.at q,
      set.contains-from_list total places q,
    )) in
    rw listed
    (len_distinct places
    (distinct_places places (λ h i j. search (rules, same_Some, are.at h))))

-- and there will be no more once all that is reserved is born
pub born-fit : (s : Allocator) {rows : Rows} {places : List Handle} {m : EntityMap} → IsSound s
    → AreLiving s m → AreRows rows places m → length places + length (born s) < 2 ^ 32
born-fit s sound living are =
    let after = rows-born (λ _. first_birth 0 0) (born s) are (born-new s _ sound living) in
    let count =
    rows-count (after_flush s) after (living-after s _ sound living (λ _. first_birth 0 0)) in
    let few : set.len (after_flush s).live < 2 ^ 32 =
    search (rules, retired-rest, after_flush-sound s sound) in
    search (rules, length-append)
