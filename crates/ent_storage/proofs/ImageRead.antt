-- Entities that are read one by one, and where bytes are those of no entities.
use Rattle.ent_storage.proofs.Common.{rules, ◌≡◌, ◌≢◌, sym, ap, ◌∙◌, subst, ℕ, ◌+◌, ◌^◌, ◌<◌, ◌≤◌}
use Rattle.ent_storage.proofs.Common.{List, [], ◌∷◌, ◌++◌, length, take, drop, get_or, Contains}
use Rattle.ent_storage.proofs.Common.{IsTrue, None, arith, inl, inr, is_some, common_steps}
use Rattle.ent_storage.proofs.Common.{flat_map, append_assoc, append-nil, length-append}
use Rattle.ent_storage.proofs.Common.{flat_map_more, take_all, take-append-drop, drop_more}
use Rattle.ent_storage.proofs.Common.{take_more, length-take, get_or-take, flat_map-append}
use Rattle.ent_storage.proofs.Common.{Contains-append_left, Contains-push, Contains-push_cases}
use Rattle.ent_storage.proofs.Common.{ComponentId, Handle, handle_cmp_total}
use Rattle.ent_storage.proofs.Common.{handle_cmp-IsAntisymmetric, EntityMap, value_of, word}
use Rattle.ent_storage.proofs.Common.{entity_bytes, entities_bytes, width, IsStored, AreStored}
use Rattle.ent_storage.proofs.Common.{AreFirst, fin_contains_key, fin_get, AllPairs}
use Rattle.ent_storage.proofs.Keys.{none_from, same_or_apart}
use Rattle.ent_handle.proofs.Spelled.{length-word, same_words}
use Rattle.ent_storage.proofs.ImageEntities.{IsAlike, all_alike, same_listed, same_all}
use Rattle.ent_storage.proofs.ImageEntities.{never_stored, value_beyond, width_few, stored_alike}

-- ---- what the bytes begin with

pub too_few : (m : EntityMap) (hs : List Handle) (bytes : List ℕ) → length bytes < 4
    → entities_bytes m hs ≢ bytes
too_few m hs bytes short same = search (rules, length-append, length-word)

pub told : (m : EntityMap) (hs : List Handle) (n : ℕ) (bytes rest : List ℕ) → n < 2 ^ 32
    → bytes ≡ word n ++ rest → entities_bytes m hs ≡ bytes
    → (width m hs ≡ n) × (flat_map (entity_bytes n m) hs ≡ rest)
told m hs n bytes rest lt is same = search (rules, width_few, same_words)

pub too_wide : (m : EntityMap) (hs : List Handle) (n : ℕ) (bytes rest : List ℕ) → n < 2 ^ 32
    → 256 < n → bytes ≡ word n ++ rest → entities_bytes m hs ≢ bytes
too_wide m hs n bytes rest lt wide is same =
    let few = width_few m hs in let parts = told m hs n bytes rest lt is same in
    omega (arith, parts.0)

-- ---- the entities so far

-- the bytes begin with those of these entities, and the map has nobody else
pub record AreRead (n : ℕ) (s : EntityMap) (hs : List Handle) (bytes rest : List ℕ) : Type 0 where
  pub spelled : bytes ≡ word n ++ (flat_map (entity_bytes n s) hs ++ rest)
  pub each : (h : Handle) → Contains hs h → IsStored s h
  pub beyond : (h : Handle) → Contains hs h → (id : ComponentId) → n ≤ id.0
      → value_of s h id ≡ None
  pub only : (h : Handle) → IsTrue (fin_contains_key s h) → Contains hs h

module _ {n : ℕ} {old : EntityMap} {bytes rest : List ℕ} (hs : List Handle) (i : ℕ)
    (read : AreRead n old (take i hs) bytes rest) (h : Handle) (lt : i < length hs)
    (is : h ≡ get_or hs i h) where
  abbrev before : List Handle
  before = take i hs

  -- where no entity is next, the bytes are those of no entities
  pub damaged : (m : EntityMap) → n < 2 ^ 32 → ((a : EntityMap) (more : List ℕ) → IsStored a h
      → rest ≢ entity_bytes n a h ++ more) → AreStored m hs → entities_bytes m hs ≢ bytes
  damaged m fits none stored same =
      let f = entity_bytes n m in
      let parts = told m hs n _ _ fits read.spelled same in
      let more = flat_map f (drop (i + 1) hs) in
      let split = sym (ap (flat_map f) (take-append-drop i hs)) ∙ flat_map-append f _ _
      ∙ ap (λ xs. flat_map f before ++ flat_map f xs)
      (drop_more hs i h lt ∙ ap (◌∷ drop (i + 1) hs) (sym is)) in
      let both = same_listed n old m _ _ _ read.each (λ g at. stored.each g
      (subst (λ xs. Contains xs g) (take-append-drop i hs) (Contains-append_left _ _ g at))) (sym
      parts.1 ∙ split) in
      search rules

  next : take (i + 1) hs ≡ before ++ h ∷ []
  next = take_more hs i h lt ∙ ap (λ g. before ++ g ∷ []) (sym is)

  pub places_more : (places after : List Handle) → places ≡ before → after ≡ places ++ h ∷ []
      → after ≡ take (i + 1) hs
  places_more places after so_far is_after = is_after ∙ ap (◌++ h ∷ []) so_far ∙ sym next

  -- another entity is read
  module _ (apart : AllPairs (λ a b. a ≢ b) hs) (new : EntityMap)
      (kept : (g : Handle) → g ≢ h → fin_get new g ≡ fin_get
      old g) where
    same_at : (g : Handle) → Contains before g → fin_get old g ≡ fin_get new g
    same_at g at = search (rules, never_stored, none_from, length-take, get_or-take)

    -- what holds of each entity so far, and of this one
    each_more : (P : EntityMap → Handle → Type 0)
        → ((g : Handle) → fin_get old g ≡ fin_get new g → P old g → P new g)
        → ((g : Handle) → Contains before g → P old g) → P new h → (g : Handle)
        → Contains (before ++ h ∷ []) g → P new g
    each_more P alike so_far last g at = grind (arith, common_steps, Contains-push_cases, same_at)

    pub read_more : (left : List ℕ) → rest ≡ entity_bytes n new h ++ left → IsStored new h
        → ((id : ComponentId) → n ≤ id.0 → value_of new h id ≡ None)
        → AreRead n new (take (i + 1) hs) bytes left
    read_more left first stored beyond =
        subst (λ xs. AreRead n new xs bytes left) (sym next) (record {
          spelled = grind (arith, common_steps, all_alike, same_at, append_assoc, flat_map_more);
          each = each_more IsStored (stored_alike old new) read.each stored;
          beyond = search (rules, each_more);
          only = λ g there. elim (same_or_apart handle_cmp_total handle_cmp-IsAntisymmetric g h) [
            | inl same ↦ subst (Contains (before ++ h ∷ [])) (sym same) (Contains-push before h)
            | inr other ↦ Contains-append_left _ _ g
                (read.only g (ap (λ o. is_some o) (sym (kept g other)) ∙ there))
          ];
        })

-- the entities are the first of the bytes
abbrev pub first_read : {n : ℕ} {s : EntityMap} {bytes rest : List ℕ} (hs : List Handle) (k : ℕ)
    → n ≤ 256 → AreRead n s (take k hs) bytes rest → AreFirst hs bytes k
first_read {n} {s} {bytes} {rest} hs k few read = record {
  width = n;
  few = few;
  entities = s;
  stored = read.each;
  beyond = read.beyond;
  left = rest;
  spelled = read.spelled;
}

-- ---- at the end

pub width_placed : (s : EntityMap) {places : List Handle} (hs : List Handle) (i : ℕ) → length hs ≤ i
    → places ≡ take i hs → width s places ≡ width s hs
width_placed s hs i all are = ap (width s) (are ∙ take_all i hs all)

module _ {n : ℕ} {s : EntityMap} {bytes rest : List ℕ} (hs : List Handle) (i : ℕ)
    (all : length hs ≤ i)
    (so_far : AreRead n s (take i hs) bytes rest) where
  pub read : AreRead n s hs bytes rest
  read = search (rules, take_all)

  -- the bytes begin with all entities
  abbrev pub all_first : n ≤ 256 → AreFirst hs bytes (length hs)
  all_first few = first_read hs (length hs) few (subst (λ xs. AreRead n s xs bytes rest)
      (sym (take_all (length hs) hs (omega arith))) read)

  pub are_stored : AreStored s hs
  are_stored = record { each = read.each; only = read.only }

  module _ (m : EntityMap) (fits : n < 2 ^ 32) (stored : AreStored m hs)
      (same : entities_bytes m hs ≡ bytes) where
    parts : (width m hs ≡ n)
        × (flat_map (entity_bytes n m) hs ≡ flat_map (entity_bytes n s) hs ++ rest)
    parts = told m hs n bytes (flat_map (entity_bytes n s) hs ++ rest) fits read.spelled same

    both : ((h : Handle) → Contains hs h → IsAlike n s m h) × (rest ≡ [])
    both = same_listed n s m hs rest [] read.each stored.each
        (sym parts.1 ∙ sym (append-nil (flat_map (entity_bytes n m) hs)))

    -- nothing is left over
    pub nothing_left : rest ≡ []
    nothing_left = both.1

    pub is_read : s ≡ m
    is_read =
        same_all s m hs are_stored stored n read.beyond
        (λ h at id past. value_beyond m hs stored h at id (omega (arith, parts.0))) both.0

    -- and the width is right
    pub width_told : width s hs ≡ n
    width_told = ap (λ x. width x hs) is_read ∙ parts.0
