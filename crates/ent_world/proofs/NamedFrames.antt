-- A whole frame does to births alone what it does to the world, if its queues list just what was
-- reserved. Each handle has one birth, by where it stands in a queue.
use Rattle.ent_world.proofs.Common.{list_any-IsPermutation, common_steps, [], rules, ◌≡◌, refl, sym}
use Rattle.ent_world.proofs.Common.{ap, ◌∙◌, ℕ, ◌+◌, ◌^◌, ◌<◌, ◌≤◌, Bool, true, cond, List, ◌∷◌}
use Rattle.ent_world.proofs.Common.{map, length, All, Some, None, is_some, arith, AllZip, list_any}
use Rattle.ent_world.proofs.Common.{position_from, eq_by_cmp, find, map-append, list_any-append}
use Rattle.ent_world.proofs.Common.{All-head, All-tail, none-some, Birth, birth_cmp, Handle}
use Rattle.ent_world.proofs.Common.{handle_cmp, handle_cmp_total, stands_in, born, same_handle}
use Rattle.ent_world.proofs.Common.{itself, born-IsPermutation, EntityMap, newborn, Command, World}
use Rattle.ent_world.proofs.Common.{IsWorld, listed_by, handles_listed, listed_birth, birth_in}
use Rattle.ent_world.proofs.Common.{after_births, sync, BirthMap, BirthCommand, births_of}
use Rattle.ent_world.proofs.Common.{births_in, entered_alone, frame_alone, AreNamed, AreNames}
use Rattle.ent_world.proofs.Common.{IsNamedBy, AreNamedBy, AreNamedAfter, AreBelow, AreListed}
use Rattle.ent_world.proofs.Common.{applied, false, T, true≢false, ℤ, ◌⊎◌, option_map, or_right}
use Rattle.ent_world.proofs.Common.{put, is_sorted, find-put, is_sorted-put, eq_by_cmp_equiv}
use Rattle.ent_world.proofs.Common.{tells_apart, same_Some, birth_cmp_total, component_cmp, Entity}
use Rattle.ent_world.proofs.Common.{birth_of, Bundle, with_born, nil_from_length, flat_map}
use Rattle.ent_world.proofs.Common.{unwrap_or, unlisted_birth, unlisted}
use Rattle.ent_world.proofs.Kept.{IsKept, after_queues-keeps}
use Rattle.ent_world.proofs.Born.{some_position, get-with_born, no_entity, born-absent}
use Rattle.ent_world.proofs.Named.{some_there, entity_there, entity_with, queues-named}
use Rattle.std.specs.FinMap as finite

-- ---- what enters

find-entered : (b : Birth) (bs : List Birth) (m : BirthMap)
    → find birth_cmp b (entered_alone bs m)
    ≡ cond (list_any (eq_by_cmp birth_cmp b) bs) (Some []) (find birth_cmp b m)
find-entered b [] m = refl
find-entered b (c ∷ bs) m =
    grind (
      arith,
      common_steps,
      find-entered b bs (put birth_cmp c [] m),
      find-put birth_cmp birth_cmp_total b c [] m,
    )

rising-entered : (bs : List Birth) (m : BirthMap) → T (is_sorted birth_cmp m)
    → T (is_sorted birth_cmp (entered_alone bs m))
rising-entered [] m rising = rising
rising-entered (b ∷ bs) m rising =
    rising-entered bs _ (is_sorted-put birth_cmp birth_cmp_total b [] m rising)

entries-empty : finite.entries (finite.empty {X = ℤ} {R = component_cmp}) ≡ []
entries-empty =
    search (
      rules,
      nil_from_length,
      finite.len-entries (finite.empty {X = ℤ} {R = component_cmp}),
      finite.len-empty,
    )

-- ---- a list of handles, and of their births

-- the handle in the list whose birth it is
abbrev Owner : (Handle → Birth) → List Handle → Birth → Type 0
Owner birth hs b = (h : Handle) × ((stands_in hs h ≡ true) × (birth h ≡ b))

-- a birth that stands among them is that of one of them
owner : (birth : Handle → Birth) (hs : List Handle) (b : Birth)
    → list_any (eq_by_cmp birth_cmp b) (map birth hs) ≡ true → Owner birth hs b
owner birth [] b there = absurd (true≢false (sym there))
owner birth (h ∷ hs) b there = search (rules, itself, tells_apart, or_right, owner birth hs b)

owned : (birth : Handle → Birth) (hs : List Handle) (h : Handle) → stands_in hs h ≡ true
    → list_any (eq_by_cmp birth_cmp (birth h)) (map birth hs) ≡ true
owned birth [] h there = absurd (true≢false (sym there))
owned birth (g ∷ hs) h there =
    grind (
      arith,
      common_steps,
      owned birth hs h,
      same_handle h g,
      (eq_by_cmp_equiv birth_cmp_total).refl (birth h),
    )

-- ---- a map, and births that tell it, after some have entered

-- Handles that are not there enter with new births, each with its own.
module _ (birth : Handle → Birth) (born listed : List Handle) (m : EntityMap) (births : BirthMap)
    (named : AreNamed m births) (same : (h : Handle) → stands_in listed h ≡ stands_in born h)
    (fresh : (h : Handle) → stands_in born h ≡ true → finite.get m h ≡ None)
    (new : (h : Handle) → stands_in born h ≡ true → find birth_cmp (birth h) births ≡ None)
    (own : (g h : Handle) → stands_in born g ≡ true → stands_in born h ≡ true → birth g ≡ birth h
    → g ≡ h) where
  -- an entity was born, or was there
  of_entity : (h : Handle) (e : Entity) → finite.get (with_born m birth born) h ≡ Some e
      → ((stands_in born h ≡ true) × (newborn (birth h) ≡ e)) ⊎ (finite.get m h ≡ Some e)
  of_entity h e is = grind (arith, common_steps, get-with_born, same_Some)

  -- births that were there are not among the new ones
  not_among : (b : Birth) (items : Bundle) → find birth_cmp b births ≡ Some items
      → list_any (eq_by_cmp birth_cmp b) (map birth listed) ≡ false
  not_among b items is = grind (arith, common_steps, owner, none-some)

  birth_from : (h : Handle) (e : Entity) → finite.get m h ≡ Some e → birth_of m h ≡ Some e.birth
  birth_from h e is = ap (λ o. option_map (λ e. e.birth) o) is

  pub entered-named : AreNamed (with_born m birth born) (entered_alone (map birth listed) births)
  entered-named = record {
    rising = rising-entered (map birth listed) births named.rising;
    there =
        λ h e is. search (rules, find-entered, owned, entries-empty, not_among, of_entity h e is);
    apart = λ g h b g_is h_is. search (rules, entity_with, birth_from, of_entity);
    only = λ b items is.
        let found = find-entered b (map birth listed) births in
        search (rules, found, owner birth listed b, entity_with, get-with_born, none-some, same);
  }

-- ---- positions in a list

-- an index is one of the list's
position_bounds : (t : Handle → Bool) (i : ℕ) (hs : List Handle) (k : ℕ)
    → position_from t i hs ≡ Some k → (i ≤ k) × (k < i + length hs)
position_bounds t i [] k is = absurd (none-some k is)
position_bounds t i (h ∷ hs) k is = grind (arith, common_steps, position_bounds t (i + 1) hs k)

-- at one index there is one handle
position_own : (g h : Handle) (i : ℕ) (hs : List Handle) (k : ℕ)
    → position_from (eq_by_cmp handle_cmp g) i hs ≡ Some k
    → position_from (eq_by_cmp handle_cmp h) i hs ≡ Some k → g ≡ h
position_own g h i [] k g_is h_is = absurd (none-some k g_is)
position_own g h i (x ∷ hs) k g_is h_is = grind
    (arith, common_steps, same_handle, position_bounds, position_own g h (i + 1) hs k)

-- ---- the births of what queues list

listed_some : (phase system : ℕ) (queues : List (List Command)) (h : Handle)
    → is_some (listed_birth phase system queues h) ≡ stands_in (flat_map handles_listed queues) h
listed_some phase system [] h = refl
listed_some phase system (q ∷ queues) h = grind (
  arith,
  common_steps,
  some_position (eq_by_cmp handle_cmp h) 0 (handles_listed q),
  listed_some phase (system + 1) queues h,
  list_any-append (eq_by_cmp handle_cmp h) (handles_listed q) (flat_map handles_listed queues),
)

-- the frame of such a birth, and a system that is not before the first of these
listed_parts : (phase system : ℕ) (queues : List (List Command)) (h : Handle) (b : Birth)
    → listed_birth phase system queues h ≡ Some b → (b.frame ≡ phase) × (system ≤ b.system)
listed_parts phase system [] h b is = absurd (none-some b is)
listed_parts phase system (q ∷ queues) h b is =
    grind (arith, common_steps, listed_parts phase (system + 1) queues h b)

-- no two handles have one birth
listed_own : (phase system : ℕ) (queues : List (List Command)) (g h : Handle) (b : Birth)
    → All (λ q. length (handles_listed q) ≤ 2 ^ 32) queues
    → listed_birth phase system queues g ≡ Some b → listed_birth phase system queues h ≡ Some b
    → g ≡ h
listed_own phase system [] g h b fits g_is h_is = absurd (none-some b g_is)
listed_own phase system (q ∷ queues) g h b fits g_is h_is =
    grind (
      arith,
      common_steps,
      position_bounds (eq_by_cmp handle_cmp g) 0 (handles_listed q),
      position_bounds (eq_by_cmp handle_cmp h) 0 (handles_listed q),
      position_own g h 0 (handles_listed q),
      listed_parts phase (system + 1) queues g b,
      listed_parts phase (system + 1) queues h b,
      listed_own phase (system + 1) queues g h b
          (All-tail (λ q. length (handles_listed q) ≤ 2 ^ 32) q queues fits),
      All-head (λ q. length (handles_listed q) ≤ 2 ^ 32) q queues fits,
    )

-- ---- queues by names list the names of what the queues list

command_births : (name : Handle → Birth) (m : EntityMap) (c : Command) (d : BirthCommand)
    → IsNamedBy name m c d → births_of d ≡ map name (listed_by c)
command_births name m it d is = search rules

pub queue_births : (name : Handle → Birth) (m : EntityMap) (q : List Command)
    (r : List BirthCommand) → AllZip (IsNamedBy name m) q r
    → flat_map births_of r ≡ map name (handles_listed q)
queue_births name m [] r are = search rules
queue_births name m (c ∷ q) r are =
    search (rules, command_births, map-append, queue_births name m q)

pub queues_births : (name : Handle → Birth) (m : EntityMap) (queues : List (List Command))
    (births : List (List BirthCommand)) → AreNamedBy name m queues births
    → births_in births ≡ map name (flat_map handles_listed queues)
queues_births name m (q ∷ queues) (r ∷ births) are = search
    (rules, queue_births name m q r are.0, map-append, queues_births name m queues births are.1)
queues_births name m _ _ are = search rules

-- two ways to name the same handles
map_alike : (f g : Handle → Birth) (hs : List Handle)
    → ((h : Handle) → stands_in hs h ≡ true → f h ≡ g h) → map f hs ≡ map g hs
map_alike f g [] alike = refl
map_alike f g (h ∷ hs) alike = grind (arith, common_steps, itself, map_alike f g hs)

-- ---- a frame

module _ (queues : List (List Command)) (w : World) (view : BirthMap) (is_world : IsWorld w)
    (named : AreNamed w.entities view) (below : AreBelow w.phase w.entities)
    (listed : AreListed queues w.allocator) where
  abbrev birth : Handle → Birth
  birth = birth_in w.phase queues (born w.allocator)

  abbrev IsBorn : Handle → Type 0
  IsBorn h = stands_in (born w.allocator) h ≡ true

  -- what is listed is what is born
  listed_born : (h : Handle) → stands_in (flat_map handles_listed queues) h
      ≡ stands_in (born w.allocator) h
  listed_born h = sym (list_any-IsPermutation _ _ _ listed.listed)
      ∙ list_any-IsPermutation _ _ _ (born-IsPermutation w.allocator)

  -- who is born has the birth of its position
  placed : (h : Handle) → IsBorn h
      → (b : Birth) × ((listed_birth w.phase 0 queues h ≡ Some b) × (birth h ≡ b))
  placed h there =
      let some : is_some (listed_birth w.phase 0 queues h) ≡ true =
      search (rules, listed_some, listed_born) in
      let b = some_there (listed_birth w.phase 0 queues h) some in (
        b.0,
        (
          b.1,
          ap (λ o. unwrap_or o (unlisted_birth w.phase (unlisted queues (born w.allocator)) h))
              b.1,
        ),
      )

  was_not_there : (h : Handle) → IsBorn h → finite.get w.entities h ≡ None
  was_not_there h there = search (rules, no_entity, born-absent)

  is_new : (h : Handle) → IsBorn h → find birth_cmp (birth h) view ≡ None
  is_new h there = grind (arith, common_steps, entity_with, placed, listed_parts)

  of_its_own : (g h : Handle) → IsBorn g → IsBorn h → birth g ≡ birth h → g ≡ h
  of_its_own g h g_there h_there same = search (rules, placed, listed_own)

  births-named : AreNamed (after_births queues w).entities
      (entered_alone (map birth (flat_map handles_listed queues)) view)
  births-named = search (rules, entered-named, listed_born, was_not_there, is_new, of_its_own)

  module _ (name : Handle → Birth) (names : AreNames name (after_births queues w).entities)
      (births : List (List BirthCommand))
      (are : AreNamedBy name (after_births queues w).entities queues births) where
    named_birth : (h : Handle) → IsBorn h → birth h ≡ name h
    named_birth h there = search (rules, names h (newborn (birth h)), get-with_born)

    -- the births of the queues by names are those with which the handles enter
    births_are : map birth (flat_map handles_listed queues) ≡ births_in births
    births_are =
        rw (queues_births _ _ _ _ are)
        (map_alike _ _ _ (λ h there. search (rules, named_birth, listed_born)))

    -- Births that are those of a world tell what a frame does to it.
    pub frame-named : AreNamedAfter name (sync queues w) (frame_alone births view)
    frame-named = queues-named name 0 queues births (applied (after_births queues w) []) _
        (record { entities = rw births_are at births-named; names = names; faults = tt }) are

-- ---- the births stay below the number of the next phase

below-kept : (phase : ℕ) → IsKept (λ w. AreBelow phase w.entities)
below-kept phase = record {
  components = λ change h w there before g e is. grind (
    arith,
    common_steps,
    entity_there w.entities h there,
    finite.get-insert handle_cmp_total w.entities h,
    before h,
    before g e,
  );
  despawn = λ h w there before g e is. grind
      (arith, common_steps, finite.get-remove handle_cmp_total w.entities h g, before g e);
}

-- Who is there after a sync was born in its phase or before.
pub sync-below : (queues : List (List Command)) (w : World) → AreBelow w.phase w.entities
    → AreBelow (w.phase + 1) (sync queues w).world.entities
sync-below queues w below =
    after_queues-keeps (λ w'. AreBelow (w.phase + 1) w'.entities) (below-kept (w.phase + 1)) 0
    queues (applied (after_births queues w) [])
    (λ h e is. grind (arith, common_steps, get-with_born, listed_parts w.phase 0 queues h))
