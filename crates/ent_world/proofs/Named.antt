-- Queues do to a world what the same queues by births do to births alone. If the births told what
-- the world was, they tell what it is afterwards, and the faults are the same.
use Rattle.ent_world.proofs.Common.{◌⊎◌, inl, inr, [], arith, rules, ◌≡◌, refl, ap, ◌∙◌, ℕ, ◌+◌}
use Rattle.ent_world.proofs.Common.{true, cond, not, T, true≢false, List, ◌∷◌, map, filter, All}
use Rattle.ent_world.proofs.Common.{Option, Some, None, is_some, option_map, common_steps, AllZip}
use Rattle.ent_world.proofs.Common.{eq_by_cmp, Ordering, IsTotalOrder, find, put, is_sorted}
use Rattle.ent_world.proofs.Common.{IsAntisymmetric, find-put, find-where_key, is_sorted-put}
use Rattle.ent_world.proofs.Common.{is_sorted-where_key, same_entries, eq_by_cmp_equiv, tells_apart}
use Rattle.ent_world.proofs.Common.{none-some, same_Some, All-head, All-tail, all_zipped_more}
use Rattle.ent_world.proofs.Common.{Birth, ComponentId, birth_cmp, birth_cmp_total}
use Rattle.ent_world.proofs.Common.{birth_cmp-IsAntisymmetric, component_cmp, component_cmp_total}
use Rattle.ent_world.proofs.Common.{component_cmp-IsAntisymmetric, Handle, handle_cmp}
use Rattle.ent_world.proofs.Common.{handle_cmp_total, same_handle, itself, Components, with_items}
use Rattle.ent_world.proofs.Common.{Entity, EntityMap, birth_of, with_components, Bundle, with_put}
use Rattle.ent_world.proofs.Common.{Command, Spawn, SpawnMany, Insert, Remove, Despawn, Refused}
use Rattle.ent_world.proofs.Common.{World, lives_in, Applied, on_entity, on_each, after_insert}
use Rattle.ent_world.proofs.Common.{after_remove, after_despawn, after_command, after_commands}
use Rattle.ent_world.proofs.Common.{after_queues, BirthMap, BirthCommand, AppliedAlone, held_by}
use Rattle.ent_world.proofs.Common.{inserted, removed, despawned, on_birth, on_each_birth}
use Rattle.ent_world.proofs.Common.{after_birth_command, after_birth_commands, after_birth_queues}
use Rattle.ent_world.proofs.Common.{AreNamed, AreNames, IsThere, IsNamedBy, AreNamedBy, IsSameFault}
use Rattle.ent_world.proofs.Common.{AreNamedAfter}
use Rattle.std.specs.FinMap as finite

-- ---- lists of entries in order

module _ {K X : Type 0} {R : K → K → Ordering} (o : IsTotalOrder R) (same : IsAntisymmetric R) where
  -- a key that was filtered out is not found
  pub find-without : (k q : K) (es : List (K × X))
      → find R q (filter (λ e. not (eq_by_cmp R e.0 k)) es)
      ≡ cond (eq_by_cmp R q k) None (find R q es)
  find-without k q es = search (
    rules,
    find-where_key R (λ x. not (eq_by_cmp R x k)) q (λ x tied. rw (same q x tied) refl) es,
  )

  -- a map without a key has the entries without that key
  pub entries-remove : (m : finite.FinMap R X) (k : K) → finite.entries (finite.remove m k)
      ≡ filter (λ e. not (eq_by_cmp R e.0 k)) (finite.entries m)
  entries-remove m k = same_entries R o same _ _ (finite.entries_sorted (finite.remove m k))
      (is_sorted-where_key R (λ x. not (eq_by_cmp R x k)) (finite.entries m)
      (finite.entries_sorted m))
      (λ q. search (rules, finite.get-entries, finite.get-remove o m k, find-without k))

-- the components of an entity and a bundle, after the same items
entries-with_items : (held : Components) (items : Bundle)
    → finite.entries (with_items held items) ≡ with_put (finite.entries held) items
entries-with_items held [] = refl
entries-with_items held (item ∷ items) = entries-with_items (finite.insert held item.0 item.1) items
    ∙ ap (λ es. with_put es items) (finite.entries-insert component_cmp_total held item.0 item.1)

-- ---- what births tell of a map

-- what they tell of an entity
abbrev told : Option Entity → Option Bundle
told o = option_map (λ e. finite.entries e.components) o

told_some : (o : Option Entity) → is_some (told o) ≡ is_some o
told_some it = search rules

-- what there is
pub some_there : {X : Type 0} (o : Option X) → is_some o ≡ true → (x : X) × (o ≡ Some x)
some_there it there = search (rules, true≢false)

-- the entity that is there
pub entity_there : (m : EntityMap) (h : Handle) → IsThere m h
    → (e : Entity) × (finite.get m h ≡ Some e)
entity_there m h there = some_there (finite.get m h) there

-- The births tell the map, by the names of the handles that were there at the start.
record AreTold (start : EntityMap) (name : Handle → Birth) (m : EntityMap) (births : BirthMap)
    : Type 0 where
  rising : T (is_sorted birth_cmp births)
  lived : (h : Handle) → IsThere m h → IsThere start h
  named : (h : Handle) (e : Entity) → finite.get m h ≡ Some e → name h ≡ e.birth
  there : (h : Handle) → IsThere start h → find birth_cmp (name h) births ≡ told (finite.get m h)
  only : (birth : Birth) → is_some (find birth_cmp birth births) ≡ true
      → (h : Handle) × (IsThere start h × (name h ≡ birth))

-- no name is that of two handles that are there
abbrev pub AreDistinct : (Handle → Birth) → EntityMap → Type 0
AreDistinct name m = (g h : Handle) → IsThere m g → IsThere m h → name g ≡ name h → g ≡ h

module _ (start : EntityMap) (name : Handle → Birth) (distinct : AreDistinct name start) where
  -- names tie where their handles tie
  alike : (g h : Handle) → IsThere start g → IsThere start h
      → eq_by_cmp birth_cmp (name g) (name h) ≡ eq_by_cmp handle_cmp g h
  alike g h g_there h_there =
      let refl = (eq_by_cmp_equiv birth_cmp_total).refl (name h) in
      let apart = distinct g h g_there h_there in
      grind (
        arith,
        common_steps,
        same_handle g h,
        itself h,
        tells_apart birth_cmp-IsAntisymmetric (name g) (name h),
      )

  -- If both change under one handle and its name only, in the same way, they tell the map still.
  changed : (h : Handle) (o : Option Entity) (m n : EntityMap) (births after : BirthMap)
      → AreTold start name m births → IsThere m h → ((e : Entity) → o ≡ Some e → name h ≡ e.birth)
      → ((g : Handle) → finite.get n g ≡ cond (eq_by_cmp handle_cmp g h) o (finite.get m g))
      → T (is_sorted birth_cmp after)
      → ((b : Birth) → find birth_cmp b after
      ≡ cond (eq_by_cmp birth_cmp b (name h)) (told o) (find birth_cmp b births))
      → AreTold start name n after
  changed h o m n births after before here birth gets rising finds = record {
    rising = rising;
    lived = λ g there. grind (arith, common_steps, gets g, same_handle g h, before.lived g);
    named =
        λ g e is. grind (arith, common_steps, gets g, same_handle g h, before.named g e, birth e);
    there =
        λ g there.
        grind (
          arith,
          common_steps,
          alike g h there (before.lived h here),
          finds (name g),
          gets g,
          before.there g there,
        );
    only = λ b some.
        let either : (name h ≡ b) ⊎ (is_some (find birth_cmp b births) ≡ true) = grind
        (arith, common_steps, finds b, tells_apart birth_cmp-IsAntisymmetric b (name h)) in
        elim either [ inl is ↦ (h, (before.lived h here, is)) | inr found ↦ before.only b found ];
  }

  -- ---- one entity

  -- A change of the components of an entity, and the same change of the bundle of its birth.
  components-told : (change : Components → Components) (alike_change : Bundle → Bundle)
      → ((held : Components) → finite.entries (change held) ≡ alike_change (finite.entries held))
      → (h : Handle) (m : EntityMap) (births : BirthMap) → IsThere m h → AreTold start name m births
      → AreTold start name (with_components m h change)
      (put birth_cmp (name h) (alike_change (held_by births (name h))) births)
  components-told change alike_change respects h m births here before =
      let found = entity_there m h here in
      let e : Entity = found.0 in
      let later : Entity = record e { components = change e.components } in
      let items : Bundle = alike_change (held_by births (name h)) in
      let items_are : items ≡ finite.entries later.components = grind (arith, common_steps) in
      rw found.1
      (changed h _ m _ _ _ before here
      (λ f is. search (rules, before.named h e found.1, same_Some))
      (finite.get-insert handle_cmp_total m h later)
      (is_sorted-put birth_cmp birth_cmp_total (name h) items births
      before.rising) (λ b. rw items_are
      (find-put birth_cmp birth_cmp_total b (name h) (finite.entries later.components)
      births)))

  -- ---- commands

  -- A world and births that tell its entities, with the same faults so far.
  record AreAppliedTold (a : Applied) (b : AppliedAlone) : Type 0 where
    told : AreTold start name a.world.entities b.entities
    faults : AllZip IsSameFault a.faults b.faults

  -- a change of an entity, and one of its birth, after which the births tell the map still
  abbrev IsToldBy : (Handle → World → World) → (Birth → BirthMap → BirthMap) → Type 0
  IsToldBy change change_alone = (h : Handle) (w : World) (births : BirthMap) → IsThere w.entities h
      → AreTold start name w.entities births
      → AreTold start name (change h w).entities (change_alone (name h) births)

  insert-told : (items : Bundle) → IsToldBy (after_insert items) (inserted items)
  insert-told items h w births here before =
      components-told (λ held. with_items held items) (λ held. with_put held items)
      (λ held. entries-with_items held items) h w.entities births here before

  remove-told : (id : ComponentId) → IsToldBy (after_remove id) (removed id)
  remove-told id h w births here before =
      components-told (λ held. finite.remove held id)
      (filter (λ item. not (eq_by_cmp component_cmp item.0 id)))
      (λ held. entries-remove component_cmp_total component_cmp-IsAntisymmetric held id) h
      w.entities births here before

  gone-told : IsToldBy after_despawn despawned
  gone-told h w births here before =
      changed h _ _ _ _ _ before here (λ e is. absurd (none-some e is))
      (λ g. finite.get-remove handle_cmp_total w.entities h g)
      (is_sorted-where_key birth_cmp (λ x. not (eq_by_cmp birth_cmp x (name h))) births
      before.rising) (λ b. find-without birth_cmp_total birth_cmp-IsAntisymmetric _ b _)

  module _ (system command : ℕ) where
    module _ (change : Handle → World → World) (change_alone : Birth → BirthMap → BirthMap)
        (is_told : IsToldBy change change_alone) where
      -- one handle
      entity-told : (h : Handle) (a : Applied) (b : AppliedAlone) → IsThere start h
          → AreAppliedTold a b
          → AreAppliedTold (on_entity system command change h a)
          (on_birth system command change_alone (name h) b)
      entity-told h a b here before =
          let same : is_some (find birth_cmp (name h) b.entities) ≡ lives_in a.world h =
          ap is_some (before.told.there h
          here) ∙ told_some (finite.get a.world.entities h) in
          grind (arith, common_steps, all_zipped_more, same, is_told h a.world b.entities)

      -- each of the handles in turn
      each-told : (hs : List Handle) (a : Applied) (b : AppliedAlone) → All (IsThere start) hs
          → AreAppliedTold a b
          → AreAppliedTold (on_each system command change hs a)
          (on_each_birth system command change_alone (map name hs) b)
      each-told [] a b there before = before
      each-told (h ∷ hs) a b there before = each-told hs _ _ (All-tail (IsThere start) h hs there)
          (entity-told h a b (All-head (IsThere start) h hs there) before)

    -- a command
    command-told : (c : Command) (d : BirthCommand) (a : Applied) (b : AppliedAlone)
        → IsNamedBy name start c d → AreAppliedTold a b
        → AreAppliedTold (after_command system command c a) (after_birth_command system command d b)
    command-told (Spawn h items) d a b is before =
        rw is.1 (search (rules, entity-told, insert-told))
    command-told (SpawnMany hs items) d a b is before =
        rw is.1 (search (rules, each-told, insert-told))
    command-told (Insert h items) d a b is before =
        rw is.1 (search (rules, entity-told, insert-told))
    command-told (Remove h id) d a b is before = rw is.1 (search (rules, entity-told, remove-told))
    command-told (Despawn h) d a b is before = rw is.1 (search (rules, entity-told, gone-told))
    command-told (Refused wanted why) d a b is before = absurd is

  -- the commands of a queue
  commands-told : (system command : ℕ) (q : List Command) (r : List BirthCommand) (a : Applied)
      (b : AppliedAlone) → AllZip (IsNamedBy name start) q r → AreAppliedTold a b
      → AreAppliedTold (after_commands system command q a) (after_birth_commands system command r b)
  commands-told system command (c ∷ q) (d ∷ r) a b are before = search
      (rules, command-told, commands-told system (command + 1) q r)
  commands-told _ _ _ _ a b are before = search rules

  -- one queue after the other
  queues-told : (system : ℕ) (queues : List (List Command)) (births : List (List BirthCommand))
      (a : Applied) (b : AppliedAlone) → AreNamedBy name start queues births → AreAppliedTold a b
      → AreAppliedTold (after_queues system queues a) (after_birth_queues system births b)
  queues-told system (q ∷ queues) (r ∷ births) a b are before = search
      (rules, commands-told, queues-told (system + 1) queues births)
  queues-told _ _ _ a b are before = search rules

-- ---- from what is named, and back

some_with : (o : Option Entity) (birth : Birth) → option_map (λ e. e.birth) o ≡ Some birth
    → (e : Entity) × ((o ≡ Some e) × (e.birth ≡ birth))
some_with None birth is = absurd (none-some birth is)
some_with (Some e) birth is = (e, (refl, same_Some e.birth birth is))

-- the entity with this birth
pub entity_with : (m : EntityMap) (h : Handle) (birth : Birth) → birth_of m h ≡ Some birth
    → (e : Entity) × ((finite.get m h ≡ Some e) × (e.birth ≡ birth))
entity_with m h birth is = some_with (finite.get m h) birth is

-- an entity that is there, by its name
pub birth_by_name : (name : Handle → Birth) (m : EntityMap) (h : Handle) → AreNames name m
    → IsThere m h → birth_of m h ≡ Some (name h)
birth_by_name name m h names there = grind (arith, common_steps)

-- the names of entities with births of their own are distinct
pub names_apart : (name : Handle → Birth) (m : EntityMap) (births : BirthMap) → AreNamed m births
    → AreNames name m → AreDistinct name m
names_apart name m births named names g h g_there h_there same = search
    (rules, birth_by_name name m g names g_there, birth_by_name name m h names h_there)

named_at_end : (start : EntityMap) (name : Handle → Birth) (m : EntityMap) (births : BirthMap)
    → AreDistinct name start → AreTold start name m births → AreNamed m births
named_at_end start name m births distinct after = record {
  rising = after.rising;
  there = λ h e is. grind (arith, common_steps, after.named h e is, after.there h, after.lived h);
  apart = λ g h birth g_is h_is. let one = entity_with m g birth g_is in
      let other = entity_with m h birth h_is in grind
      (arith, common_steps, after.named g, after.named h, after.lived g, after.lived h);
  only = search (rules, told_some, birth_by_name);
}

-- ---- the law

-- Births that are those of a world tell what queues do to it: the same entities under the same
-- births, and the same faults.
pub queues-named : (name : Handle → Birth) (system : ℕ) (queues : List (List Command))
    (births : List (List BirthCommand)) (a : Applied) (b : AppliedAlone) → AreNamedAfter name a b
    → AreNamedBy name a.world.entities queues births
    → AreNamedAfter name (after_queues system queues a) (after_birth_queues system births b)
queues-named name system queues births a b before are =
    let distinct = names_apart name a.world.entities b.entities before.entities before.names in
    let told : AreTold a.world.entities name a.world.entities b.entities =
    grind (arith, common_steps) in
    let after = queues-told a.world.entities name distinct system queues births a b are
    (record { told = told; faults = before.faults }) in
    search (rules, named_at_end)
