-- What births alone tell, if no request of a frame was refused and its systems name no handle: what
-- a system issues by births is its queue with births in the place of handles, and a frame does to
-- births what it does to the world, on every number of workers.
use Rattle.spawnrun_lib.proofs.Common.{rules, ◌≡◌, refl, ap, ℕ, ◌+◌, arith, ℤ, List, [], ◌∷◌, ◌++◌}
use Rattle.spawnrun_lib.proofs.Common.{map, length, All, bound, OnEach, Bindings, names_after}
use Rattle.spawnrun_lib.proofs.Common.{IsTargeted, IsSpawn, IsSpawnMany, IsOfBirth, IssuesAll}
use Rattle.spawnrun_lib.proofs.Common.{AllZip, range_with_len, All-nil, All-cons, All-head}
use Rattle.spawnrun_lib.proofs.Common.{All-tail, Birth, ComponentId, Handle, All-left, All-right}
use Rattle.spawnrun_lib.proofs.Common.{ListsWith, EntityMap, Command, Spawn, SpawnMany, BirthMap}
use Rattle.spawnrun_lib.proofs.Common.{BirthCommand, IsThere, IsNamedBy, View, listed_by}
use Rattle.spawnrun_lib.proofs.Common.{handles_listed, Operation, Target, BirthBindings}
use Rattle.spawnrun_lib.proofs.Common.{births_from, with_binding, births_meant, issued_alone}
use Rattle.spawnrun_lib.proofs.Common.{IsNoHandle, NeedsNoHandle, IsGranted, entity_there, sym, ◌∙◌}
use Rattle.spawnrun_lib.proofs.Common.{suc, ◌^◌, ◌<◌, ◌≤◌, Some, is_some, unwrap_or, min-eq_left}
use Rattle.spawnrun_lib.proofs.Common.{length-append, length-map, All-weaker, All-contains_itself}
use Rattle.spawnrun_lib.proofs.Common.{IsPermutation-sym, IsPermutation-trans, length_permutation}
use Rattle.spawnrun_lib.proofs.Common.{none-some, component_cmp, Call, given_in-taken, Entity}
use Rattle.spawnrun_lib.proofs.Common.{birth_of, AreNamed, AreNames, AreNamedBy, AreBelow}
use Rattle.spawnrun_lib.proofs.Common.{AreListed, sync, after_births, World, IsWorld, IsFlushed}
use Rattle.spawnrun_lib.proofs.Common.{flushed-kept, after_queues-keeps, frame-named, queues_births}
use Rattle.spawnrun_lib.proofs.Common.{sync-below, listed-named, after_births-world}
use Rattle.spawnrun_lib.proofs.Common.{after_history-world, IsFrame, queue_at, reserved_by, view_of}
use Rattle.spawnrun_lib.proofs.Common.{listed-few, listed-enters, listed-new, unlisted-stays, Lists}
use Rattle.spawnrun_lib.proofs.Common.{listed-IsPermutation, listed-born, map_map_is, MayIssue}
use Rattle.spawnrun_lib.proofs.Common.{queues_alone, NamesNoHandle, AreGranted, IsFrameAlone}
use Rattle.spawnrun_lib.proofs.Common.{queues_by_births, slice_get, flat_map}
use Rattle.ent_world.specs.BirthsAlone as alone
use Rattle.ent_script.specs.declared.operation.Operation.TheVariants as operation
use Rattle.ent_script.specs.declared.target.Target.TheVariants as target
use Rattle.std.specs.FinMap as finite

-- ---- what is issued, if nothing is refused

spawn_is : (bundle : List (ComponentId × ℤ)) (issued : List Command) → IsSpawn bundle issued
    → All IsGranted issued → (h : Handle) × (issued ≡ Spawn h bundle ∷ [])
spawn_is bundle it is granted = search (rules, All-head)

many_is : (count : ℕ) (bundle : List (ComponentId × ℤ)) (issued : List Command)
    → IsSpawnMany count bundle issued → All IsGranted issued
    → (hs : List Handle) × ((issued ≡ SpawnMany hs bundle ∷ []) × (length hs ≡ count))
many_is count bundle it is granted = search (rules, All-head)

-- commands of which none lists a handle
none_listed : (command : Handle → Command) → ((h : Handle) → listed_by (command h) ≡ [])
    → (hs : List Handle) (rest : List Command)
    → handles_listed (map command hs ++ rest) ≡ handles_listed rest
none_listed command none [] rest = refl
none_listed command none (h ∷ hs) rest = search (rules, none_listed command none hs rest)

module _ (name : Handle → Birth) (m : EntityMap) where
  -- ---- commands and the same ones by births

  named_append : (xs ys : List Command) (bs cs : List BirthCommand)
      → AllZip (IsNamedBy name m) xs bs → AllZip (IsNamedBy name m) ys cs
      → AllZip (IsNamedBy name m) (xs ++ ys) (bs ++ cs)
  named_append [] ys [] cs first rest = rest
  named_append (x ∷ xs) ys (b ∷ bs) cs first rest = (first.0, named_append xs ys bs cs first.1 rest)
  named_append _ ys _ cs first rest = absurd first

  -- one command for each of these handles, which are all there
  named_each : (command : Handle → Command) (by_birth : Birth → BirthCommand)
      → ((h : Handle) → IsThere m h → IsNamedBy name m (command h) (by_birth (name h)))
      → (hs : List Handle) → All (IsThere m) hs
      → AllZip (IsNamedBy name m) (map command hs) (map by_birth (map name hs))
  named_each command by_birth same [] there = tt
  named_each command by_birth same (h ∷ hs) there =
      search (rules, All-head, All-tail, same, named_each command by_birth same hs)

  -- ---- what names stand for

  -- The names stand for handles that are there, and for the births of these.
  record StandFor (names : Bindings) (births : BirthBindings) : Type 0 where
    there : (n : ℕ) → All (IsThere m) (names n)
    are : (n : ℕ) → births n ≡ map name (names n)

  module _ (phase system : ℕ) where
    -- ---- births one after the other

    abbrev birth_at : ℕ → Birth
    birth_at k = record { frame = phase; system = system; ordinal = k }

    -- The handles are there, and have the births of the system from this ordinal on.
    abbrev pub AreInOrder : ℕ → List Handle → Type 0
    AreInOrder k [] = Unit {0}
    AreInOrder k (h ∷ hs) =
        IsThere m h × (name h ≡ record { frame = phase; system = system; ordinal = k })
        × AreInOrder (k + 1) hs

    -- in order, handles are there, with the births from that ordinal on, and those after them go on
    in_turn : (k i at : ℕ) → at ≡ k + i → (xs ys : List Handle) → AreInOrder at (xs ++ ys)
        → All (IsThere m) xs
        × (map (λ j. birth_at (k + j)) (range_with_len i (length xs)) ≡ map name xs)
        × AreInOrder (at + length xs) ys
    in_turn k i at is [] ys order = (All-nil (IsThere m), refl, search rules)
    in_turn k i at is (x ∷ xs) ys order =
        let rest = in_turn k (i + 1) (at + 1) (omega arith) xs ys order.2 in
        (All-cons (IsThere m) x xs order.0 rest.0, search (rules, is, order.1), search rules)

    -- ---- one system

    module _ (view : View) (births : BirthMap) (each : (id : ComponentId) (hs : List Handle)
        → ListsWith id view.entities hs
        → All (IsThere m) hs × (births_meant births (λ n. []) (target.Each id) ≡ map
        name hs)) (of_birth : (birth : Birth) (hs : List Handle) → IsOfBirth view birth hs
        → All (IsThere m) hs
        × (births_meant births (λ n. []) (target.Birth birth) ≡ map name hs)) where
      -- the births that a target means are those of the handles that it means
      meant : (names : Bindings) (bound : BirthBindings) → StandFor names bound → (on : Target)
          → IsNoHandle on → (hs : List Handle) → IsTargeted view names on hs
          → All (IsThere m) hs × (births_meant births bound on ≡ map name hs)
      meant names bound stand (target.Handle h) free hs are = absurd free
      meant names bound stand it free hs are = search (rules, each, of_birth)

      -- commands for a target, and the queue after them
      change_named : (k : ℕ) (names : Bindings) (bound : BirthBindings) → StandFor names bound
          → (on : Target) → IsNoHandle on
          → (command : Handle → Command) (by_birth : Birth → BirthCommand)
          → ((h : Handle) → listed_by (command h) ≡ [])
          → ((h : Handle) → IsThere m h → IsNamedBy name m (command h) (by_birth (name h)))
          → (queue first rest : List Command) → queue ≡ first ++ rest
          → OnEach view names on command first → AreInOrder k (handles_listed queue)
          → All IsGranted queue → (later : List BirthCommand)
          → (AreInOrder k (handles_listed rest) → All IsGranted rest
          → AllZip (IsNamedBy name m) rest later)
          → AllZip (IsNamedBy name m) queue (map by_birth (births_meant births bound on) ++ later)
      change_named k names bound stand on free command by_birth none same queue first rest is
          (hs, are, first_is) order
          granted later after =
          let means = meant names bound stand on free hs are in
          let listed = none_listed command none hs rest in
          rw (is, first_is, means.1)
          (named_append _ _ _ _ (named_each command by_birth same hs means.0)
          (after (rw listed at (rw (is, first_is) at order))
          (All-right IsGranted first rest (rw is at granted))))

      issued-named : (ops : List Operation) (k : ℕ) (names : Bindings) (bound : BirthBindings)
          (queue : List Command)
          → StandFor names bound → AreInOrder k (handles_listed queue) → All IsGranted queue
          → All NeedsNoHandle ops
          → IssuesAll view names ops queue → AllZip (IsNamedBy name m) queue
          (issued_alone births bound (record { frame = phase; system = system; ordinal = k }) ops)
      issued-named [] k names bound queue stand order granted free is = rw is tt
      issued-named (operation.Spawn bundle binds ∷ ops) k names bound queue stand order granted free
          (first, rest, is, may, others) =
          let all = rw is at granted in
          let one = spawn_is bundle first may (All-left IsGranted first rest all) in
          let (there, bs, on) =
          in_turn k 0 k (omega arith) (one.0 ∷ []) _ (rw (is, one.1) at order) in
          let after = issued-named ops (k + 1)
          (names_after names (operation.Spawn bundle binds) (Spawn one.0 bundle ∷ []))
          (with_binding binds (births_from (birth_at k) 1) bound) rest (search rules) on
          (All-right IsGranted first rest all) (All-tail NeedsNoHandle _ ops free)
          (rw one.1 at others) in
          rw (is, one.1)
          ((All-head (IsThere m) one.0 [] there, ap (λ b. alone.Spawn b bundle) bs), after)
      issued-named (operation.SpawnMany count bundle binds ∷ ops) k names bound queue stand order
          granted free
          (first, rest, is, may, others) =
          let all = rw is at granted in
          let (hs, are) = many_is count bundle first may (All-left IsGranted first rest all) in
          let (there, births, on) = in_turn k 0 k (omega arith) hs _ (rw (is, are.0) at order) in
          let bs : births_from (birth_at k) count ≡ map name hs = rw are.1 at births in
          let after = issued-named ops (k + count)
          (names_after names (operation.SpawnMany count bundle binds) (SpawnMany hs bundle ∷ []))
          (with_binding binds (births_from (birth_at k) count) bound) rest (search rules)
          (rw are.1 at on)
          (All-right IsGranted first rest all) (All-tail NeedsNoHandle _ ops free)
          (rw are.0 at others) in
          rw (is, are.0) ((there, ap (λ b. alone.Spawn b bundle) bs), after)
      issued-named (_ ∷ ops) k names bound queue stand order granted free
          (first, rest, is, may, others) =
          search
          (rules, change_named, All-head, All-tail, issued-named ops k names bound rest stand)

-- ---- a frame

-- no queue lists more handles than all queues together
each_few : (most : ℕ) (queues : List (List Command))
    → length (flat_map handles_listed queues) ≤ most
    → All (λ queue. length (handles_listed queue) ≤ most) queues
each_few most [] few = All-nil (λ queue. length (handles_listed queue) ≤ most)
each_few most (q ∷ queues) few = search (rules, length-append, each_few most queues, All-cons)

module _ (systems : List (List Operation)) (workers : ℕ) (w : World) (queues : List (List Command))
    (history : List Call) (view : BirthMap)
    (frame : IsFrame MayIssue systems workers w queues history)
    (is_world : IsWorld w) (flushed : w.allocator.asked ≡ 0) (named : AreNamed w.entities view)
    (below : AreBelow w.phase w.entities) (early : w.phase + 1 < 2 ^ 64)
    (free : All NamesNoHandle systems)
    (granted : AreGranted queues) where
  abbrev reserved : World
  reserved = reserved_by history w

  abbrev all_born : EntityMap
  all_born = (after_births queues reserved).entities

  is_reserved : IsWorld reserved
  is_reserved = after_history-world history w is_world

  -- the name of a handle is its birth, if it is there after the births
  name : Handle → Birth
  name h = unwrap_or (birth_of all_born h) (record { frame = 0; system = 0; ordinal = 0 })

  names : AreNames name all_born
  unfolding name
  names h e is = search rules

  -- who was there has not changed
  stays : (h : Handle) (e : Entity) → finite.get w.entities h ≡ Some e
      → finite.get all_born h ≡ Some e
  stays h e is =
      unlisted-stays _ _ _ _ _ _ frame is_world.sound flushed h
      (λ listed.
      search (
        rules,
        none-some,
        listed-new _ _ _ _ _ _ frame is_world.sound flushed is_world.living
            listed.0 listed.1 h listed.3,
      )) ∙ is

  old_names : AreNames name w.entities
  old_names h e is = names h e (stays h e is)

  old_there : (h : Handle) → IsThere w.entities h → IsThere all_born h
  old_there h there = search (rules, entity_there, stays)

  abbrev HasBirth : ℕ → ℕ → Handle → Type 0
  HasBirth system k h =
      IsThere all_born h × (name h ≡ record { frame = w.phase; system = system; ordinal = k })

  -- a handle that a queue lists is there, with the birth of its position
  placed : (system k : ℕ) (h : Handle) → Lists queues system k h → HasBirth system k h
  placed system k h at =
      search (rules, names, listed-enters _ _ _ _ _ _ frame is_world.sound flushed system k h at)

  in_order : (system k : ℕ) (hs : List Handle)
      → ((j n : ℕ) (h : Handle) → n ≡ k + j → slice_get hs j ≡ Some h → HasBirth system n h)
      → AreInOrder name all_born w.phase system k hs
  in_order system k [] at = tt
  in_order system k (h ∷ hs) at =
      search (
        rules,
        at 0 k h (omega arith) refl,
        in_order system (k + 1) hs (λ j n g is. at (suc j) n g (omega (arith, is))),
      )

  -- the entities of an `each`, in the order of births
  each_named : (id : ComponentId) (hs : List Handle) → ListsWith id w.entities hs
      → All (IsThere all_born) hs × (births_meant view (λ n. []) (target.Each id) ≡ map name hs)
  each_named id hs lists =
      let all =
      listed-named name w.entities view named old_names
      (λ e. finite.contains_key e.components id)
      (λ items. is_some (finite.find component_cmp id items))
      (λ e. ap is_some (finite.get-entries e.components id))
      hs lists in (
        search (rules, All-weaker, old_there, All-contains_itself, lists.holds),
        rw (← all) (map_map_is (λ entity. entity.0) _ hs),
      )

  -- the entity of a birth
  birth_named : (birth : Birth) (hs : List Handle) → IsOfBirth (view_of w) birth hs
      → All (IsThere all_born) hs × (births_meant view (λ n. []) (target.Birth birth) ≡ map name hs)
  birth_named birth it of =
      search (rules, entity_there, old_names, named.there, All-cons, old_there, All-nil, named.only)

  -- each system's queue, from a system on
  all_named : (system : ℕ) (qs : List (List Command)) (ss : List (List Operation))
      → length qs ≡ length ss → All NamesNoHandle ss → All (All IsGranted) qs
      → ((n : ℕ) (ops : List Operation) → slice_get ss n ≡ Some ops
      → MayIssue ops (view_of w) (queue_at qs n)) → ((n k number : ℕ) (h : Handle)
      → number ≡ system + n → Lists qs n k h → HasBirth number k h)
      → AreNamedBy name all_born qs (queues_alone w.phase system view ss)
  all_named system [] [] same free granted may at = tt
  all_named system (q ∷ qs) (ops ∷ ss) same free granted may at =
      let order =
      in_order system 0 (handles_listed q) (λ j n h is. let own : n ≡ j = omega (arith, is) in
      rw own (at 0 j system h (omega arith))) in
      let later = all_named (system + 1) qs ss (omega arith) (All-tail NamesNoHandle ops ss free)
      (All-tail (All IsGranted) q qs granted) (λ n. may (suc n))
      (λ n k number h is. at (suc n) k number h (omega
      (arith, is))) in
      search (
        rules,
        All-head,
        All-nil,
        later,
        order,
        may 0 ops refl,
        issued-named name all_born w.phase system (view_of w) view each_named birth_named ops 0
            (λ n. []) (λ n. []),
      )
  all_named system _ _ same free granted may at = absurd (omega arith)

  are_named : AreNamedBy name all_born queues (queues_by_births w view systems)
  are_named = all_named 0 queues systems frame.count free granted frame.each_system
      (λ n k number h is at. search (rules, arith, placed n k h at, is))

  -- the queues list just what is reserved, each handle once
  are_listed : AreListed queues reserved.allocator
  are_listed =
      let few = listed-few _ _ _ _ _ _ frame is_world.sound flushed in
      let ordinals = each_few (2 ^ 32) queues (omega arith) in
      search (
        rules,
        IsPermutation-sym,
        ordinals,
        IsPermutation-trans,
        listed-IsPermutation,
        given_in-taken,
      )

  -- ---- the world after it

  synced : IsFlushed (sync queues reserved).world
  synced =
      search (
        rules,
        after_births-world queues reserved is_reserved,
        after_queues-keeps,
        IsFlushed,
        flushed-kept,
      )

  next_number : (sync queues reserved).world.phase ≡ w.phase + 1
  next_number = search (rules, after_queues-keeps (λ w'. w'.phase ≡ w.phase + 1), min-eq_left)

  pub frame-alone : IsFrameAlone w queues history systems view
  frame-alone = record {
    name = name;
    after = search (rules, frame-named, is_reserved, are_listed, name, names, are_named);
    born_are = length_permutation _ _ (listed-born _ _ _ _ _ _ frame is_world.sound flushed)
        ∙ sym (length-map _ name) ∙ ap length
        (sym (search (rules, queues_births, name, are_named)));
    world = record { sound = synced.sound; living = synced.living };
    flushed = synced.asked;
    phase = next_number;
    below = rw next_number (sync-below queues reserved below);
  }
