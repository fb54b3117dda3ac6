use Rattle.ent_world.proofs.Common.{rules, ◌≡◌, sym, ap, ◌∙◌, ℕ, length, drop, arith}
use Rattle.ent_world.proofs.Common.{length_permutation, born, born-IsPermutation, born-lives}
use Rattle.ent_world.proofs.Common.{IsWorld, birth_in, with_born, first_birth, drop_at, AreRows}
use Rattle.ent_world.proofs.Common.{Birth, Handle, born-apart}
use Rattle.ent_world.proofs.Born.{born-new, births_given, distinct}
use Rattle.ent_world.proofs.PlacedRows.{rows-born, rows-count, born-fit}
use Rattle.ent_world.proofs.Worlds.{room-after_flush, after_births-world}
use Rattle.ent_world.proofs.world.World.bring_to_life.Goals.{After-len-first, After-deref}
use Rattle.ent_world.proofs.world.World.bring_to_life.Goals.{After-enter_all, After-number_others}
use Rattle.ent_world.proofs.world.World.bring_to_life.Goals as goal

-- the first that is born has the next place
next_place : (c : After-len-first) → c.len-first.result ≡ length c.self.inside.storage.places
next_place c = c.len-first.ensures
    ∙ rows-count c.self.inside.entities.allocator c.self.invariant.rows
    c.self.invariant.world.living

-- what the flush lists is what is born
are_born : (c : After-deref) → c.deref.result.now ≡ born c.self.inside.entities.allocator
are_born c = search (rules)

pub enter_all-requires-clause-new : goal.enter_all-requires-clause-new
enter_all-requires-clause-new c = search (rules, are_born, born-new)

pub enter_all-requires-clause-room : goal.enter_all-requires-clause-room
enter_all-requires-clause-room c = search (rules, length_permutation, born-IsPermutation, are_born)

pub enter_all-requires-clause-living : goal.enter_all-requires-clause-living
enter_all-requires-clause-living c = search (rules, are_born, born-lives)

pub enter_all-requires-clause-fits : goal.enter_all-requires-clause-fits
enter_all-requires-clause-fits c =
    let at = goal.at.enter_all-requires-clause-fits c in
    let all = ap length (are_born at.After-deref) in
    let fit = born-fit c.self.inside.entities.allocator c.self.invariant.world.sound
    c.self.invariant.world.living c.self.invariant.rows in
    omega (arith, all, next_place at.After-len-first, fit)

-- those that are born stand after the others, and have their places as rows
placed : (c : After-enter_all) (birth : Handle → Birth) → AreRows c.enter_all.new.entities.rows
    c.enter_all.new.storage.places
    (with_born c.self.inside.storage.entities birth (born c.self.inside.entities.allocator))
placed c birth =
    let i = c.self.invariant in
    let s = c.self.inside.entities.allocator in
    let rows = rows-born birth (born s) i.rows (born-new s _ i.world.sound i.world.living) in
    search (rules, next_place, rows)

pub name_listed-requires-clause-rows : goal.name_listed-requires-clause-rows
name_listed-requires-clause-rows c =
    (placed (goal.at.name_listed-requires-clause-rows c).After-enter_all (λ _. first_birth 0 0)).at

-- they stand from the first place on
stand : (c : After-enter_all) → drop c.len-first.result c.enter_all.new.storage.places
    ≡ c.deref.result.now
stand c = rw next_place (search (rules, drop_at))

pub number_others-requires : goal.number_others-requires
number_others-requires c = search (rules, stand)

-- all that are born have their births
entered : (c : After-number_others)
    → drop c.len-first.result c.enter_all.new.storage.places ≡ c.deref.result.now
    → c.number_others.new.storage.entities
    ≡ with_born c.self.inside.storage.entities
    (birth_in c.self.inside.phase c.args.queues.now (born c.self.inside.entities.allocator))
    (born c.self.inside.entities.allocator)
entered c stand_there =
    let s = c.self.inside.entities.allocator in
    let are : c.deref.result.now ≡ born s = search (rules, are_born) in
    let again : c.deref-2.result.now ≡ born s = search (rules, are) in
    let given =
    births_given c.self.inside.storage.entities c.self.inside.phase c.args.queues.now (born s)
    (distinct (born s) (born-apart s c.self.invariant.world.sound)) c.requires in
    rw (c.number_others.ensures.numbered, c.name_listed.ensures.named, c.enter_all.ensures.entered)
    (rw (c.reserve_births.ensures.entities, stand_there, again, are) given)

-- the map after all entered has those that live
risen : (c : After-number_others) → (phase : ℕ) → c.number_others.new.storage.entities
    ≡ with_born c.self.inside.storage.entities (birth_in c.self.inside.phase c.args.queues.now
    (born c.self.inside.entities.allocator)) (born c.self.inside.entities.allocator)
    → IsWorld (record {
      allocator = c.enter_all.new.entities.allocator;
      phase = phase;
      entities = c.number_others.new.storage.entities;
    })
risen c phase all =
    let is = after_births-world c.args.queues.now _ c.self.invariant.world in
    rw (all, c.enter_all.ensures.allocator, c.in_ok-flush.ensures.ok)
    (record { sound = is.sound; living = is.living })

pub invariant_of-self-2 : goal.invariant_of-self-2
invariant_of-self-2 c =
    let at = goal.at.invariant_of-self-2 c in
    let s = c.self.inside.entities.allocator in
    let i = c.self.invariant in
    let all = entered at.After-number_others (stand at.After-enter_all) in
    let long = ap length (are_born at.After-deref) in
    let same = length_permutation s.taken (born s) (born-IsPermutation s) in
    record {
      world = risen at.After-number_others c.saturating_add-self-inside.result all;
      rows =
          rw (c.number_others.ensures.places, c.name_listed.ensures.places, all)
          (placed at.After-enter_all _);
      -- there is room for each that waits still
      room =
          rw (c.enter_all.ensures.allocator, c.in_ok-flush.ensures.ok)
          (room-after_flush s c.reserve_births.new.storage.spare c.number_others.new.storage.spare
          i.world.sound (omega (arith, c.reserve_births.ensures.grows, i.room))
          (omega (
            arith,
            c.enter_all.ensures.spare,
            c.name_listed.ensures.spare,
            c.number_others.ensures.spare,
          )));
    }

pub returns-clause-ok : goal.returns-clause-ok
returns-clause-ok c =
    let at = goal.at.returns-clause-ok c in
    let all = entered at.After-number_others (stand at.After-enter_all) in
    search (rules, all, c.enter_all.ensures.allocator, c.in_ok-flush.ensures.ok)

pub returns-clause-world : goal.returns-clause-world
returns-clause-world c = search (rules, risen, entered, stand)
