use Rattle.ent_world.proofs.Common.{rules, ◌≡◌, ◌+◌, ◌<◌, ◌∙◌, ap, sym, arith, List, AllPairs}
use Rattle.ent_world.proofs.Common.{length, Handle, top, AreStored, World, allocator_of, image}
use Rattle.ent_world.proofs.Common.{HasImage, AreFramed, HaveAllocator, MayTakeMemory}
use Rattle.std.specs.FinMap as map
use Rattle.std.specs.FinSet as set
use Rattle.ent_world.proofs.ImageRead.{allocator_has, AreParts, told, memory_from_not, read_is}
use Rattle.ent_world.proofs.ImageRead.{refused_is, handed, living_keys, no_rows, stored_living}
use Rattle.ent_world.proofs.ImageRead.{rows_read, all_live, handed_on, slots_made, framed_by}
use Rattle.ent_world.proofs.ImageRead.{rising_apart}
use Rattle.ent_world.proofs.world.World.of_image.Goals.{In_ok-phase, In_ok-entities, In_ok-handles}
use Rattle.ent_world.proofs.world.World.of_image.Goals.{In_ok-storage}
use Rattle.ent_world.proofs.world.World.of_image.Goals as goal

-- what the bytes tell of a world whose image they are
told_of : (c : In_ok-phase) (w : World) → HasImage w → image w ≡ c.args.bytes.now
    → AreParts w c.in_ok-phase.phase c.in_ok-phase.part.now c.in_ok-phase.rest.now
told_of c w has is = search (rules, told)

-- its allocator was read
allocator_is : (c : In_ok-entities) (w : World) → HasImage w
    → AreParts w c.in_ok-phase.phase c.in_ok-phase.part.now c.in_ok-phase.rest.now
    → c.in_ok-entities.entities ≡ allocator_of w
allocator_is c w has parts = search (rules, read_is, c.in_ok-entities.ensures.exact, allocator_has)

pub returns-in_err-entities-clause-exact : goal.returns-in_err-entities-clause-exact
returns-in_err-entities-clause-exact c w has is =
    let parts = told_of (goal.at.returns-in_err-entities-clause-exact c).In_ok-phase w has is in
    let exact =
    c.in_err-entities.ensures.exact (allocator_of w) (allocator_has w has) parts.part_is in
    search (rules, handed, refused_is)

pub returns-in_err-handles-clause-exact : goal.returns-in_err-handles-clause-exact
returns-in_err-handles-clause-exact c w has is =
    let at = goal.at.returns-in_err-handles-clause-exact c in
    let e = allocator_is at.In_ok-entities w has (told_of at.In_ok-phase w has is) in
    search (rules, handed, memory_from_not, c.in_err-handles.ensures.rows)

-- the handles that were listed
lists : (c : In_ok-handles) → set.from_list c.in_ok-handles.handles.items
    ≡ c.in_ok-entities.entities.allocator.live
lists c = search rules

rising : (c : In_ok-handles) → AllPairs (λ g h. g.index < h.index) c.in_ok-handles.handles.items
rising c = rw c.in_ok-handles.ensures.items c.iter.ensures.rising

bare : (c : In_ok-handles) → c.in_ok-entities.entities.rows ≡ map.empty
bare c = search (rules, no_rows)

pub returns-in_err-storage-clause-exact : goal.returns-in_err-storage-clause-exact
returns-in_err-storage-clause-exact c w has is =
    let at = goal.at.returns-in_err-storage-clause-exact c in
    let parts = told_of at.In_ok-phase w has is in
    let e = allocator_is at.In_ok-entities w has parts in
    let same =
    living_keys w.entities _ (rising at.In_ok-handles) (rw e at (lists at.In_ok-handles))
    has.world.living
    ∙ sym c.deref.ensures.value in
    handed _ _ c.from_residual-in_err-storage.ensures.1
    (c.in_err-storage.ensures.refused w.entities (rw same at has.stored) (rw same at parts.rest_is))
    w

pub set_rows-requires-clause-living : goal.set_rows-requires-clause-living
set_rows-requires-clause-living c = search (rules, all_live, lists)

-- what was read of the entities
stored : (c : In_ok-storage)
    → AreStored c.in_ok-storage.storage.entities c.in_ok-handles.handles.items
stored c = search (rules, c.deref.ensures.value, c.in_ok-storage.ensures.stored)

pub invariant_of-result : goal.invariant_of-result
invariant_of-result c =
    let at = goal.at.invariant_of-result c in
    let entities = stored at.In_ok-storage in
    let places = c.in_ok-storage.ensures.places ∙ c.deref.ensures.value in
    record {
      world = rw c.set_rows.ensures.allocator (record {
        sound = c.in_ok-entities.ensures.has_image.sound;
        living = stored_living entities (lists at.In_ok-handles);
      });
      rows = rw (c.set_rows.ensures.rows, bare at.In_ok-handles, c.deref-2.ensures.value, places)
          (rows_read entities (rising at.In_ok-handles));
      room = rw c.set_rows.ensures.allocator
          (omega (
            arith,
            c.in_ok-storage.ensures.room,
            c.top.ensures,
            c.len.ensures,
            ap length c.deref.ensures.value,
          ));
    }

pub returns-clause-found : goal.returns-clause-found
returns-clause-found c =
    let at = goal.at.returns-clause-found c in
    let lives = stored_living (stored at.In_ok-storage) (lists at.In_ok-handles) in
    let keys = living_keys _ _ (rising at.In_ok-handles) (lists at.In_ok-handles) lives in
    search (rules, keys, bare at.In_ok-handles)

pub returns-clause-has_image : goal.returns-clause-has_image
returns-clause-has_image c =
    let at = goal.at.returns-clause-has_image c in
    let e = c.in_ok-entities in
    let allocator = c.set_rows.ensures.allocator in
    let entities = stored at.In_ok-storage in
    let lives = stored_living entities (lists at.In_ok-handles) in
    record {
      world = rw allocator (record { sound = e.ensures.has_image.sound; living = lives });
      asked = rw allocator e.ensures.has_image.asked;
      phase = c.in_ok-phase.ensures.phase;
      stored =
          rw (living_keys _ _ (rising at.In_ok-handles) (lists at.In_ok-handles) lives) entities;
    }

pub returns-clause-exact : goal.returns-clause-exact
returns-clause-exact c w has is =
    let at = goal.at.returns-clause-exact c in
    let parts = told_of at.In_ok-phase w has is in
    let e = allocator_is at.In_ok-entities w has parts in
    let same =
    living_keys w.entities _ (rising at.In_ok-handles) (rw e at (lists at.In_ok-handles))
    has.world.living
    ∙ sym c.deref.ensures.value in
    let entities =
    c.in_ok-storage.ensures.exact w.entities (rw same at has.stored)
    (rw same at parts.rest_is) in
    search (rules, parts.phase_is, e, entities)

-- ---- the first fault, and memory

abbrev parts_of : (c : In_ok-phase) → AreFramed c.args.bytes.now
parts_of c =
    framed_by c.args.bytes.now c.in_ok-phase.phase c.in_ok-phase.part.now c.in_ok-phase.rest.now
    c.in_ok-phase.ensures.phase c.in_ok-phase.ensures.fits c.in_ok-phase.ensures.found

pub returns-in_err-entities-clause-fault : goal.returns-in_err-entities-clause-fault
returns-in_err-entities-clause-fault c =
    let parts = parts_of (goal.at.returns-in_err-entities-clause-fault c).In_ok-phase in
    handed_on _ _ _ c.from_residual-in_err-entities.ensures.1
    (λ other. let fault = c.in_err-entities.ensures.fault other in
    rw fault.named (parts, fault.first))

pub returns-in_err-entities-clause-memory : goal.returns-in_err-entities-clause-memory
returns-in_err-entities-clause-memory c =
    let parts = parts_of (goal.at.returns-in_err-entities-clause-memory c).In_ok-phase in
    handed_on _ _ _ c.from_residual-in_err-entities.ensures.1 (λ is. record {
      parts = parts;
      faultless = c.in_err-entities.ensures.memory is;
      slots = c.in_err-entities.ensures.slots is;
    })

abbrev parts_in : (c : In_ok-entities) → AreFramed c.args.bytes.now
parts_in c =
    framed_by c.args.bytes.now c.in_ok-phase.phase c.in_ok-phase.part.now c.in_ok-phase.rest.now
    c.in_ok-phase.ensures.phase c.in_ok-phase.ensures.fits c.in_ok-phase.ensures.found

-- the allocator that was read, and its living handles
abbrev read_of : (c : In_ok-entities) (hs : List Handle) → AllPairs (λ g h. g.index < h.index) hs
    → set.from_list hs ≡ c.in_ok-entities.entities.allocator.live → HaveAllocator c.args.bytes.now
read_of c hs rises lives = record {
  parts = parts_in c;
  allocator = c.in_ok-entities.entities;
  has_image = c.in_ok-entities.ensures.has_image;
  part_is = c.in_ok-entities.ensures.found;
  handles = hs;
  rising = rises;
  living = lives;
}

-- it has slots, if one lives or waits
takes_memory : (c : In_ok-entities) (hs : List Handle)
    → set.from_list hs ≡ c.in_ok-entities.entities.allocator.live
    → 0 < length hs + top c.in_ok-entities.entities.allocator → MayTakeMemory c.args.bytes.now
takes_memory c hs lives some = record {
  parts = parts_in c;
  faultless = c.in_ok-entities.ensures.header;
  slots = rw (← c.in_ok-entities.ensures.found) (search (rules, slots_made));
}

pub returns-in_err-handles-clause-fault : goal.returns-in_err-handles-clause-fault
returns-in_err-handles-clause-fault c =
    let read = read_of (goal.at.returns-in_err-handles-clause-fault c).In_ok-entities c.iter.result
    c.iter.ensures.rising c.iter.ensures.living in
    handed_on _ _ _ c.from_residual-in_err-handles.ensures.1
    (λ other. let fault = c.in_err-handles.ensures.fault other in
    rw fault.named (read, fault.first))

pub returns-in_err-handles-clause-memory : goal.returns-in_err-handles-clause-memory
returns-in_err-handles-clause-memory c =
    let takes =
    takes_memory (goal.at.returns-in_err-handles-clause-memory c).In_ok-entities _
    c.iter.ensures.living in
    handed_on _ _ _ c.from_residual-in_err-handles.ensures.1
    (λ is. takes (omega (arith, c.in_err-handles.ensures.memory is)))

pub returns-in_err-storage-clause-fault : goal.returns-in_err-storage-clause-fault
returns-in_err-storage-clause-fault c =
    let at = goal.at.returns-in_err-storage-clause-fault c in
    let read = read_of at.In_ok-entities _ (rising at.In_ok-handles) (lists at.In_ok-handles) in
    handed_on _ _ _ c.from_residual-in_err-storage.ensures.1 (λ other.
    let fault = c.in_err-storage.ensures.fault other in
    rw fault.named (read, bare at.In_ok-handles, rw c.deref.ensures.value at fault.first))

pub returns-in_err-storage-clause-memory : goal.returns-in_err-storage-clause-memory
returns-in_err-storage-clause-memory c =
    let at = goal.at.returns-in_err-storage-clause-memory c in
    handed_on c.from_residual-in_err-storage.result c.in_err-storage.field-0.0 _
    c.from_residual-in_err-storage.ensures.1
    (λ is. takes_memory at.In_ok-entities c.in_ok-handles.handles.items
    (lists at.In_ok-handles)
    (omega (arith, c.in_err-storage.ensures.memory is, c.len.ensures, c.top.ensures)))

pub read_storage-requires-clause-apart : goal.read_storage-requires-clause-apart
read_storage-requires-clause-apart c = search (rules, rising_apart, rising)
