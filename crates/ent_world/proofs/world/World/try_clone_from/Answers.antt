use Rattle.ent_world.proofs.Common.{rules, ◌≢◌, refl, ◌<◌, ◌⊎◌, arith, Allocator, top, IsSound, inl}
use Rattle.ent_world.proofs.Common.{inr}
use Rattle.std.specs.FinMap as map
use Rattle.ent_world.proofs.Worlds.{room_copied, some_made}
use Rattle.ent_world.proofs.world.World.try_clone_from.Goals as goal

-- an allocator that has made or holds back more than another has made some slot
has_more : (s t : Allocator) (P : Type 0) → IsSound s
    → (t.made < s.made) ⊎ ((top t < top s) ⊎ ((0 < s.made) ⊎ P)) → (0 < s.made) ⊎ P
has_more s t P sound (inl more) = inl (omega arith)
has_more s t P sound (inr (inl more)) = inl (some_made s (top t) sound more)
has_more s t P sound (inr (inr other)) = other

pub invariant_of-self : goal.invariant_of-self
invariant_of-self c =
    let i = c.source.invariant in
    let s = c.source.inside.entities.allocator in
    let room =
    room_copied s s.made c.source.inside.storage.spare c.prepare.new.storage.spare i.world.sound
    refl i.room
    c.in-Ok.ensures.spare in
    search (rules, room, i, c.in-Ok.ensures, c.take_over.ensures)

pub returns-in-Err-clause-memory : goal.returns-in-Err-clause-memory
returns-in-Err-clause-memory c =
    let s = c.source.inside.entities.allocator in
    let more =
    has_more s c.of-prepared.result.entities.allocator
    (c.source.inside.storage.entities ≢ map.empty)
    c.source.invariant.world.sound c.in-Err.ensures.memory in
    search (rules, more, c.source.view_is)
