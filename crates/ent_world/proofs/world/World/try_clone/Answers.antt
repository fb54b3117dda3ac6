use Rattle.ent_world.proofs.Common.{rules}
use Rattle.ent_world.proofs.Worlds.{room_copied}
use Rattle.ent_world.proofs.world.World.try_clone.Goals as goal

pub invariant_of-result : goal.invariant_of-result
invariant_of-result c =
    let i = c.self.invariant in
    let room =
    room_copied c.self.inside.entities.allocator c.total.result c.self.inside.storage.spare
    c.in_ok-copied.field-0.spare i.world.sound c.total.ensures i.room
    c.in_ok-copied.ensures.spare in
    search (rules, room, i, c.in_ok-try_clone.ensures.ok, c.in_ok-copied.ensures)
