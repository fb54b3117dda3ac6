use Rattle.ent_world.proofs.Common.{rules, ◌+◌, ◌*◌, ◌≤◌, arith, ℕ, zero, suc, without_rows, width}
use Rattle.ent_world.proofs.ImageRead.{appended_4, allocator_len, width_listed, have_rows}
use Rattle.ent_world.proofs.ImageRead.{keys_listed, are_stored}
use Rattle.ent_world.proofs.world.World.write_image.Goals as goal

pub write_entities-requires-clause-placed : goal.write_entities-requires-clause-placed
write_entities-requires-clause-placed c = search (rules, have_rows)

pub returns-clause-written : goal.returns-clause-written
returns-clause-written c =
    let i = c.self.invariant in
    let len = allocator_len (without_rows c.self.inside.entities) in
    let keys =
    keys_listed i.rows i.world.living c.iter.result c.iter.ensures.rising
    c.iter.ensures.living in
    let wide =
    width_listed i.rows i.world.living c.iter.result c.iter.ensures.rising
    c.iter.ensures.living in
    search (rules, len, keys, wide, appended_4)

pub returns-clause-has_image : goal.returns-clause-has_image
returns-clause-has_image c =
    let i = c.self.invariant in
    let stored =
    are_stored i.rows i.world.living c.iter.result c.iter.ensures.rising c.iter.ensures.living
    c.width-width.result c.width-width.ensures.most c.width-width.ensures.within
    c.write_entities.ensures.births
    c.write_entities.ensures.values in
    search (rules, stored, c.self.view_is, c.write_image_without_rows.ensures.has_image.asked)

-- an entity has at most 2320 bytes
many : (n width : ℕ) → width ≤ 256 → n * (16 + 9 * width) ≤ 2320 * n
many zero width few = omega arith
many (suc n) width few = let rest = many n width few in omega (arith, rest, few)

pub returns-in_err-reserve-clause-memory : goal.returns-in_err-reserve-clause-memory
returns-in_err-reserve-clause-memory c = search (rules, many)
