use Rattle.ent_blocks.proofs.Common.{rules, ◌≡◌, ◌∙◌, ap, arith, length, AreDealt, AreLaid, All, Block}
use Rattle.ent_blocks.proofs.Common.{blocks_of, length-map}
use Rattle.ent_blocks.proofs.Accounts.{among_itself, own_of}
use Rattle.ent_blocks.proofs.Dealing.{are_dealt, length-from, none_used}
use Rattle.ent_blocks.proofs.opening.open_in_blocks.Goals.{In-Ok-parts_of}
use Rattle.ent_blocks.proofs.opening.open_in_blocks.Goals as goal

dealt : (c : In-Ok-parts_of) → AreDealt c.args.entities.allocator c.in-Ok-parts_of.parts.items
dealt c =
    let blocks = c.in-Ok-parts_of.ensures.blocks in
    rw blocks
    (are_dealt c.args.entities.allocator c.args.sizes.now c.cursor-top.ensures.sound c.requires.flushed
    (rw blocks at c.in-Ok-parts_of.ensures.few))

many : (c : In-Ok-parts_of) → length c.in-Ok-parts_of.parts.items ≡ length c.args.sizes.now
many c = ap length c.in-Ok-parts_of.ensures.blocks ∙ length-from _ _ _

pub hand_out-requires-clause-unused : goal.hand_out-requires-clause-unused
hand_out-requires-clause-unused c =
    let laid = (dealt (goal.at.hand_out-requires-clause-unused c).In-Ok-parts_of).laid in
    rw c.deref.ensures.value
    (λ k d less. none_used 0 k c.in-Ok-parts_of.parts.items d laid less)

pub hand_out-requires-clause-room : goal.hand_out-requires-clause-room
hand_out-requires-clause-room c =
    omega (
      arith,
      many (goal.at.hand_out-requires-clause-room c).In-Ok-parts_of,
      c.in-Ok.ensures.capacity,
    )

pub new-requires-clause-dealt : goal.new-requires-clause-dealt
new-requires-clause-dealt c = dealt (goal.at.new-requires-clause-dealt c).In-Ok-parts_of

pub new-requires-clause-room : goal.new-requires-clause-room
new-requires-clause-room c =
    omega (
      arith,
      many (goal.at.new-requires-clause-room c).In-Ok-parts_of,
      c.in-Ok-with_capacity.ensures.capacity,
    )

pub returns-clause-own : goal.returns-clause-own
returns-clause-own c =
    rw c.new.ensures
    (own_of (record {
      start = c.args.entities.allocator;
      rows = c.args.entities.rows;
      blocks = c.in-Ok-parts_of.parts.items;
    }) c.hand_out.new.reservers.items
    (dealt (goal.at.returns-clause-own c).In-Ok-parts_of).laid
    (c.hand_out.ensures.reservers ∙ c.deref.ensures.value))

pub returns-clause-many : goal.returns-clause-many
returns-clause-many c =
    let m = many (goal.at.returns-clause-many c).In-Ok-parts_of in
    let h = c.hand_out.ensures.reservers in
    search (rules, m, h, length-map)

pub returns-clause-among : goal.returns-clause-among
returns-clause-among c = search (rules, among_itself)
