use Rattle.ent_blocks.proofs.Common.{rules, ◌∙◌, dealt}
use Rattle.ent_blocks.proofs.Dealers.{opened, all_fresh, last_fresh, others_fresh}
use Rattle.ent_blocks.proofs.overflow.opening.open_with_overflow.Goals as goal

pub deal-requires : goal.deal-requires
deal-requires c =
    last_fresh _ _ _ _ c.in-Some.ensures.items
    (all_fresh _ _ _ _ c.in_ok-shared.ensures.shared.0 c.in_ok-shared.ensures.reservers
    c.in_ok-shared.ensures.own c.in_ok-shared.ensures.unused)

pub hand_out-requires-clause-phase : goal.hand_out-requires-clause-phase
hand_out-requires-clause-phase c =
    opened c.args.entities.allocator c.args.sizes.now _ _ _ _ c.requires.flushed
    c.in_ok-shared.ensures.sound (search rules) (search rules) (search rules) (search rules)
    c.deal.ensures.of (search rules) c.deal.ensures.dealt c.deal.ensures.mark

pub hand_out-requires-clause-fresh : goal.hand_out-requires-clause-fresh
hand_out-requires-clause-fresh c =
    others_fresh _ _ _ _ c.in-Some.ensures.items
    (all_fresh _ _ _ _ c.in_ok-shared.ensures.shared.0 c.in_ok-shared.ensures.reservers
    c.in_ok-shared.ensures.own c.in_ok-shared.ensures.unused)

pub new-requires-clause-phase : goal.new-requires-clause-phase
new-requires-clause-phase c =
    let is = c.deref-2.ensures.value ∙ c.in-Ok.ensures.blocks in
    let phase =
    opened _ _ _ _ _ _ c.requires.flushed c.in_ok-shared.ensures.sound
    c.in_ok-shared.ensures.shared.0
    c.in_ok-shared.ensures.shared.1 is (search rules) c.deal.ensures.of (search rules)
    c.deal.ensures.dealt
    c.deal.ensures.mark in
    search rules
