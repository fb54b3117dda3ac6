use Rattle.ent_blocks.proofs.Common.{◌≡◌, ◌∙◌, [], ◌∷◌, ◌++◌, ap, arith, length, length-append}
use Rattle.ent_blocks.proofs.Common.{All-push, after_meeting, unused, Overflow, Caller, IsCallerOf}
use Rattle.ent_blocks.proofs.Common.{rules}
use Rattle.ent_blocks.proofs.Dealers.{of_block, unused_of_block, last_fresh, others_fresh}
use Rattle.ent_blocks.proofs.Dealers.{blocks_more}
use Rattle.ent_blocks.specs.Overflow.{IsUnused}
use Rattle.ent_blocks.proofs.overflow.opening.hand_out.Goals as goal

pub meet-requires-clause-first : goal.meet-requires-clause-first
meet-requires-clause-first c =
    (last_fresh _ _ _ _ c.in-Some.ensures.items c.loop-part.invariant.fresh).of

pub loop-part-preserved : goal.loop-part-preserved
loop-part-preserved c =
    let i = c.loop-part.invariant in
    let p : Overflow =
    record {
      shared = c.args.shared.now;
      dealer = c.args.dealer.now;
      blocks = c.args.parts.now;
    } in
    let front = c.in-Some.ensures.items in
    let fresh = last_fresh c.args.shared.now _ _ _ front i.fresh in
    let met : c.meet.new.a ≡ record c.in-Some.past
    { own = after_meeting c.in-Some.past.own c.args.dealer.now.own } =
    search (rules, i.dealer) in
    let more : Caller = record { block = unused c.part-item.result; past = c.meet.new.a } in
    let next : c.push_reserved.new.self.items ≡ c.loop-part.callers.items ++ more ∷ [] =
    search rules in
    let laid = c.requires.phase.lie.laid in
    let lt = c.loop-part-test.true in
    let of = of_block p laid _ _ lt c.part-item.is _ _ fresh c.meet.ensures.first met in
    let is_unused =
    unused_of_block p laid _ _ lt c.part-item.is _ _ fresh c.meet.ensures.first met in
    record {
      dealer = c.meet.ensures.met ∙ i.dealer;
      blocks = blocks_more _ _ _ _ _ _ laid lt c.part-item.is next i.blocks;
      own = rw next (All-push (IsCallerOf p) _ _ i.own of);
      unused = rw next (All-push IsUnused _ _ i.unused is_unused);
      fresh = others_fresh _ _ _ _ front i.fresh;
      left =
          omega (
            arith,
            ap length front,
            length-append c.pop.new.self.items (c.in-Some.past ∷ []),
            i.left,
          );
      len = omega arith;
      room = omega arith;
    }
