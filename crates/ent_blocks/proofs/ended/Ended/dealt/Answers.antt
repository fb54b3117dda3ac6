use Rattle.ent_blocks.proofs.Common.{◌<◌, ◌^◌, length, arith, common_steps}
use Rattle.ent_blocks.proofs.ended.Ended.dealt.Goals as goal

pub dealt-requires : goal.dealt-requires
dealt-requires c =
    let s = c.self.inside.entities.allocator in
    let few : length s.pool < 2 ^ 32 = grind (arith, common_steps, c.self.invariant.sound) in
    rw c.deref.ensures.value (omega (arith, c.self.invariant.within, few))
