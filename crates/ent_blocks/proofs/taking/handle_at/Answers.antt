use Rattle.ent_blocks.proofs.Common.{arith, ints}
use Rattle.ent_blocks.proofs.Positions.{one_there}
use Rattle.ent_blocks.proofs.taking.handle_at.Goals as goal

pub returns : goal.returns
returns c =
    one_there _ c.cursor.ensures.sound c.requires.flushed _ _ (omega (arith, ints)) _
    c.requires.within c.reply_one.ensures c.in-Ok.handle c.in-Ok.is
