use Rattle.ent_runner.proofs.Common.{rules}
use Rattle.ent_runner.proofs.NoSystems.{applies_none}
use Rattle.ent_runner.proofs.frame.without_systems.Goals as goal

pub unwrap-sync-requires : goal.unwrap-sync-requires
unwrap-sync-requires c =
    let a = c.apply.ensures in
    applies_none c.apply.result c.args.world.now c.apply.new.self c.requires.flushed a.world
    a.flush_memory
    a.flush_reserved (search rules)
