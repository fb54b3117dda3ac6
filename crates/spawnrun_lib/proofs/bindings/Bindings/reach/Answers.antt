use Rattle.spawnrun_lib.proofs.Common.{map-append}
use Rattle.spawnrun_lib.proofs.SystemRunning.{names_added}
use Rattle.spawnrun_lib.proofs.bindings.Bindings.reach.Goals as goal

pub loop-self-preserved : goal.loop-self-preserved
loop-self-preserved c =
    rw (c.in_ok-push.ensures.items, map-append, c.new.ensures.items, names_added)
    c.loop-self.invariant
