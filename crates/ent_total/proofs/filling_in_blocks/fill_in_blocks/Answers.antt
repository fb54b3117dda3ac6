use Rattle.ent_total.proofs.Common.{rules, ◌≡◌, sym}
use Rattle.ent_total.specs.InWorld.{view_in}
use Rattle.ent_total.proofs.filling_in_blocks.fill_in_blocks.Goals as goal

pub returns-clause-ok : goal.returns-clause-ok
returns-clause-ok g c =
    let view : c.view.result ≡ view_in c.args.phase.now.source = search rules in
    rw (c.new.ensures, sym view) c.in_ok-queues.ensures.ok
