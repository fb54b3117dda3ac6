use Rattle.ent_queue.proofs.Common.{refl, Logs, output_of, reserver_of}
use Rattle.ent_queue.proofs.Extending.{extends_called, called_log_spawn}
use Rattle.ent_queue.proofs.logging.Commands+Log+C+S.spawn.Goals as goal

pub returns-clause-extends : goal.returns-clause-extends
returns-clause-extends g c =
    let s = c.spawn_from.ensures in
    extends_called Logs _ _ c.args.self.now _ refl refl s.stays
    (called_log_spawn _ (output_of c.args.self.now) c.spawn_from.new.self
    (reserver_of c.args.self.now)
    c.spawn_from.new.reserver c.spawn_from.result s.ok s.refused s.memory s.replies)
