use Rattle.ent_queue.proofs.Common.{refl, Issues, output_of, reserver_of}
use Rattle.ent_queue.proofs.Extending.{extends_called, called_spawn}
use Rattle.ent_queue.proofs.issuing.Commands+CommandQueue+S.spawn.Goals as goal

pub returns-clause-extends : goal.returns-clause-extends
returns-clause-extends g c =
    let s = c.spawn.ensures in
    extends_called Issues _ _ c.args.self.now _ refl refl s.stays
    (called_spawn _ (output_of c.args.self.now) c.spawn.new.self (reserver_of c.args.self.now)
    c.spawn.new.reserver
    c.items.result.now c.spawn.result s.ok s.refused s.memory s.replies)
