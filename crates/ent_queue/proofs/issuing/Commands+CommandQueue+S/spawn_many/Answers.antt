use Rattle.ent_queue.proofs.Common.{refl, Issues, output_of, reserver_of}
use Rattle.ent_queue.proofs.Extending.{extends_called, called_many}
use Rattle.ent_queue.proofs.issuing.Commands+CommandQueue+S.spawn_many.Goals as goal

pub returns-clause-extends : goal.returns-clause-extends
returns-clause-extends g c =
    let s = c.spawn_many.ensures in
    extends_called Issues _ _ c.args.self.now _ refl refl s.stays
    (called_many _ (output_of c.args.self.now) c.spawn_many.new.self (reserver_of c.args.self.now)
    c.spawn_many.new.reserver c.args.n c.items.result.now c.spawn_many.result s.ok s.refused
    s.memory s.replies s.length)
