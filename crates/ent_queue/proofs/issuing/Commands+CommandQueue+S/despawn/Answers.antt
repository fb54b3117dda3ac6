use Rattle.ent_queue.proofs.Common.{refl, Despawn, Issues, output_of, reserver_of}
use Rattle.ent_queue.proofs.Extending.{extends_called, called_none}
use Rattle.ent_queue.proofs.issuing.Commands+CommandQueue+S.despawn.Goals as goal

pub returns-clause-extends : goal.returns-clause-extends
returns-clause-extends g c =
    extends_called Issues _ _ c.args.self.now _ refl refl c.requires
    (called_none _ (output_of c.args.self.now) c.despawn.new.self (reserver_of c.args.self.now)
    (reserver_of c.args.self.now) (Despawn c.args.handle) c.despawn.result refl c.despawn.ensures.ok
    c.despawn.ensures.err refl)
