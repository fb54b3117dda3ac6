use Rattle.ent_queue.proofs.Common.{refl, Remove, Issues, output_of, reserver_of}
use Rattle.ent_queue.proofs.Extending.{extends_called, called_none}
use Rattle.ent_queue.proofs.issuing.Commands+CommandQueue+S.remove.Goals as goal

pub returns-clause-extends : goal.returns-clause-extends
returns-clause-extends g c =
    extends_called Issues _ _ c.args.self.now _ refl refl c.requires
    (called_none _ (output_of c.args.self.now) c.remove.new.self (reserver_of c.args.self.now)
    (reserver_of c.args.self.now) (Remove c.args.handle c.args.id) c.remove.result refl
    c.remove.ensures.ok c.remove.ensures.err refl)
