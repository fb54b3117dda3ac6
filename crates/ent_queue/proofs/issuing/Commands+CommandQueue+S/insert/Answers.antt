use Rattle.ent_queue.proofs.Common.{refl, Insert, Issues, output_of, reserver_of}
use Rattle.ent_queue.proofs.Extending.{extends_called, called_none}
use Rattle.ent_queue.proofs.issuing.Commands+CommandQueue+S.insert.Goals as goal

pub returns-clause-extends : goal.returns-clause-extends
returns-clause-extends g c =
    extends_called Issues _ _ c.args.self.now _ refl refl c.requires
    (called_none _ (output_of c.args.self.now) c.insert.new.self (reserver_of c.args.self.now)
    (reserver_of c.args.self.now) (Insert c.args.handle c.items.result.now) c.insert.result refl
    c.insert.ensures.ok c.insert.ensures.err refl)
