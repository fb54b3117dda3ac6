use Rattle.ent_queue.proofs.Common.{refl, Logs, output_of, reserver_of}
use Rattle.ent_queue.proofs.Extending.{extends_called, called_push}
use Rattle.ent_queue.proofs.logging.Commands+Log+C+S.push.Goals as goal

pub returns-clause-extends : goal.returns-clause-extends
returns-clause-extends g c =
    extends_called Logs _ _ c.args.self.now _ refl refl c.requires
    (called_push _ (output_of c.args.self.now) c.push.new.self (reserver_of c.args.self.now)
    (reserver_of c.args.self.now) c.args.command c.push.result c.push.ensures.ok c.push.ensures.err
    refl)
