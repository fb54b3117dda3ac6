use Rattle.ent_queue.proofs.Common.{refl, Issues, output_of, reserver_of}
use Rattle.ent_queue.proofs.Queues.{inserts}
use Rattle.ent_queue.proofs.Extending.{extends_called, called_nones, inserts_request_nothing}
use Rattle.ent_queue.proofs.issuing.Commands+CommandQueue+S.insert_each.Goals as goal

pub returns-clause-extends : goal.returns-clause-extends
returns-clause-extends g c =
    extends_called Issues _ _ c.args.self.now _ refl refl c.requires
    (called_nones _ (output_of c.args.self.now) c.insert_each.new.self (reserver_of c.args.self.now)
    (reserver_of c.args.self.now) (inserts c.items.result.now c.args.handles.now)
    c.insert_each.result (inserts_request_nothing c.items.result.now c.args.handles.now)
    c.insert_each.ensures.ok c.insert_each.ensures.err refl)
