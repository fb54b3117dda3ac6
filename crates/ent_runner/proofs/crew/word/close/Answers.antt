use Rattle.ent_runner.proofs.Steps.{ends}
use Rattle.ent_runner.proofs.crew.word.close.Goals as goal

pub returns : goal.returns
returns c = let f = c.close_with.ensures.values.2 in
    ends _ _ f.0 f.1.0 c.args.all.id c.args.all.me.0 f.1.1
