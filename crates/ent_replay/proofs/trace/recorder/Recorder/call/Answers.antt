use Rattle.ent_replay.proofs.Common.{rules}
use Rattle.ent_replay.proofs.Recorded.{TakesAll-append}
use Rattle.ent_replay.proofs.trace.recorder.Recorder.call.Goals as goal

pub returns-clause-takes : goal.returns-clause-takes
returns-clause-takes c = let recorder = c.args.self.now in search (rules, TakesAll-append)
