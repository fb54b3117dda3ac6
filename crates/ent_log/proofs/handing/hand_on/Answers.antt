use Rattle.std.proofs.Common.{◌≡◌, Ok, rules, of_calls}
use Rattle.ent_log.proofs.InTurn.{went_on, went_wrong, none_left}
use Rattle.ent_log.proofs.handing.hand_on.Goals as goal

pub returns-in-Err-clause-fails : goal.returns-in-Err-clause-fails
returns-in-Err-clause-fails g c =
    went_wrong (goal.F-step g) _ _ _ _ _ _ _ _ _ _ _ _ c.loop-next.invariant.taken c.in-Some-next.is
    c.run.ensures c.in-Err.is

pub loop-next-preserved : goal.loop-next-preserved
loop-next-preserved g c =
    let e = c.take_next-next-in-Some-next.ensures in
    let ok : c.run.result ≡ Ok tt = search rules in
    record {
      callable = search of_calls;
      front = search rules;
      taken =
          went_on (goal.F-step g) _ _ _ _ _ _ _ _ _ tt _ _ _ _ c.loop-next.invariant.taken
          c.in-Some-next.is c.run.ensures ok e.first e.none e.done;
      done = none_left _ _ e.done;
    }
