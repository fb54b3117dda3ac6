use Rattle.ent_script.proofs.Common.{common_steps, ◌≡◌, [], arith, value}
use Rattle.ent_script.proofs.Finding.{no_token}
use Rattle.ent_script.proofs.streaming.begins_array.Goals as goal

pub returns-in_err-token-clause-value : goal.returns-in_err-token-clause-value
returns-in_err-token-clause-value c d rest e =
    let empty : c.args.reader.now ≡ [] = grind arith in no_token c.args.depth rest d (rw empty at e)

pub returns-then-depth-eq0-clause-passes : goal.returns-then-depth-eq0-clause-passes
unfolding value
returns-then-depth-eq0-clause-passes c = grind (arith, common_steps)
