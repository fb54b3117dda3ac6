use Rattle.ent_script.proofs.Common.{◌≡◌, [], arith}
use Rattle.ent_script.proofs.Finding.{no_token}
use Rattle.ent_script.proofs.streaming.begins_object.Goals as goal

pub returns-in_err-token-clause-value : goal.returns-in_err-token-clause-value
returns-in_err-token-clause-value c d rest e =
    let empty : c.args.reader.now ≡ [] = grind arith in no_token c.args.depth rest d (rw empty at e)
