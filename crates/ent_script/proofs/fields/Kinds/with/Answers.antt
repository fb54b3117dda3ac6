use Rattle.ent_script.proofs.Common.{rules}
use Rattle.ent_script.proofs.Keyed.{with_key}
use Rattle.ent_script.proofs.fields.Kinds.«with».Goals as goal

pub returns : goal.returns
returns c key d ms are of_key = search (rules, with_key, are, of_key)
