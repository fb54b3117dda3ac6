use Rattle.ent_total.proofs.Common.{rules}
use Rattle.ent_total.proofs.Unused.{nothing-reserved}
use Rattle.ent_total.proofs.sharing.share.Goals as goal

pub returns-in-Err-begin-clause-handed_back : goal.returns-in-Err-begin-clause-handed_back
returns-in-Err-begin-clause-handed_back g c = search (rules, nothing-reserved)
