use Rattle.ent_script.proofs.Common.{◌∙◌}
use Rattle.ent_script.proofs.Values.{keys_lent}
use Rattle.ent_script.proofs.elements.are_keys_among.Goals as goal

pub returns : goal.returns
returns c = c.are_among.ensures ∙ keys_lent c.args.members.now.entries c.args.allowed.now
