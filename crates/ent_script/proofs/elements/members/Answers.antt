use Rattle.std.proofs.Common.{rules}
use Rattle.ent_script.proofs.Common.{as_object, view}
use Rattle.ent_script.proofs.Values.{members_seen}
use Rattle.ent_script.proofs.elements.members.Goals as goal

pub returns : goal.returns
returns c = search (rules, members_seen, as_object, view)
