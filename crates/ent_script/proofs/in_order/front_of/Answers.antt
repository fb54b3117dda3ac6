use Rattle.ent_script.proofs.Common.{◌≡◌, rules, the_lemmas, codes, array, put, heads, members_view}
use Rattle.ent_script.proofs.Cuts.{members_view-insert_entry}
use Rattle.ent_script.proofs.Tops.{heads-put, heading_of-heads}
use Rattle.ent_script.proofs.in_order.front_of.Goals as goal

pub returns-clause-heading : goal.returns-clause-heading
returns-clause-heading c old ds was =
    let all = put (codes "frames") (array ds) old in
    let inside : members_view c.insert.new.self.entries ≡ heads all =
    search (rules, members_view-insert_entry, heads-put, the_lemmas, was) in
    search (rules, the_lemmas, heading_of-heads all, inside)
