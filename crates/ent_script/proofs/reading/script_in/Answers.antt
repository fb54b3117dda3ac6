use Rattle.ent_script.proofs.Common.{◌≡◌, Option, codes, map, rules, Data, get, view, numbered}
use Rattle.ent_script.proofs.Common.{component_at, component_names, in_script, IsFront, ReadFault}
use Rattle.ent_script.proofs.Whole.{passes_on, passes_from_list, returned, no_names, names_meant}
use Rattle.ent_script.proofs.Whole.{names_refused, script_is}
use Rattle.ent_script.proofs.reading.script_in.Goals.{After-deref}
use Rattle.ent_script.proofs.reading.script_in.Goals as goal

abbrev Part : Data → Option Data
Part d = get (codes "components") d

-- the names are those that the text means
same_names : (c : After-deref) (d : Data) → IsFront c.args.front d
    → in_script
    (numbered (component_at (map view c.deref.result.now)) 0 (map view c.deref.result.now))
    ≡ in_script (component_names (Part d))
same_names c d is = search (rules, names_meant)

pub returns-in_err-values : goal.returns-in_err-values
returns-in_err-values c d e said =
    let found = said.components in
    search (rules, names_refused d c.args.front.heading, no_names, found, said.heading)

pub returns-in_err-components : goal.returns-in_err-components
returns-in_err-components c d e said =
    let same = same_names (goal.at.returns-in_err-components c).After-deref d said in
    let refused = λ (e : ReadFault). names_refused d c.args.front.heading e said.heading in
    search (rules, same, refused, passes_on, returned)

pub returns-in_err-frames : goal.returns-in_err-frames
returns-in_err-frames c d e said =
    let same = same_names (goal.at.returns-in_err-frames c).After-deref d said in
    let is = script_is d c.args.front.heading c.in_ok-components.components said.heading in
    search (rules, same, is, passes_from_list, returned)

pub returns : goal.returns
returns c d e said =
    let same = same_names (goal.at.returns c).After-deref d said in
    let is = script_is d c.args.front.heading c.in_ok-components.components said.heading in
    search (rules, same, is)
