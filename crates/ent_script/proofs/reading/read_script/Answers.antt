use Rattle.ent_script.proofs.Common.{rules, ℕ, List, Err, ReadFault, IsUtf8, ReadsAs, Script, Share}
use Rattle.ent_script.proofs.Common.{ap, arith}
use Rattle.ent_script.specs.Front.{ReadsFront}
use Rattle.ent_script.specs.Reading.{script_of_text}
use Rattle.ent_script.proofs.Whole.{heading_refused, returned}
use Rattle.ent_script.proofs.Texts.{json_is}
use Rattle.ent_script.proofs.Ranges.{script_in}
use Rattle.ent_script.proofs.Shares.{whole_script}
use Rattle.ent_script.proofs.reading.read_script.Goals as goal

refused : (it : ReadFault) (text : List ℕ) → IsUtf8 text → ReadsFront (Err it) text
    → ReadsAs {A = Script} (Err it) (script_of_text text)
refused it text utf8 front = search (rules, json_is, heading_refused)

pub returns-in-Ok-script_of_share-clause-exact : goal.returns-in-Ok-script_of_share-clause-exact
returns-in-Ok-script_of_share-clause-exact g c =
    let means = c.in-Ok-script_of_share.ensures in
    let whole = whole_script c.all.result (ap Share.first c.all.ensures)
    (search (rules, c.all.ensures)) (search (rules, arith, c.all.ensures)) means.value in
    search (rules, json_is, whole, means)

pub returns-in-Ok-script_of_share-clause-ranges : goal.returns-in-Ok-script_of_share-clause-ranges
returns-in-Ok-script_of_share-clause-ranges g c =
    let means = c.in-Ok-script_of_share.ensures in
    let whole = whole_script c.all.result (ap Share.first c.all.ensures)
    (search (rules, c.all.ensures)) (search (rules, arith, c.all.ensures)) means.value in
    rw (rw whole at means.means) at (script_in means.value)

pub returns-in_err-front-clause-exact : goal.returns-in_err-front-clause-exact
returns-in_err-front-clause-exact g c = search (rules, refused, returned)
