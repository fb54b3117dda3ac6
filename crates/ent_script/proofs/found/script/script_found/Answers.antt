use Rattle.ent_script.proofs.Common.{rules, ◌≡◌, ◌++◌, List, [], ℕ, codes, All-nil, ArePrintable}
use Rattle.ent_script.proofs.Fronts.{added, both}
use Rattle.ent_script.proofs.found.script.script_found.Goals as goal

-- the words before what is found
begun : (empty words : List ℕ) → empty ≡ [] → words ≡ empty ++ codes "; found "
    → ArePrintable words
begun empty words none is = search (rules, added, All-nil)

pub returns-in-Some-clause-printable : goal.returns-in-Some-clause-printable
returns-in-Some-clause-printable c = search (rules, begun, both)

pub returns-in-None-clause-printable : goal.returns-in-None-clause-printable
returns-in-None-clause-printable c = search (rules, begun, added)
