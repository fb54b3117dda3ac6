use Rattle.ent_script.proofs.Common.{rules, ◌∷◌, ◌++◌, [], arith, common_steps, All-push}
use Rattle.ent_script.proofs.Common.{inline_text, ArePrintable}
use Rattle.ent_script.proofs.Fronts.{cut_is_front, front-printable, length-front}
use Rattle.ent_script.proofs.found.shown.with_letter.Goals as goal

printable : (c : goal.After-bytes-2-1)
    → ArePrintable (inline_text c.args.shown ++ c.args.letter ∷ [])
printable c = search (rules, All-push)

pub returns-clause-text : goal.returns-clause-text
returns-clause-text c = grind (arith, common_steps, cut_is_front, printable)

pub returns-clause-printable : goal.returns-clause-printable
returns-clause-printable c = search (rules, returns-clause-text c, front-printable, printable)

pub returns-clause-short : goal.returns-clause-short
returns-clause-short c = search (rules, returns-clause-text c, length-front)
