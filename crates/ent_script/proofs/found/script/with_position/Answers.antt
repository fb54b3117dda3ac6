use Rattle.ent_script.proofs.Common.{rules, arith, ◌≡◌, ◌++◌, List, ℕ, append_assoc, refl}
use Rattle.ent_script.proofs.Common.{common_steps}
use Rattle.ent_script.proofs.Fronts.{added}
use Rattle.ent_script.proofs.found.script.with_position.Goals as goal

seven : (s a b c d e f g : List ℕ)
    → s ++ a ++ b ++ c ++ d ++ e ++ f ++ g ≡ s ++ (a ++ b ++ c ++ d ++ e ++ f ++ g)
seven s a b c d e f g = simp append_assoc refl

pub returns-in-Frame-clause-printable : goal.returns-in-Frame-clause-printable
returns-in-Frame-clause-printable c = search (rules, added)

pub returns-in-System-clause-printable : goal.returns-in-System-clause-printable
returns-in-System-clause-printable c = search (rules, added)

pub returns-in-Operation-clause-text : goal.returns-in-Operation-clause-text
returns-in-Operation-clause-text c = grind (arith, common_steps, seven)

pub returns-in-Operation-clause-printable : goal.returns-in-Operation-clause-printable
returns-in-Operation-clause-printable c = search (rules, added)
