use Rattle.ent_script.proofs.Fronts.{decimal-printable, passes, three}
use Rattle.spawnrun_lib.proofs.Common.{rules, ◌≡◌, ℕ, ◌++◌, List, sym, subst, codes, decimal}
use Rattle.spawnrun_lib.proofs.Common.{inline_text, ArePrintable}
use Rattle.spawnrun_lib.proofs.schedule.schedule_found.Goals as goal

framed : (shown number : List ℕ) → ArePrintable shown → ArePrintable number
    → ArePrintable (codes "; found \"" ++ shown ++ codes "\" at line " ++ number
    ++ codes " (counted from 1)")
framed shown number s n = search (rules, three, passes)

pub returns-clause-printable : goal.returns-clause-printable
returns-clause-printable c =
    let shown = inline_text c.bytes_shown-shown.result in
    let is : inline_text c.with.result ≡ codes "; found \"" ++ shown ++ codes "\" at line "
    ++ decimal c.args.line ++ codes " (counted from 1)" = search rules in
    subst ArePrintable (sym is)
    (framed shown (decimal c.args.line) c.bytes_shown-shown.ensures.printable
    (decimal-printable c.args.line c.ranges.line.fits))
