use Rattle.spawnrun_lib.proofs.OneCourse.{one_report}
use Rattle.spawnrun_lib.proofs.Common.{rules, IfOk-weaker}
use Rattle.spawnrun_lib.proofs.GivenOnce.{given_once}
use Rattle.spawnrun_lib.proofs.TextsAlone.{enough_text, same_text}
use Rattle.spawnrun_lib.proofs.script_run.run_script.Goals as goal

pub returns-clause-only : goal.returns-clause-only
returns-clause-only g c alone =
    IfOk-weaker c.report-report.result _ _
    (λ text is other also. one_report c.args.script c.args.show text other (rw alone at is)
    (rw alone at also)) c.report-report.ensures

pub returns-clause-given_once : goal.returns-clause-given_once
returns-clause-given_once g c = search (rules, IfOk-weaker, given_once)

pub returns-clause-same : goal.returns-clause-same
returns-clause-same g c births free =
    IfOk-weaker c.report-report.result _ _
    (λ text is. same_text c.args.script c.args.workers text c.requires.ranges
    (rw births at is) free) c.report-report.ensures

pub returns-clause-enough : goal.returns-clause-enough
returns-clause-enough g c births free enough =
    IfOk-weaker c.report-report.result _ _
    (λ text is. enough_text c.args.script c.args.workers text c.requires.ranges
    (rw births at is) free enough) c.report-report.ensures
