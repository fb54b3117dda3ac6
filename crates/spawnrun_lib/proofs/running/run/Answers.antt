use Rattle.spawnrun_lib.proofs.Common.{rules, ◌∙◌, ap, sym, script_of_text}
use Rattle.spawnrun_lib.proofs.running.run.Goals as goal

pub returns-in_ok-report-in-Ok : goal.returns-in_ok-report-in-Ok
returns-in_ok-report-in-Ok g c =
    let report = c.in_ok-report-in-Ok.ensures in (
      c.in-Ok.script,
      ap script_of_text (sym c.deref.ensures.value) ∙ c.in-Ok.ensures.exact,
      search rules,
    )
