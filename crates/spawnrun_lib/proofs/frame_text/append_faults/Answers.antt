use Rattle.spawnrun_lib.proofs.Common.{rules, err_from_is_err_and, fault_line}
use Rattle.spawnrun_lib.proofs.Parts.{part_fits}
use Rattle.spawnrun_lib.proofs.frame_text.append_faults.Goals as goal

pub returns-in_err-append_fault-clause-full : goal.returns-in_err-append_fault-clause-full
returns-in_err-append_fault-clause-full c =
    search (
      rules,
      part_fits (fault_line c.args.show),
      err_from_is_err_and,
      c.in_err-append_fault.ensures.full,
    )
