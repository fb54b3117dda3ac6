-- What a recorder is after its logs were lent.
use Rattle.std.specs.Prelude.{List}
use Rattle.std.specs.Borrow.{Array, Fml, Lends, MutBor}
use Rattle.std.specs.Vec.{with_items}
use Rattle.ent_replay.specs.Logs.{Log}
use Rattle.ent_replay.specs.contracts.trace.log.Log as log
use Rattle.ent_replay.specs.contracts.trace.recorder.Recorder.{the_row}
use Rattle.ent_replay.specs.declared.trace.recorder.Recorder.{Recorder}

abbrev pub with_logs : Recorder → List Log → Recorder
with_logs recorder logs = record recorder { logs = with_items recorder.logs logs }

-- it ends with the logs that the borrow leaves
abbrev pub LendsLogs : MutBor Recorder → MutBor (List Log) → Fml
LendsLogs recorder lent = Lends the_row (Array log.the_row 0) recorder lent (with_logs recorder.now)
