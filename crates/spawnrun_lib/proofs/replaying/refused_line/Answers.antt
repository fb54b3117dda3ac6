use Rattle.spawnrun_lib.proofs.Common.{append_assoc}
use Rattle.spawnrun_lib.proofs.replaying.refused_line.Goals as goal

pub returns : goal.returns
returns c =
    let text = c.in_ok-text.ensures.ok in
    let bytes = c.into_bytes.ensures.value in
    let cause = c.text-cause.ensures in
    simp append_assoc (cc)
