-- The lemmas that close goals without an answer: the prover tries them together at each such goal
-- of this crate.
use Rattle.std.proofs.lemmas.Grind.{common_steps}
use Rattle.std.proofs.Common.{append_assoc}
use Rattle.tracecheck.proofs.Beginnings.{rows_asked, source-rows, generations-given, slots-given}
use Rattle.tracecheck.proofs.Taking.{without_return-other, without_return-return, HasTaken-call}
use Rattle.tracecheck.proofs.Taking.{HasTaken-none, agrees_in_all, differs_at_end}

pub ruleset laws = (
  common_steps,
  HasTaken-call,
  HasTaken-none,
  agrees_in_all,
  append_assoc,
  differs_at_end,
  generations-given,
  rows_asked,
  slots-given,
  source-rows,
  without_return-other,
  without_return-return,
)
