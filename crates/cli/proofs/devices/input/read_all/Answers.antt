use Rattle.std.proofs.Common.{◌++◌, take, refl, arith}
use Rattle.std.proofs.lemmas.Grind.{common_steps}
use Rattle.cli.proofs.TakenInSteps.{Consumes-append, TakesAtMost-Takes}
use Rattle.cli.proofs.devices.input.read_all.Goals as goal

-- the piece that passes the limit brings one byte more than there was room for
pub returns-then-count-room-clause-stops : goal.returns-then-count-room-clause-stops
returns-then-count-room-clause-stops g c = λ _. (
  c.loop.bytes.items ++ take c.in_ok-count.count c.take.new.buffer,
  grind (arith, common_steps),
  Consumes-append _ _ _ _ _ c.loop.invariant.taken c.in_ok-count.ensures.bytes,
)

pub returns-then-count-room-clause-at_most : goal.returns-then-count-room-clause-at_most
returns-then-count-room-clause-at_most g c = λ _. TakesAtMost-Takes _ _ _
    (returns-then-count-room-clause-stops g c refl)

pub returns-in_err-extend_from_slice-clause-at_most :
    goal.returns-in_err-extend_from_slice-clause-at_most
returns-in_err-extend_from_slice-clause-at_most g c = λ _. (
  c.loop.bytes.items ++ take c.in_ok-count.count c.take.new.buffer,
  grind (arith, common_steps),
  Consumes-append _ _ _ _ _ c.loop.invariant.taken c.in_ok-count.ensures.bytes,
)
