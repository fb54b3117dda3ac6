use Rattle.ent_blocks.proofs.Common.{◌≡◌, ◌+◌, drop, dealt}
use Rattle.ent_blocks.proofs.part.dealt.Given as goal

abbrev pub invariant-loop-part : goal.invariant-loop-part
invariant-loop-part l = l.count + dealt (drop l.part-index l.parts) ≡ dealt l.parts
