use Rattle.std.proofs.Common.{rules, arith, ◌+◌}
use Rattle.std.proofs.lemmas.Grind.{common_steps}
use Rattle.std.proofs.lemmas.List.{take_all}
use Rattle.ent_handle.proofs.Decimals.{value_more, value_least}
use Rattle.ent_handle.proofs.decimal.decimal_value.Goals as goal

pub returns-in_err-checked_mul-clause-in_range : goal.returns-in_err-checked_mul-clause-in_range
returns-in_err-checked_mul-clause-in_range c =
    let more =
    value_more c.args.bytes.now c.loop-byte.byte-index c.requires
    (omega (arith, c.loop-byte-test.true)) in
    let least = value_least c.args.bytes.now (c.loop-byte.byte-index + 1) in
    grind (arith, common_steps, more, least)

pub returns-in_err-value-clause-in_range : goal.returns-in_err-value-clause-in_range
returns-in_err-value-clause-in_range c = grind (arith, common_steps, value_more, value_least)

pub loop-byte-preserved : goal.loop-byte-preserved
loop-byte-preserved c = grind (arith, common_steps, value_more)

pub returns-clause-in_range : goal.returns-clause-in_range
returns-clause-in_range c = search (rules, take_all)
