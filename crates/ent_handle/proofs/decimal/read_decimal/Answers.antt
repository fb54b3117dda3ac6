use Rattle.std.proofs.Common.{rules}
use Rattle.ent_handle.proofs.Decimals.{number_of_none, number_from_value, number_found, number_only}
use Rattle.ent_handle.proofs.Decimals.{number_shape, number_range}
use Rattle.ent_handle.proofs.decimal.read_decimal.Goals as goal

pub returns : goal.returns
returns c = search (rules, number_from_value, number_found, number_only, number_shape, number_range)

pub returns-then-not-is_decimal : goal.returns-then-not-is_decimal
returns-then-not-is_decimal c =
    search (rules, number_of_none, number_only, number_shape, number_range)
