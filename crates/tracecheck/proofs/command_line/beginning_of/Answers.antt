use Rattle.tracecheck.proofs.Common.{◌∙◌, List, ℕ, Option, None, Some, is_some, codes, sym, ap}
use Rattle.tracecheck.proofs.Common.{◌&&◌, found_of, given, has_limits}
use Rattle.tracecheck.proofs.Beginnings.{text-rows}
use Rattle.tracecheck.proofs.command_line.beginning_of.Goals as goal

pub returns-in-None-clause-asked : goal.returns-in-None-clause-asked
returns-in-None-clause-asked c = (
  text-rows (found_of c.args.options.now) (codes "from") c.get_str.ensures c.in-None.is,
  (c.limits_of.ensures.slots, c.limits_of.ensures.generations, c.limits_of.ensures.within),
)

pub returns-in-None-clause-one : goal.returns-in-None-clause-one
returns-in-None-clause-one c =
    ap (λ (name : Option (List ℕ)). is_some name && has_limits (given c.args.options.now))
    (text-rows (found_of c.args.options.now) (codes "from") c.get_str.ensures c.in-None.is)

pub returns-in-Some-clause-both : goal.returns-in-Some-clause-both
returns-in-Some-clause-both c =
    ap (λ (name : Option (List ℕ)). is_some name && has_limits (given c.args.options.now))
    (text-rows (found_of c.args.options.now) (codes "from") c.get_str.ensures c.in-Some.is)
    ∙ (sym c.has_limits.ensures ∙ c.if-has_limits.true)

pub returns-in-Some-2-clause-asked : goal.returns-in-Some-2-clause-asked
returns-in-Some-2-clause-asked c = (
  ap is_some
      (text-rows (found_of c.args.options.now) (codes "from") c.get_str.ensures c.in-Some.is),
  sym c.has_limits.ensures ∙ c.if-has_limits.false,
)
