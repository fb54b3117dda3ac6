use Rattle.ent_script.proofs.Common.{rules, true, false, is_listed}
use Rattle.ent_script.proofs.Firsts.{next_name}
use Rattle.ent_script.proofs.found.first.bad_name.Goals as goal

-- a name that an earlier value is
pub returns-then-is_listed : goal.returns-then-is_listed
returns-then-is_listed c = search (
  rules,
  c.loop-number.invariant,
  next_name c.args.list.now c.loop-number.number c.index-list-number.result c.in-Some.text.now true
      c.loop-number-test.true c.index-list-number.is,
  c.name.ensures,
  c.in-Some.is,
  c.is_listed.ensures,
  c.if-is_listed.true,
)

-- a new name
pub loop-number-preserved : goal.loop-number-preserved
loop-number-preserved c = search (
  rules,
  c.loop-number.invariant,
  next_name c.args.list.now c.loop-number.number c.index-list-number.result c.in-Some.text.now false
      c.loop-number-test.true c.index-list-number.is,
  c.name.ensures,
  c.in-Some.is,
  c.is_listed.ensures,
  c.if-is_listed.false,
)
