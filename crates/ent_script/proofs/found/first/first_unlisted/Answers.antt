use Rattle.ent_script.proofs.Common.{is_listed, rules, true, false, view, is_text}
use Rattle.ent_script.proofs.Firsts.{next_key}
use Rattle.ent_script.proofs.found.first.first_unlisted.Goals as goal

-- a key that is not listed
pub returns-then-not-is_listed : goal.returns-then-not-is_listed
returns-then-not-is_listed c =
    search (
      rules,
      c.as_str-then-not-is_listed.ensures.value,
      c.loop-key.invariant,
      next_key is_text view c.args.listed.now _ (c.in-Some.key.now, c.in-Some._value.now) _
          c.as_str.result.now false c.in-Some.ensures.steps c.as_str.ensures.value,
      c.is_listed.ensures,
      c.if-not-is_listed.true,
    )

-- one that is
pub loop-key-preserved : goal.loop-key-preserved
loop-key-preserved c =
    search (
      rules,
      c.loop-key.invariant,
      next_key is_text view c.args.listed.now _ (c.in-Some.key.now, c.in-Some._value.now) _
          c.as_str.result.now true c.in-Some.ensures.steps c.as_str.ensures.value,
      c.is_listed.ensures,
      c.if-not-is_listed.false,
    )
