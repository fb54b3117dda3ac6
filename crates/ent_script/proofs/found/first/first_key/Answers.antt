use Rattle.ent_script.proofs.Common.{is_among, rules, true, false, ℕ, List, Bor, bytes_eq}
use Rattle.ent_script.proofs.Firsts.{next_key}
use Rattle.ent_script.proofs.found.first.first_key.Goals as goal

-- a key that is not known
pub returns-then-not-is_among : goal.returns-then-not-is_among
returns-then-not-is_among c =
    search (
      rules,
      c.as_str-then-not-is_among.ensures.value,
      c.loop-key.invariant,
      next_key bytes_eq (λ (key : Bor (List ℕ)). key.now) c.args.known.now _
          (c.in-Some.key.now, c.in-Some._value.now) _ c.as_str.result.now false c.in-Some.ensures.steps
          c.as_str.ensures.value,
      c.is_among.ensures,
      c.if-not-is_among.true,
    )

-- one that is
pub loop-key-preserved : goal.loop-key-preserved
loop-key-preserved c =
    search (
      rules,
      c.loop-key.invariant,
      next_key bytes_eq (λ (key : Bor (List ℕ)). key.now) c.args.known.now _
          (c.in-Some.key.now, c.in-Some._value.now) _ c.as_str.result.now true c.in-Some.ensures.steps
          c.as_str.ensures.value,
      c.is_among.ensures,
      c.if-not-is_among.false,
    )
