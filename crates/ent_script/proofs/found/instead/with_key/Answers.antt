use Rattle.ent_script.proofs.Fronts.{all_letters, next_letter}
use Rattle.ent_script.proofs.Common.{rules, IsUtf8-past_char, inline_text, key_char}
use Rattle.ent_script.proofs.found.instead.with_key.Goals as goal

pub loop-letter-preserved : goal.loop-letter-preserved
loop-letter-preserved c =
    search (
      rules,
      IsUtf8-past_char,
      next_letter,
      c.in-Some.ensures.steps.0,
      c.loop-letter.invariant.utf8,
      c.loop-letter.invariant.text,
    )

pub returns-clause-text : goal.returns-clause-text
returns-clause-text c =
    search (
      rules,
      all_letters key_char (inline_text c.loop-letter.shown),
      c.in-None.ensures.steps.0.0,
      c.loop-letter.invariant.text,
    )
