use Rattle.ent_script.proofs.Common.{append_assoc}
use Rattle.ent_script.proofs.Fronts.{front-more}
use Rattle.ent_script.proofs.found.shown.with_unit.Goals as goal

pub returns-clause-text : goal.returns-clause-text
returns-clause-text c = simp (
  c.with_digit.ensures.text,
  c.with_digit-shown-3.ensures.text,
  c.with_digit-shown-2.ensures.text,
  c.with_digit-shown.ensures.text,
  c.with_letter-shown-2.ensures.text,
  c.with_letter-shown.ensures.text,
  front-more,
  append_assoc,
)
