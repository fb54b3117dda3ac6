use Rattle.ent_script.proofs.Common.{append_assoc}
use Rattle.ent_script.proofs.Fronts.{front-more}
use Rattle.ent_script.proofs.found.instead.with_quoted.Goals as goal

pub returns-clause-text : goal.returns-clause-text
returns-clause-text c =
    simp (
      c.with_letter.ensures.text,
      c.with_key-shown.ensures.text,
      c.with_letter-shown.ensures.text,
      front-more,
      append_assoc,
    )
