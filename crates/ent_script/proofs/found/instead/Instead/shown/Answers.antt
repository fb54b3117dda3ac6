use Rattle.ent_script.proofs.Fronts.{decimal-printable, from_nothing, more_text, passes}
use Rattle.ent_script.proofs.Fronts.{two_pieces}
use Rattle.ent_script.proofs.Common.{IfSome_then, rules, ◌++◌, refl, codes, decimal, inline_text}
use Rattle.ent_script.proofs.Common.{quoted, plain}
use Rattle.ent_script.proofs.found.instead.Instead.shown.Goals as goal

pub returns-in-Absent-clause-text : goal.returns-in-Absent-clause-text
returns-in-Absent-clause-text c = rw c.in-Absent.is (record {
  text = codes "none";
  spells = refl;
  is = search (rules, from_nothing, more_text, passes);
})

pub returns-in-Twice-clause-text : goal.returns-in-Twice-clause-text
returns-in-Twice-clause-text c = rw c.in-Twice.is (record {
  text = quoted c.in-Twice.name.now ++ codes " twice";
  spells = refl;
  is = search (rules, from_nothing, two_pieces, more_text, passes);
})

pub returns-in-Long-clause-text : goal.returns-in-Long-clause-text
returns-in-Long-clause-text c =
    let number = more_text _ _ _ (decimal-printable c.in-Long.count (search rules))
    (rw c.format.ensures.text at c.with_text-shown-in-Long.ensures.text) in
    rw c.in-Long.is (record {
      text = decimal c.in-Long.count ++ codes " elements";
      spells = refl;
      is = search (rules, from_nothing, two_pieces, more_text, number, passes);
    })

pub returns-in-Member-clause-text : goal.returns-in-Member-clause-text
returns-in-Member-clause-text c =
    let nothing = inline_text c.new-nothing.result in
    let name = c.in-Member.key.now in
    rw c.in-Member.is
    (IfSome_then c.with_json-in-Member.result c.with_json-in-Member.ensures.text
    (λ shown h. record {
      text = quoted name ++ codes ":" ++ plain h.0;
      spells = (h.0, h.1, refl);
      is = search (rules, from_nothing, two_pieces nothing, more_text, passes);
    }))
