use Rattle.ent_script.proofs.Common.{common_steps, value-begin_object, ◌≡◌, ◌∷◌, refl, ap, ◌∙◌}
use Rattle.ent_script.proofs.Common.{arith, rules, None, Token, value, object, as_object}
use Rattle.ent_script.proofs.Common.{the_lemmas, heading_of}
use Rattle.ent_script.proofs.Finding.{no_object_at}
use Rattle.ent_script.proofs.Openings.{passed_nested}
use Rattle.ent_script.proofs.Turns.{if_ok, converted-object}
use Rattle.ent_script.proofs.Tops.{heading_of-heads, no_heading, no_member}
use Rattle.ent_script.proofs.top.read_top.Goals as goal

pub returns-then-depth-eq0-clause-json : goal.returns-then-depth-eq0-clause-json
unfolding value
returns-then-depth-eq0-clause-json c never = grind (arith, common_steps)

pub returns-in-BeginObject-clause-ok : goal.returns-in-BeginObject-clause-ok
returns-in-BeginObject-clause-ok c =
    let is : c.args.reader.now ≡ Token.begin_object ∷ c.next.new.self = grind arith in
    if_ok c.read_members.result c.read_members.ensures.ok
    (λ top ms. (
      object ms.0,
      search (rules, is, ms.1, value-begin_object, converted-object),
      ap heading_of ms.2 ∙ heading_of-heads ms.0,
      ms.3,
    ))

pub returns-clause-ok : goal.returns-clause-ok
returns-clause-ok c =
    let d = passed_nested _ _ _ _ _ _ (grind arith) refl c.in_ok-pass_rest.ensures.value in
    let other : as_object d.0 ≡ None = search (rules, no_object_at, d) in
    (d.0, d.1, search (rules, the_lemmas, no_heading d.0 other), rw (no_member d.0 _ other) refl)
