use Rattle.ent_script.proofs.Common.{common_steps, value_is, value-begin_object, ◌≡◌, ◌∷◌, refl, ap}
use Rattle.ent_script.proofs.Common.{arith, rules, Token, value, token_of, null, boolean, number}
use Rattle.ent_script.proofs.Common.{string, object, number_view}
use Rattle.ent_script.proofs.Turns.{converted-object}
use Rattle.ent_script.proofs.Openings.{opened_array, passed_nested}
use Rattle.ent_script.proofs.part.read_part.Goals as goal

pub returns-then-depth-eq0-clause-json : goal.returns-then-depth-eq0-clause-json
unfolding value
returns-then-depth-eq0-clause-json c never = grind (arith, common_steps)

pub returns-in-String-clause-ok : goal.returns-in-String-clause-ok
returns-in-String-clause-ok c = (string c.in-String.text.now, search (rules, value_is), refl)

pub returns-in-Bool-clause-ok : goal.returns-in-Bool-clause-ok
returns-in-Bool-clause-ok c = (boolean c.in-Bool.b, search (rules, value_is), refl)

pub returns-in-Null-clause-ok : goal.returns-in-Null-clause-ok
returns-in-Null-clause-ok c = (null, search (rules, value_is), refl)

pub returns-in-Some-clause-ok : goal.returns-in-Some-clause-ok
returns-in-Some-clause-ok c =
    (number (number_view c.in-Some.number), search (rules, value_is), refl)

pub returns-in_ok-read_object-in-BeginObject-clause-ok :
    goal.returns-in_ok-read_object-in-BeginObject-clause-ok
returns-in_ok-read_object-in-BeginObject-clause-ok c =
    let is : c.args.reader.now ≡ Token.begin_object ∷ c.next.new.self = grind arith in
    let ms = c.in_ok-read_object-in-BeginObject.ensures.ok in
    (object ms.0, search (rules, is, value-begin_object, converted-object), ap object ms.2)

pub returns-in_ok-pass_rest-in-BeginArray-clause-ok :
    goal.returns-in_ok-pass_rest-in-BeginArray-clause-ok
returns-in_ok-pass_rest-in-BeginArray-clause-ok c =
    let d = passed_nested _ _ _ _ _ _ (grind arith) (ap token_of c.in-BeginArray.is)
    c.in_ok-pass_rest-in-BeginArray.ensures.value in
    let ds = opened_array _ _ _ d.0 d.2 in
    (d.0, d.1, search (rules, ds))
