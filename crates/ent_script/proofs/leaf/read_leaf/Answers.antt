use Rattle.ent_script.proofs.Common.{value_is, refl, ap, arith, rules, token_of, null, boolean}
use Rattle.ent_script.proofs.Common.{number, string, number_view}
use Rattle.ent_script.proofs.Openings.{opened_array, opened_object, passed_nested}
use Rattle.ent_script.proofs.leaf.read_leaf.Goals as goal

pub returns-in-String-clause-ok : goal.returns-in-String-clause-ok
returns-in-String-clause-ok c = (string c.in-String.text.now, search (rules, value_is), refl)

pub returns-in-Bool-clause-ok : goal.returns-in-Bool-clause-ok
returns-in-Bool-clause-ok c = (boolean c.in-Bool.b, search (rules, value_is), refl)

pub returns-in-Null-clause-ok : goal.returns-in-Null-clause-ok
returns-in-Null-clause-ok c = (null, search (rules, value_is), refl)

pub returns-in-Some-clause-ok : goal.returns-in-Some-clause-ok
returns-in-Some-clause-ok c =
    (number (number_view c.in-Some.number), search (rules, value_is), refl)

pub returns-in_ok-pass_rest-in-BeginArray-clause-ok :
    goal.returns-in_ok-pass_rest-in-BeginArray-clause-ok
returns-in_ok-pass_rest-in-BeginArray-clause-ok c =
    let d = passed_nested _ _ _ _ _ _ (grind arith) (ap token_of c.in-BeginArray.is)
    c.in_ok-pass_rest-in-BeginArray.ensures.value in
    (d.0, d.1, search (rules, opened_array, d))

pub returns-in_ok-pass_rest-in-BeginObject-clause-ok :
    goal.returns-in_ok-pass_rest-in-BeginObject-clause-ok
returns-in_ok-pass_rest-in-BeginObject-clause-ok c =
    let d = passed_nested _ _ _ _ _ _ (grind arith) (ap token_of c.in-BeginObject.is)
    c.in_ok-pass_rest-in-BeginObject.ensures.value in
    (d.0, d.1, search (rules, opened_object, d))
