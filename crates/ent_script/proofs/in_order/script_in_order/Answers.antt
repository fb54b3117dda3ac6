use Rattle.ent_script.proofs.Common.{◌≡◌, ◌∷◌, rules, object, value-begin_object, tokens, Token}
use Rattle.ent_script.proofs.Turns.{if_ok, converted-object}
use Rattle.ent_script.proofs.in_order.script_in_order.Goals as goal

pub returns : goal.returns
returns c =
    let begun : tokens c.args.text.now ≡ Token.begin_object ∷ c.opens.new.reader = search rules in
    if_ok c.script_inside.result c.script_inside.ensures (λ script is.
    record {
      value = object is.0;
      is_read = search (rules, begun, is.1, value-begin_object, converted-object);
      means = is.2;
    })
