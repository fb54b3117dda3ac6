use Rattle.ent_script.proofs.Common.{Ok, ◌≡◌, ◌∙◌, ◌∷◌, ◌++◌, [], length-append, Some, None, Err}
use Rattle.ent_script.proofs.Common.{map, rules, arith, view, as_name, component_at, new_name}
use Rattle.ent_script.specs.declared.cause.ScriptCause.TheVariants as script_cause
use Rattle.ent_script.proofs.NamesLaws.{new_name_is, with_new}
use Rattle.ent_script.proofs.Numbering.{goes_on, stops, names_on}
use Rattle.ent_script.proofs.reading.different_names.Goals as goal

pub loop-value-preserved : goal.loop-value-preserved
loop-value-preserved c =
    let vs = c.args.values.now in
    let f = component_at (map view vs) in
    let i = c.loop-value.value-index in
    let v = c.value-item.result in
    let names = c.loop-value.names in
    let t = c.in_ok-text.text.now in
    let found : new_name names (view v) ≡ Some t = search rules in
    let facts = new_name_is names (view v) t found in
    let added : c.add.new.self ≡ names ++ t ∷ [] = c.in_ok-add.ensures.ok
    ∙ with_new names t facts.1 in
    let on = names_on as_name vs i v c.loop-value-test.true c.value-item.is in
    let means : f i (view v) ≡ Ok t = rw (← c.loop-value.invariant.names, found) in
    record {
      few = rw added (omega (arith, length-append names (t ∷ []), c.loop-value.invariant.few));
      names = rw (on, ← c.loop-value.invariant.names, facts.0) c.in_ok-add.ensures.ok;
      rest =
          rw added
          (goes_on f vs i v _ t _ c.loop-value-test.true c.value-item.is means
          c.loop-value.invariant.rest);
    }

pub returns-in_err-text-clause-names : goal.returns-in_err-text-clause-names
returns-in_err-text-clause-names c =
    let vs = c.args.values.now in
    let f = component_at (map view vs) in
    let i = c.loop-value.value-index in
    let v = c.value-item.result in
    let names = c.loop-value.names in
    let found : new_name names (view v) ≡ None = search rules in
    let means : f i (view v) ≡ Err script_cause.Components = search rules in
    let e =
    stops f vs i v _ _ _ c.loop-value-test.true c.value-item.is means
    c.loop-value.invariant.rest in
    search (rules, e)
