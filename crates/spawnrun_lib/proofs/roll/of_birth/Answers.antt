use Rattle.spawnrun_lib.proofs.Common.{◌≡◌, ◌≢◌, ◌∙◌, sym, Some, rules, option_eq, eq_by_cmp}
use Rattle.spawnrun_lib.proofs.Common.{birth_cmp, birth_of}
use Rattle.spawnrun_lib.proofs.Rolls.{least_here, none_here, same_if_equal, other_if_not}
use Rattle.spawnrun_lib.proofs.roll.of_birth.Goals as goal

pub returns-then-eq-clause-found : goal.returns-then-eq-clause-found
returns-then-eq-clause-found c =
    let tests : c.eq.result ≡ option_eq (eq_by_cmp birth_cmp) c.birth.result (Some c.args.birth) =
    search rules in
    search (rules, same_if_equal, least_here)

pub returns-else-eq-clause-none : goal.returns-else-eq-clause-none
returns-else-eq-clause-none c =
    let h = c.in_ok-first.field-0.now in
    let at = c.in_ok-first.ensures.lookup in
    let tests : c.eq.result ≡ option_eq (eq_by_cmp birth_cmp) c.birth.result (Some c.args.birth) =
    search rules in
    let other : birth_of c.args.view.now.entities h ≢ Some c.args.birth =
    λ is. other_if_not c.birth.result c.args.birth
    (sym tests ∙ c.if-eq.false) (c.birth.ensures ∙ is) in
    none_here c.args.view.now c.args.birth c.args.handles.now c.requires.lists c.args.index
    c.requires.first h
    at.3.0 (sym at.1) other
