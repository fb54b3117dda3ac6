use Rattle.tracecheck.proofs.Common.{rules, ◌≡◌, ◌∙◌, List, ℕ, true, ap, map, takes, only_memory}
use Rattle.tracecheck.proofs.Common.{is_taken, App}
use Rattle.tracecheck.proofs.Beginnings.{both_not_taken, clap_fault, faultless_of_one}
use Rattle.tracecheck.proofs.Beginnings.{faulty_of_both, is_taken-takes, generations-given}
use Rattle.tracecheck.proofs.Beginnings.{slots-given}
use Rattle.tracecheck.proofs.command_line.command_line.Goals as goal

pub returns-in_err-matches-clause-refused : goal.returns-in_err-matches-clause-refused
returns-in_err-matches-clause-refused g c =
    let words : List (List ℕ) = map g.S.AsStr.text c.args.words.now in
    only_memory _ _ (is_taken words ≡ true) c.from_residual-in_err-matches.ensures.1
    (λ yes. c.in_err-matches.ensures.passes (ap (λ (a : App). takes a words) c.in_ok-program.ensures
    ∙ is_taken-takes words yes))

pub returns-in_err-matches-clause-fault : goal.returns-in_err-matches-clause-fault
returns-in_err-matches-clause-fault g c =
    clap_fault _ _ _ (map g.S.AsStr.text c.args.words.now) c.in_ok-program.ensures
    c.from_residual-in_err-matches.ensures.1 c.in_err-matches.ensures.kinds

pub beginning_of-requires-clause-slots : goal.beginning_of-requires-clause-slots
beginning_of-requires-clause-slots g c = search (rules, slots-given)

pub beginning_of-requires-clause-generations : goal.beginning_of-requires-clause-generations
beginning_of-requires-clause-generations g c = search (rules, generations-given)

pub returns-clause-taken : goal.returns-clause-taken
returns-clause-taken g c =
    faultless_of_one _ (map g.S.AsStr.text c.args.words.now) _ c.in_ok-program.ensures
    c.in_ok-matches.ensures.matches c.beginning_of.result c.in_ok-matches.ensures.kinds
    c.beginning_of.ensures.one

pub returns-clause-fault : goal.returns-clause-fault
returns-clause-fault g c =
    faulty_of_both _ (map g.S.AsStr.text c.args.words.now) _ c.in_ok-program.ensures
    c.in_ok-matches.ensures.matches c.beginning_of.result c.in_ok-matches.ensures.kinds
    c.beginning_of.ensures.both c.beginning_of.ensures.fault

pub returns-clause-refused : goal.returns-clause-refused
returns-clause-refused g c =
    both_not_taken _ (map g.S.AsStr.text c.args.words.now) _ c.in_ok-program.ensures
    c.in_ok-matches.ensures.matches c.beginning_of.result c.beginning_of.ensures.both
