use Rattle.spawnrun_lib.proofs.Common.{rules, ◌∷◌, [], IsTargeted, names_of}
use Rattle.spawnrun_lib.proofs.SystemRunning.{issued_on, stopped_on}
use Rattle.spawnrun_lib.proofs.change.Change.on_target.Given as given
use Rattle.spawnrun_lib.proofs.change.Change.on_target.Goals.{After-drop-branch}
use Rattle.spawnrun_lib.proofs.change.Change.on_target.Goals as goal

pub returns-in-Handle-clause-issued : goal.returns-in-Handle-clause-issued
returns-in-Handle-clause-issued g c =
    issued_on _ _ _ _ _ _ (c.in-Handle.handle ∷ []) _ (search rules) c.on_each-in-Handle.ensures.ok

-- the entities that have the component
listed : (g : given.Over) (c : After-drop-branch g)
    → IsTargeted c.args.view.now (names_of c.args.names.now) c.args.target c.deref.result.now
listed g c = search (rules)

pub returns-in_ok-with-in-Each-clause-issued : goal.returns-in_ok-with-in-Each-clause-issued
returns-in_ok-with-in-Each-clause-issued g c = search (rules, issued_on, listed g c)

pub returns-in_ok-with-in-Each-clause-stopped : goal.returns-in_ok-with-in-Each-clause-stopped
returns-in_ok-with-in-Each-clause-stopped g c = search (rules, stopped_on, listed g c)

pub returns-in-Some-clause-issued : goal.returns-in-Some-clause-issued
returns-in-Some-clause-issued g c = issued_on _ _ _ _ _ _ (c.in-Some.handle ∷ []) _ (search rules)
    c.on_each-in-Some.ensures.ok

pub returns-in-Some-clause-stopped : goal.returns-in-Some-clause-stopped
returns-in-Some-clause-stopped g c = stopped_on _ _ _ _ _ _ (c.in-Some.handle ∷ []) _ (search rules)
    c.on_each-in-Some.ensures.stopped
