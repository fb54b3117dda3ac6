use Rattle.std.proofs.Common.{rules, ◌≡◌, List, [], ◌∷◌, ◌++◌, All}
use Rattle.std.proofs.lemmas.List.Elements.{All-push}
use Rattle.std.proofs.lemmas.Result.{on_ok_weaker}
use Rattle.ent_queue.specs.Command.{Command}
use Rattle.ent_world.specs.OpenWorld.{View}
use Rattle.cases_and_examples.specs.Issuing.{IsOnProjectile}
use Rattle.cases_and_examples.proofs.examples.game.systems.Age.age_one.Goals as goal

-- one command more, on a projectile
one_more : (view : View) (before after : List Command) (last : Command)
    → after ≡ before ++ last ∷ [] → IsOnProjectile view last → All (IsOnProjectile view) before
    → All (IsOnProjectile view) after
one_more view before after last added on all =
    rw added (All-push (IsOnProjectile view) before last all on)

pub returns-in_ok-one-in-Some-clause-may : goal.returns-in_ok-one-in-Some-clause-may
returns-in_ok-one-in-Some-clause-may c = on_ok_weaker c.insert-in-Some.result
    (λ added. one_more c.args.view.now _ _ _ added (search rules)) c.insert-in-Some.ensures.ok

pub returns-in-Some-2-clause-may : goal.returns-in-Some-2-clause-may
returns-in-Some-2-clause-may c = on_ok_weaker c.despawn.result
    (λ added. one_more c.args.view.now _ _ _ added (search rules)) c.despawn.ensures.ok
