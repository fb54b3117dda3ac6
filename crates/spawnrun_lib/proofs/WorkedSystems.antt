-- Worked examples of what a system may issue.
use Rattle.spawnrun_lib.proofs.Common.{rules, ◌≢◌, refl, [], ◌∷◌, Some, pos, List, ℤ, inl, inr}
use Rattle.spawnrun_lib.proofs.Common.{IssuesAll, unbound, bound, IsOfBirth, MayIssue, MayStop}
use Rattle.spawnrun_lib.proofs.Common.{Spawn, SpawnMany, Remove, Despawn, Refused, Birth, Handle}
use Rattle.spawnrun_lib.proofs.Common.{ComponentId, birth_of, View}
use Rattle.ent_alloc.specs.declared.refused.Refused.{Refused as Refusal}
use Rattle.ent_script.specs.declared.operation.Operation.TheVariants as operation
use Rattle.ent_script.specs.declared.target.Target.TheVariants as target

hp : ComponentId
hp = record { 0 = 0 }

one_hp : List (ComponentId × ℤ)
one_hp = (hp, pos 1) ∷ []

module _ (view : View) (h k : Handle) (why : Refusal) where
  -- an entity is spawned, and two commands are for it
  spawned :
      MayIssue
      (operation.Spawn one_hp (Some 0) ∷ operation.Despawn (target.Name 0)
      ∷ operation.Remove hp (target.Name 0) ∷ []) view (Spawn h one_hp ∷ Despawn h ∷ Remove h hp
      ∷ [])
  spawned =
      let last : IssuesAll view (bound 0 (h ∷ []) unbound)
      (operation.Remove hp (target.Name 0) ∷ [])
      (Remove h hp ∷ []) = (Remove h hp ∷ [], [], refl, (h ∷ [], refl, refl), refl) in
      (Spawn h one_hp ∷ [], _, refl, refl, (Despawn h ∷ [], _, refl, (h ∷ [], refl, refl), last))

  -- nothing is issued for a name whose spawn was refused
  never_bound :
      MayIssue (operation.Spawn one_hp (Some 0) ∷ operation.Insert one_hp (target.Name 0) ∷ []) view
      (Refused 1 why ∷ [])
  never_bound = (Refused 1 why ∷ [], [], refl, refl, ([], [], refl, ([], refl, refl), refl))

  -- a name that is bound again stands for what was spawned last, and after a refusal for what it
  -- stood for before
  bound_again :
      MayIssue
      (operation.Spawn [] (Some 0) ∷ operation.SpawnMany 1 [] (Some 0) ∷ operation.Spawn [] (Some 0)
      ∷ operation.Despawn (target.Name 0) ∷ []) view (Spawn h [] ∷ SpawnMany (k ∷ []) []
      ∷ Refused 1 why ∷ Despawn k ∷ [])
  bound_again =
      let names = bound 0 (k ∷ []) (bound 0 (h ∷ []) unbound) in
      let last : IssuesAll view names (operation.Despawn (target.Name 0) ∷ []) (Despawn k ∷ []) =
      (Despawn k ∷ [], [], refl, (k ∷ [], refl, refl), refl) in
      let refused : IssuesAll view names
      (operation.Spawn [] (Some 0) ∷ operation.Despawn (target.Name 0) ∷ [])
      (Refused 1 why ∷ Despawn k ∷ []) = (Refused 1 why ∷ [], _, refl, refl, last) in
      (Spawn h [] ∷ [], _, refl, refl, (SpawnMany (k ∷ []) [] ∷ [], _, refl, (refl, refl), refused))

  -- a birth that nobody has issues no command
  birth_of_nobody : (birth : Birth) → ((g : Handle) → birth_of view.entities g ≢ Some birth)
      → MayIssue (operation.Despawn (target.Birth birth) ∷ []) view []
  birth_of_nobody birth none = ([], [], refl, ([], none, refl), refl)

  -- the entity of a birth in the view gets a command from each operation, also after its despawn
  birth_twice : (birth : Birth) → IsOfBirth view birth (h ∷ [])
      → MayIssue
      (operation.Despawn (target.Birth birth) ∷ operation.Remove hp (target.Birth birth) ∷ []) view
      (Despawn h ∷ Remove h hp ∷ [])
  birth_twice birth is =
      let last : IssuesAll view unbound (operation.Remove hp (target.Birth birth) ∷ [])
      (Remove h hp ∷ []) =
      (Remove h hp ∷ [], [], refl, (h ∷ [], is, refl), refl) in
      (Despawn h ∷ [], _, refl, (h ∷ [], is, refl), last)

  -- memory was refused to the second operation: the first has issued its command
  stopped : MayStop (operation.Spawn one_hp (Some 0) ∷ operation.Despawn (target.Name 0) ∷ []) view
      (Spawn h one_hp ∷ [])
  stopped = inr (
    Spawn h one_hp ∷ [],
    [],
    refl,
    refl,
    inl (inr (record { done = []; missing = h; others = []; target = refl; commands = refl })),
  )

  -- a spawn that is refused for lack of slots is not where a system stops
  refused_goes_on : MayStop (operation.Spawn one_hp (Some 0) ∷ []) view (Refused 1 why ∷ []) → ⊥
  refused_goes_on which = search rules
