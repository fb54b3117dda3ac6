-- The premises of one report by births, at small scripts and texts.
use Rattle.spawnrun_lib.proofs.Common.{◌≡◌, refl, inr, List, [], ◌∷◌, ◌++◌, All, Some, None}
use Rattle.spawnrun_lib.proofs.Common.{All-head, All-tail, digits, Handle, Script, Operation}
use Rattle.spawnrun_lib.proofs.Common.{NamesNoHandle, NeedsNoHandle, IsWithoutHandles}
use Rattle.spawnrun_lib.proofs.Common.{TellsNoRefusal, requested_in_all, codes}
use Rattle.ent_script.specs.declared.operation.Operation.TheVariants as operation
use Rattle.ent_script.specs.declared.target.Target.TheVariants as target
use Rattle.ent_world.specs.declared.fault.FaultKind.TheVariants as kind

-- a script whose component is hp, and whose frames have one system each
abbrev of_systems : List Operation → List Operation → Script
of_systems first second = record {
  limits = record { slots = 5; generations = 9 };
  components = codes "hp" ∷ [];
  frames = (first ∷ []) ∷ (second ∷ []) ∷ [];
}

-- one entity, then four more and three: eight requests, though seven slots would do
eight :
    requested_in_all
    (of_systems
    (operation.Spawn [] (Some 0) ∷ operation.Despawn (target.Name 0) ∷ operation.SpawnMany 4 [] None
    ∷ []) (operation.SpawnMany 3 [] None ∷ [])) ≡ 8
eight = refl

-- the second frame names an entity by its handle
names_a_handle : (h : Handle) → IsWithoutHandles (of_systems (operation.Spawn [] None ∷ [])
    (operation.Despawn (target.Handle h) ∷ [])) → ⊥
names_a_handle h free =
    let first = (operation.Spawn [] None ∷ []) ∷ [] in
    let second = operation.Despawn (target.Handle h) ∷ [] in
    All-head NeedsNoHandle (operation.Despawn (target.Handle h)) []
    (All-head NamesNoHandle second [] (All-head (All NamesNoHandle) (second ∷ []) []
    (All-tail (All NamesNoHandle) first ((second ∷ []) ∷ []) free)))

-- the line of a refused request stands in the text
tells_of_space : TellsNoRefusal (codes "frame 0 born 0 faults 1\nfault 0 0 space wanted 6 left 5\n"
    ++ codes "alive 0\n") → ⊥
unfolding digits
tells_of_space none =
    none (record { system = 0; command = 0; kind = kind.Space 6 5 }) tt (record {
      before = codes "frame 0 born 0 faults 1\n";
      after = codes "alive 0\n";
      lines = inr (codes "frame 0 born 0 faults 1", refl);
      is = refl;
    })
