-- Reservers of blocks that are lent to a run of systems.
use Rattle.std.specs.Prelude.{◌≡◌, List, [], ◌∷◌, All, map, Result, IfErr}
use Rattle.ent_blocks.specs.Blocks.{Reserver as BlockReserver, used_up}
use Rattle.ent_runner.specs.RunErrors.{IfLost, IfNotLost}
use Rattle.ent_runner.specs.declared.run_error.RunError.{RunError}
use Rattle.ent_total.specs.Phases.{Reserver, reservers_of}

module _ {S : Type 0} where
  -- while its block is away
  abbrev pub lent_out : Reserver S BlockReserver → Reserver S BlockReserver
  lent_out r = record r { reserver = used_up r.reserver }

  -- The first ones have these to reserve with, in their order.
  abbrev pub returned : List (Reserver S BlockReserver) → List BlockReserver
      → List (Reserver S BlockReserver)
  returned reservers [] = reservers
  returned [] (b ∷ back) = []
  returned (r ∷ reservers) (b ∷ back) = record r { reserver = b } ∷ returned reservers back

  -- all of them reserve from this source
  abbrev pub AreFrom : S → List (Reserver S BlockReserver) → Type 0
  AreFrom source reservers = All (λ (r : Reserver S BlockReserver). r.source ≡ source) reservers

  -- A run of systems was lent what these reserve with, and they are the same reservers. They got it
  -- back if all systems ran, with what these used, and as it was if none ran. What they have is
  -- used up if the systems were broken off.
  pub record AreLent {X E : Type 0} (before after : List (Reserver S BlockReserver))
      (result : Result X (RunError E)) : Type 0 where
    pub same : after ≡ returned before (reservers_of after)
    pub as_they_were : IfErr result (IfNotLost (after ≡ before))
    pub used_up : IfErr result (IfLost (λ _. after ≡ map lent_out before))
