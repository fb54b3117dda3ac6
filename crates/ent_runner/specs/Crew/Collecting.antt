-- For private contracts and proofs: outputs put at the numbers of their jobs.
use Rattle.std.specs.Prelude.{◌≡◌, List, [], ◌∷◌, ◌++◌, map, Option, None, Some, slice_set}
use Rattle.ent_runner.specs.Runs.{first_some}
use Rattle.ent_runner.specs.declared.crew.worker.Done.{Done}

-- the outputs by number after these were put in, one by one
abbrev pub outputs_put : {O : Type 0} → List (Done O) → List (Option O) → List (Option O)
outputs_put [] by_number = by_number
outputs_put (d ∷ done) by_number = outputs_put done (slice_set by_number d.number (Some d.output))

module _ {O E : Type 0} where
  -- These are the outputs of what is there by number, without what is left at the end.
  pub record AreCollected (by_number left : List (Option (O × Option E))) (outputs : List O) :
      Type 0 where
    pub made : List (O × Option E)
    pub all : map Some made ++ left ≡ by_number
    pub outputs_are : outputs ≡ map (λ (one : O × Option E). one.0) made

  -- the error of a job that made something
  abbrev pub error_in : Option (O × Option E) → Option E
  error_in None = None
  error_in (Some made) = made.1

  -- the error of the first job that returned one
  abbrev pub first_error : List (Option (O × Option E)) → Option E
  first_error by_number = first_some (map error_in by_number)
