-- Systems that filled outputs as the jobs of a crew, each from its own block.
use Rattle.ent_runner.proofs.Common.{get_or, slice_get, All, All-map, List, Option, Some}
use Rattle.ent_runner.proofs.Common.{rules, arith, length, map, ℕ, ⊎_elim, ◌<◌, ◌∙◌}
use Rattle.ent_runner.proofs.Common.{◌≡◌, ◌⊎◌, length-map, get_or_from_slice_get, slice_get-get_or}
use Rattle.ent_runner.proofs.Common.{slice_get_within, Blocks, IsDrawn, IsOfPhase, AreBrokenOff}
use Rattle.ent_runner.proofs.Common.{AreDone, IsDealt, IsFilled, HaveFilled, Ended, Stopped, None}
use Rattle.ent_runner.proofs.Common.{ap, first_error, Request}
use Rattle.ent_blocks.specs.Blocks.{Reserver}
use Rattle.ent_runner.specs.Blocks.{IsBrokenOff}
use Rattle.ent_runner.proofs.EachOutput.{each_done, each_either, first_of, stop_short}
use Rattle.ent_runner.proofs.Lists.{get_mapped, mapped_at}

module _ {O : Type 0} where
  -- the outputs that systems hand back, and the reservers
  abbrev filled_of : List (O × Reserver) → List O
  filled_of all = map (λ (one : O × Reserver). one.0) all

  abbrev reservers_of : List (O × Reserver) → List Reserver
  reservers_of all = map (λ (one : O × Reserver). one.1) all

  module _ {F : Type 0} where
    -- what the jobs made, and the errors that they returned
    abbrev ones_of : List ((O × Reserver) × Option F) → List (O × Reserver)
    ones_of made = map (λ (one : (O × Reserver) × Option F). one.0) made

    abbrev errors_of : List ((O × Reserver) × Option F) → List (Option F)
    errors_of made = map (λ (one : (O × Reserver) × Option F). one.1) made

  module _ {L : Type 0} (Adds : O → List Request → O → Type 0) (empty : O) (phase : Blocks)
      (reservers : List Reserver) (jobs : ℕ) (before after : List L)
      (same : length after ≡ length before) where
    abbrev Dealt : (ℕ → O → Type 0) → ℕ → O × Reserver → Type 0
    Dealt may n one = IsDealt Adds empty may phase reservers n one

    abbrev FilledBy : Reserver → O → Reserver → Type 0
    FilledBy first output last = IsFilled Adds empty (IsDrawn phase) first output last

    -- the output and the reserver at one place of the two lists are of one job
    both_at : (all : List (O × Reserver)) (n : ℕ) (output : O) (last : Reserver)
        → slice_get (filled_of all) n ≡ Some output → slice_get (reservers_of all) n ≡ Some last
        → slice_get all n ≡ Some (output, last)
    both_at all n output last at there =
        let it = mapped_at (λ (one : O × Reserver). one.0) all n output at in
        let too = get_mapped (λ (one : O × Reserver). one.1) all n it.0 it.1 in
        search (rules, it, too)

    module _ (may : ℕ → O → Type 0) where
      pub filled_done : (all : List (O × Reserver)) → length reservers ≡ jobs
          → AreDone (λ n a one b. Dealt may n one) jobs before all after
          → HaveFilled Adds empty phase may jobs reservers (filled_of all) (reservers_of all)
          × All (IsOfPhase phase) (reservers_of all)
      filled_done all many done =
          let each : (n : ℕ) (one : O × Reserver) → slice_get all n ≡ Some one → Dealt may n one =
          λ n one at.
          let less = slice_get_within all n one at in
          each_done (Dealt may) jobs before all after same done n (omega (arith, less, done.count))
          one at in
          let of_phase = λ (k : ℕ) (d : O × Reserver) (within : k < length all).
          (each k (get_or all k d) (slice_get-get_or all k d within)).of_phase in (
            record {
              each_before = many;
              each_output = length-map all (λ (one : O × Reserver). one.0) ∙ done.count;
              each_after = length-map all (λ (one : O × Reserver). one.1) ∙ done.count;
              each_system = λ n output at.
                  let it = mapped_at (λ (one : O × Reserver). one.0) all n output at in
                  rw it.2 at (each n it.0 it.1).system;
              each_block = λ n first output last of at there.
                  (each n (output, last) (both_at all n output last at there)).filled first of;
            },
            All-map (IsOfPhase phase) (λ (one : O × Reserver). one.1) all of_phase,
          )

      pub broken_off : {F : Type 0} (leave : ℕ → O → F → Type 0) (workers : ℕ)
          → length before ≡ workers → (left : List (Option ((O × Reserver) × Option F)))
          → AreBrokenOff (Ended (λ n a one b. Dealt may n one))
          (Stopped (λ n a one error b. Dealt (λ n output. leave n output error) n one)) jobs before
          left after
          → IsBrokenOff Adds empty phase may leave jobs workers reservers (first_error left)
      broken_off {F} leave workers team left done =
          let made : List ((O × Reserver) × Option F) = done.outputs in
          let ones : List (O × Reserver) = ones_of made in
          let errors : List (Option F) = errors_of made in
          let long : length ones ≡ done.count = length-map made (λ x. x.0) ∙ done.each_output in
          let here : (n : ℕ) (x : (O × Reserver) × Option F) → slice_get made n ≡ Some x
          → get_or (filled_of ones) n empty ≡ x.0.0 =
          λ n x at.
          get_or_from_slice_get (filled_of ones) n x.0.0 empty
          (get_mapped (λ (one : O × Reserver). one.0) ones n x.0
          (get_mapped (λ (x : (O × Reserver) × Option F). x.0) made n x at)) in
          let failed : (n : ℕ) (x : (O × Reserver) × Option F) → slice_get made n ≡ Some x
          → get_or errors n None ≡ x.1 =
          λ n x at.
          get_or_from_slice_get errors n x.1 None
          (get_mapped (λ (x : (O × Reserver) × Option F). x.1) made n x at) in
          let either : (n : ℕ) (x : (O × Reserver) × Option F) → slice_get made n ≡ Some x
          → ((x.1 ≡ None) × Dealt may n x.0)
          ⊎ ((error : F) × (x.1 ≡ Some error) × Dealt (λ n output. leave n output error) n x.0) =
          λ n x at.
          let less = slice_get_within made n x at in
          each_either (λ n x. (x.1 ≡ None) × Dealt may n x.0)
          (λ n x. (error : F) × (x.1 ≡ Some error)
          × Dealt (λ n output. leave n output error) n x.0) jobs before left after same done n
          (omega (arith, less, done.each_output)) x at in
          record {
            ran = done.ran;
            count = done.count;
            run = rw team at done.run;
            outputs = filled_of ones;
            errors = errors;
            short =
                stop_short _ _ may leave jobs before left after same done (filled_of ones) empty
                errors (length-map ones (λ (one : O × Reserver). one.0) ∙ long)
                (length-map made (λ x. x.1) ∙ done.each_output)
                (λ n a x b at f. (failed n x at ∙ f.0, rw (here n x at) (f.1.system)))
                (λ n a x b at f. (f.0, failed n x at ∙ f.1, rw (here n x at) (f.2.system)))
                (first_error left) (ap first_error done.left_are ∙ first_of made _);
            each_block = λ n first output of at.
                let it = mapped_at (λ (one : O × Reserver). one.0) ones n output at in
                let x = mapped_at (λ (x : (O × Reserver) × Option F). x.0) made n it.0 it.1 in
                let by : FilledBy first x.0.0.0 x.0.0.1 =
                ⊎_elim (λ f. f.1.filled first of) (λ f. f.2.filled first of) (either n x.0 x.1) in
                (x.0.0.1, rw (ap (λ (one : O × Reserver). one.0) x.2 ∙ it.2) at by);
          }
