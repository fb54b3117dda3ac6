-- What a system filled that began with nothing, as a job of a crew: if it ended, and if it stopped.
use Rattle.ent_runner.proofs.Common.{rules, ◌≡◌, ◌∙◌, ℕ, List, Result, Ok, Err, IfErr, OnOk}
use Rattle.ent_runner.proofs.Common.{Some, slice_get, get_or, get_or_from_slice_get, Replying}
use Rattle.ent_runner.proofs.Common.{Request, Blocks, IsDrawn, IsOfPhase, Commands, Extends}
use Rattle.ent_runner.proofs.Common.{output_of, reserver_of, source_of, IsDealt, IsFilled}
use Rattle.ent_blocks.specs.Blocks.{Reserver}

-- what the system of this number may do with its output
module _ {S O : Type 0} (may : S → O → Type 0) (systems : List S) (n : ℕ) (d : S) (output : O) where
  abbrev May : Type 0
  May = (system : S) → slice_get systems n ≡ Some system → may system output

  pub may_ok : {A E : Type 0} (r : Result A E) → OnOk r (may (get_or systems n d) output)
      → OnOk r May
  may_ok (Ok x) ran = λ system at. search (rules, get_or_from_slice_get)
  may_ok (Err why) ran = tt

-- and what with its error
pub may_err : {S O A E : Type 0} (leave : S → O → E → Type 0) (systems : List S) (n : ℕ) (d : S)
    (output : O) (r : Result A E) → IfErr r (leave (get_or systems n d) output)
    → IfErr r (λ error. (system : S) → slice_get systems n ≡ Some system
    → leave system output error)
may_err leave systems n d output (Ok x) ran = tt
may_err leave systems n d output (Err error) ran =
    λ system at. search (rules, get_or_from_slice_get)

module _ {O : Type 0} (Adds : O → List Request → O → Type 0) (empty : O) where
  module _ {S R : Type 0} (serves : S → R → Type 0) (may : S → Replying R) (a b : Commands O S R)
      (none : output_of a ≡ empty) (e : Extends Adds serves may a b) where
    filled : IsFilled Adds empty (may (source_of a)) (reserver_of a) (output_of b) (reserver_of b)
    filled = record { requests = e.requests; adds = rw none at e.adds; served = e.served }

    module _ (source : S) (before after : R) (output : O) (of : source ≡ source_of a)
        (first : before ≡ reserver_of a) (same : output ≡ output_of b)
        (last : after ≡ reserver_of b) where
      abbrev Fills : (O → Type 0) → Type 0
      Fills P = IsFilled Adds empty (may source) before output after × P output

      fills : (P : O → Type 0) → P (output_of b) → Fills P
      fills P ran = rw (of, first, same, last) (filled, ran)

      pub filled_ok : {A E : Type 0} (P : O → Type 0) (r : Result A E) → OnOk r (P (output_of b))
          → OnOk r (Fills P)
      filled_ok P (Ok x) ran = fills P ran
      filled_ok P (Err error) ran = tt

      pub filled_err : {A E : Type 0} (Q : O → E → Type 0) (r : Result A E)
          → IfErr r (Q (output_of b)) → IfErr r (λ error. Fills (λ output. Q output error))
      filled_err Q (Ok x) ran = tt
      filled_err Q (Err error) ran = fills (λ output. Q output error) ran

  -- with the reserver at its number
  module _ (phase : Blocks) (reservers : List Reserver) (n : ℕ) (a b : Commands O Blocks Reserver)
      (none : output_of a ≡ empty) (e : Extends Adds IsOfPhase IsDrawn a b)
      (source : source_of a ≡ phase)
      (is : (r : Reserver) → slice_get reservers n ≡ Some r → reserver_of a ≡ r) (output : O)
      (after : Reserver)
      (same : output ≡ output_of b) (last : after ≡ reserver_of b) where
    abbrev Dealt : (ℕ → O → Type 0) → Type 0
    Dealt may = IsDealt Adds empty may phase reservers n (output, after)

    dealt : (may : ℕ → O → Type 0) → may n (output_of b) → Dealt may
    dealt may ran = rw (same, last) (record {
      system = ran;
      of_phase = rw (e.source ∙ source) at e.ready;
      filled = λ r at. rw (source, is r at) at (filled IsOfPhase IsDrawn a b none e);
    })

    pub dealt_ok : {A E : Type 0} (may : ℕ → O → Type 0) (r : Result A E)
        → OnOk r (may n (output_of b)) → OnOk r (Dealt may)
    dealt_ok may (Ok x) ran = dealt may ran
    dealt_ok may (Err error) ran = tt

    pub dealt_err : {A E : Type 0} (leave : ℕ → O → E → Type 0) (r : Result A E)
        → IfErr r (leave n (output_of b))
        → IfErr r (λ error. Dealt (λ n output. leave n output error))
    dealt_err leave (Ok x) ran = tt
    dealt_err leave (Err error) ran = dealt (λ n output. leave n output error) ran
