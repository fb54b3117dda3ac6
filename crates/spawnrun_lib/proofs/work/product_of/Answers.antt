use Rattle.spawnrun_lib.proofs.Common.{rules, arith, ◌≡◌, ◌≤◌, ◌<◌, List, [], ℕ, Option, length}
use Rattle.spawnrun_lib.proofs.Common.{IfSome, size_wants, Product, Accepts, IsProductOf, Refusal}
use Rattle.spawnrun_lib.proofs.Common.{Refuses, fails, input_limit, is_too_long, size_line}
use Rattle.spawnrun_lib.specs.Program.{Gives as GivesBy, Fails as FailsBy}
use Rattle.spawnrun_lib.proofs.work.product_of.Goals as goal

module _ (Gives : List ℕ → List ℕ → Type 0) (Fails : List ℕ → Refusal → Type 0) where
  within : (input : List ℕ) (made : Product) → length input ≤ input_limit
      → IsProductOf Gives Fails input made → IsProductOf (Accepts Gives) (Refuses Fails) input made
  within input it fits is = search (rules, fails)

  made_of_read : (told : Option (List ℕ)) (read : List ℕ) (made : Product)
      → IfSome told (λ all. read ≡ all) → length read ≤ input_limit
      → IsProductOf Gives Fails read made
      → IfSome told (λ all. IsProductOf (Accepts Gives) (Refuses Fails) all made)
  made_of_read it read made whole fits is = search (rules, within)

  refused_too_long : (told : Option (List ℕ)) (refusal : Refusal)
      → IfSome told (λ all. input_limit < length all)
      → refusal ≡ record { line = size_line; wants = size_wants; found = [] }
      → IfSome told (λ all. Refuses Fails all refusal)
  refused_too_long it refusal longer is = search (rules, is_too_long)

pub returns-in_ok-make-in-Ok-clause-gives : goal.returns-in_ok-make-in-Ok-clause-gives
returns-in_ok-make-in-Ok-clause-gives g c = made_of_read (GivesBy c.args.task) (FailsBy c.args.task)
    (g.I.Source.remaining c.args.input.now) c.in-Ok.bytes.items _ c.in-Ok.ensures.whole
    (omega (arith, c.in-Ok.bytes.ok.0, c.in-Ok.ensures.within)) c.in_ok-make-in-Ok.ensures

pub returns-in_ok-too_long-in-Err-TooLong-clause-gives :
    goal.returns-in_ok-too_long-in-Err-TooLong-clause-gives
returns-in_ok-too_long-in-Err-TooLong-clause-gives g c =
    search (rules, refused_too_long (GivesBy c.args.task) (FailsBy c.args.task))
