use Rattle.std.proofs.Common.{All, ◌≡◌, arith, List, [], ◌∷◌, ◌++◌}
use Rattle.ent_alloc.proofs.ListLaws.{All-left, All-right}
use Rattle.ent_shared.specs.Phase.{Reserver, IsOf}
use Rattle.cases_and_examples.proofs.examples.two_threads.with_both.Goals as goal

-- what holds of all reservers holds of the last two
last_two : (P : Reserver → Type 0) (all rest less : List Reserver) (a b : Reserver)
    → all ≡ rest ++ b ∷ [] → rest ≡ less ++ a ∷ [] → All P all → P a × P b
last_two P all rest less a b first second every =
    let whole = rw (first, second) at every in
    let front = All-left P (less ++ a ∷ []) (b ∷ []) whole in (
      All-right P less (a ∷ []) front 0 a (omega arith),
      All-right P (less ++ a ∷ []) (b ∷ []) whole 0 b (omega arith),
    )

pub phase-requires-clause-first : goal.phase-requires-clause-first
phase-requires-clause-first g c κs _ =
    (last_two (IsOf c.args.shared) _ _ _ _ _ c.in-Some-Some.ensures.items
    c.in-Some-Some.ensures'.items c.requires.own).0

pub phase-requires-clause-second : goal.phase-requires-clause-second
phase-requires-clause-second g c κs _ =
    (last_two (IsOf c.args.shared) _ _ _ _ _ c.in-Some-Some.ensures.items
    c.in-Some-Some.ensures'.items c.requires.own).1

pub phase-requires-clause-unused : goal.phase-requires-clause-unused
phase-requires-clause-unused g c κs _ = last_two (λ (r : Reserver). r.own.entries ≡ []) _ _ _ _ _
    c.in-Some-Some.ensures.items c.in-Some-Some.ensures'.items c.requires.unused
