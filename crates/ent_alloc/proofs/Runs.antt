-- No run gives a handle twice: each call keeps what was given spent, and what it gives is spent
-- with it.
use Rattle.ent_alloc.proofs.Common.{rules, ◌≡◌, sym, ap, subst, List, [], ◌∷◌, ◌++◌, slice_get}
use Rattle.ent_alloc.proofs.Common.{Some, append-nil, append_assoc, All-nil, Handle, Allocator}
use Rattle.ent_alloc.proofs.Common.{after_free, after_flush, IsSound, AreSpent, Step, MayCome}
use Rattle.ent_alloc.proofs.Common.{IsRun, after_step, after_run, given_in_step, given_in_run}
use Rattle.ent_alloc.specs.Runs.{Alloc, Free, Request, Flush}
use Rattle.ent_alloc.proofs.Soundness.{after_alloc-sound, after_free-sound, after_take-sound}
use Rattle.ent_alloc.proofs.Soundness.{after_flush-sound}
use Rattle.ent_alloc.proofs.GivenOnce.{alloc-given, free-given, flush-given}
use Rattle.ent_alloc.proofs.RequestLaws.{requested-given}

-- what stands at the front of the pool
front_of_pool : (pool : List Handle) (h : Handle) → slice_get pool 0 ≡ Some h
    → (rest : List Handle) × (pool ≡ h ∷ rest)
front_of_pool [] h is = search rules
front_of_pool (g ∷ rest) h is = let same : g ≡ h = search rules in (rest, ap (λ x. x ∷ rest) same)

step-sound : (s : Allocator) (step : Step) → IsSound s → MayCome s step
    → IsSound (after_step s step)
step-sound s (Alloc h) sound may =
    let front = front_of_pool s.pool h may.1 in after_alloc-sound s h front.0 sound may.0 front.1
step-sound s (Free h) sound may = after_free-sound s h sound may.0 may.1
step-sound s (Request n) sound may = after_take-sound s n sound
step-sound s Flush sound may = after_flush-sound s sound

step-given : (s : Allocator) (step : Step) (given : List Handle) → IsSound s → MayCome s step
    → AreSpent s given → AreSpent (after_step s step) (given ++ given_in_step s step)
step-given s (Alloc h) given sound may once =
    let front = front_of_pool s.pool h may.1 in
    alloc-given s h front.0 given sound may.0 front.1 once
step-given s (Free h) given sound may once =
    subst (AreSpent (after_free s h)) (sym (append-nil given)) (free-given s h given may.1 once)
step-given s (Request n) given sound may once = requested-given s n given sound once
step-given s Flush given sound may once =
    subst (AreSpent (after_flush s)) (sym (append-nil given)) (flush-given s given once)

pub run-given : (s : Allocator) (steps : List Step) (given : List Handle) → IsSound s
    → IsRun s steps → AreSpent s given
    → AreSpent (after_run s steps) (given ++ given_in_run s steps)
run-given s [] given sound run once = subst (AreSpent s) (sym (append-nil given)) once
run-given s (step ∷ steps) given sound run once =
    let next = after_step s step in
    subst (AreSpent (after_run next steps))
    (append_assoc given (given_in_step s step) (given_in_run next steps))
    (run-given next steps (given ++ given_in_step s step) (step-sound s step sound run.0) run.1
    (step-given s step given sound run.0 once))

-- from a sound allocator
pub run-spent : (s : Allocator) → IsSound s → (steps : List Step) → IsRun s steps
    → AreSpent (after_run s steps) (given_in_run s steps)
run-spent s sound steps run = run-given s steps [] sound run (search (rules, All-nil))
