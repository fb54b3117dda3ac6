-- Workers who have nothing to do, and a frame without systems.
use Rattle.ent_runner.proofs.Common.{Ok, Err, common_steps, rules, ◌≡◌, ℕ, zero, suc, ◌<◌, List, []}
use Rattle.ent_runner.proofs.Common.{◌∷◌, length, refl, arith, Result, Some, replicate, slice_get}
use Rattle.ent_runner.proofs.Common.{IsErrOf, IsOk, All, AllPairs, flat_map, IsPermutation}
use Rattle.ent_runner.proofs.Common.{length-replicate, All-nil, All-replicate, IsPermutation-refl}
use Rattle.ent_runner.proofs.Common.{flushed-laid_out, born, Handle, Command, World, IsWorld, View}
use Rattle.ent_runner.proofs.Common.{sync, IsStop, IfStopped, Fault, SyncFault, SyncReport, IsFrame}
use Rattle.ent_runner.proofs.Common.{Ends}
use Rattle.ent_world.specs.declared.fault.SyncFault.TheVariants as stop
use Rattle.ent_runner.proofs.Lists.{each_of_all}

abbrev pub no_jobs : List ℕ
no_jobs = []

flat_none : (workers : ℕ) → flat_map (λ (mine : List ℕ). mine) (replicate workers no_jobs) ≡ []
flat_none zero = refl
flat_none (suc workers) = flat_none workers

-- together they do no jobs, each once
pub none_once : (workers : ℕ)
    → IsPermutation (flat_map (λ (mine : List ℕ). mine) (replicate workers no_jobs)) no_jobs
none_once workers = search (rules, flat_none, IsPermutation-refl)

none_rise : AllPairs (λ m n. m < n) no_jobs
none_rise i j d less within = absurd (omega arith)

pub all_rise : (workers : ℕ) → All (AllPairs (λ m n. m < n)) (replicate workers no_jobs)
all_rise workers = grind (arith, common_steps, All-replicate, none_rise)

pub is_none : (workers worker : ℕ) (mine : List ℕ)
    → slice_get (replicate workers no_jobs) worker ≡ Some mine → mine ≡ no_jobs
is_none workers worker mine at = search (
  rules,
  each_of_all (λ (mine : List ℕ). mine ≡ no_jobs) (replicate workers no_jobs) worker mine,
  All-replicate (λ (mine : List ℕ). mine ≡ no_jobs) workers no_jobs,
)

no_frame : {S : Type 0} (may : S → View → List Command → Type 0) (workers : ℕ) (before : World)
    → IsFrame may [] workers before [] []
no_frame may workers before =
    search
    (rules, All-nil, length-replicate workers no_jobs, none_once workers, is_none, all_rise workers)

pub ends_none : {S : Type 0} (may : S → View → List Command → Type 0) (systems : List S)
    (workers : ℕ) (before : World) (queues : List (List Command)) (after : World)
    (births : List Handle) (faults : List Fault) → length systems ≡ 0 → queues ≡ []
    → after ≡ (sync [] before).world → births ≡ born before.allocator
    → faults ≡ (sync [] before).faults → Ends may systems workers before queues after births faults
ends_none may [] workers before queues after births faults none no_queues world came fault =
    record {
      history = [];
      frame = rw no_queues (no_frame may workers before);
      world = rw no_queues world;
      born_are = came;
      faults_are = rw no_queues fault;
    }
ends_none may (_ ∷ _) workers before queues after births faults none no_queues world came fault =
    absurd (omega arith)

-- a sync point of nothing asks for no memory
pub applies_none : (result : Result SyncReport SyncFault) (before after : World)
    → before.allocator.asked ≡ 0 → IsWorld after
    → (IsErrOf result stop.FlushMemory → after ≡ before)
    → (IsErrOf result stop.FlushMemory → 0 < length before.allocator.taken)
    → IfStopped result (λ system command done _. IsStop system command done []) → IsOk result
applies_none (Ok report) before after flushed world kept taken stops = refl
applies_none (Err stop.FlushMemory) before after flushed world kept taken stops =
    search (rules, flushed-laid_out)
applies_none (Err (stop.Memory zero _ _ _)) before after flushed world kept taken stops =
    absurd (omega arith)
applies_none (Err (stop.Memory (suc _) _ _ _)) before after flushed world kept taken stops =
    absurd (omega arith)
