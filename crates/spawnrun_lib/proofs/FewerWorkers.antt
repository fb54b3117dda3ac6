-- A frame of fewer workers is one of more, of whom the others have nothing to do.
use Rattle.spawnrun_lib.proofs.Common.{rules, ◌≡◌, ◌⊎◌, inl, inr, refl, ℕ, zero, suc, ◌<◌, ◌≤◌, ◌-◌}
use Rattle.spawnrun_lib.proofs.Common.{◌==◌, false, arith, common_steps, List, [], ◌∷◌, ◌++◌, length}
use Rattle.spawnrun_lib.proofs.Common.{Some, slice_get, append-nil, flat_map, flat_map-append, All}
use Rattle.spawnrun_lib.proofs.Common.{AllPairs, All-append, All-weaker, Call, Handle, Command, World}
use Rattle.spawnrun_lib.proofs.Common.{View, Fault, IsFrame, Ends}
use Rattle.ent_alloc.proofs.ListLaws.{filter_none}
use Rattle.ent_runner.proofs.Common.{replicate}
use Rattle.ent_runner.proofs.NoSystems.{no_jobs, all_rise, is_none}
use Rattle.ent_runner.specs.Frame.{IsWork, requests_by}
use Rattle.ent_runner.specs.Runs.{AreRun}

flat_none : (more : ℕ) → flat_map (λ (mine : List ℕ). mine) (replicate more no_jobs) ≡ []
flat_none zero = refl
flat_none (suc more) = flat_none more

-- a worker of these is one of the first, or has nothing to do
which : (ran : List (List ℕ)) (more worker : ℕ) (mine : List ℕ)
    → slice_get (ran ++ replicate more no_jobs) worker ≡ Some mine
    → (slice_get ran worker ≡ Some mine) ⊎ ((length ran ≤ worker) × (mine ≡ []))
which [] more worker mine at = inr (omega arith, is_none more worker mine at)
which (r ∷ ran) more zero mine at = inl at
which (r ∷ ran) more (suc worker) mine at = elim (which ran more worker mine at) [
  | inl there ↦ inl there
  | inr past ↦ inr (omega (arith, past.0), past.1)
]

-- who isn't one of the first workers has made none of their calls
other_caller : (worker few : ℕ) (call : Call) → few ≤ worker → call.caller < few
    → (call.caller == worker) ≡ false
other_caller worker few call past within = grind (arith, common_steps)

no_calls : (worker few : ℕ) (history : List Call) → few ≤ worker
    → All (λ (call : Call). call.caller < few) history → requests_by worker history ≡ []
no_calls worker few history past within =
    search (rules, filter_none, All-weaker, other_caller)

module _ (few workers : ℕ) (fewer : few ≤ workers) where
  are_run : (count : ℕ) (ran : List (List ℕ)) → AreRun few count ran
      → AreRun workers count (ran ++ replicate (workers - few) no_jobs)
  are_run count ran run = record {
    each_worker = grind (arith, common_steps, run.each_worker);
    once = rw (
      flat_map-append (λ (mine : List ℕ). mine) ran (replicate (workers - few) no_jobs),
      flat_none (workers - few),
      append-nil,
    ) run.once;
    rising = All-append (AllPairs (λ m n. m < n)) _ _ run.rising (all_rise (workers - few));
  }

  pub more_workers : {S : Type 0} (may : S → View → List Command → Type 0) (systems : List S)
      (before : World) (queues : List (List Command)) (history : List Call)
      → IsFrame may systems few before queues history
      → IsFrame may systems workers before queues history
  more_workers may systems before queues history frame =
      let idle : (worker : ℕ) (mine : List ℕ) → length frame.ran ≤ worker → mine ≡ []
      → IsWork queues history worker mine = λ worker mine past none. rw none (record {
        calls = no_calls worker few history (omega (arith, past, frame.run.each_worker)) frame.callers;
        within = tt;
      }) in record {
        legal = frame.legal;
        callers = search (rules, All-weaker, frame.callers);
        ran = frame.ran ++ replicate (workers - few) no_jobs;
        run = are_run _ _ frame.run;
        work = λ worker mine at. elim (which frame.ran (workers - few) worker mine at) [
          | inl there ↦ frame.work worker mine there
          | inr past ↦ idle worker mine past.0 past.1
        ];
        count = frame.count;
        each_system = frame.each_system;
      }

  pub ends_with_more : {S : Type 0} (may : S → View → List Command → Type 0) (systems : List S)
      (before : World) (queues : List (List Command)) (after : World) (came : List Handle)
      (faults : List Fault) → Ends may systems few before queues after came faults
      → Ends may systems workers before queues after came faults
  ends_with_more may systems before queues after came faults ends = record {
    history = ends.history;
    frame = more_workers may systems before queues ends.history ends.frame;
    world = ends.world;
    born_are = ends.born_are;
    faults_are = ends.faults_are;
  }
