-- What holds of a run of no systems.
use Rattle.ent_runner.proofs.Common.{◌≡◌, ℕ, ◌<◌, List, [], ◌∷◌, length, refl, arith, replicate}
use Rattle.ent_runner.proofs.Common.{length-replicate, All-nil, Allocator, Call, Entry, HaveLogged}
use Rattle.ent_runner.proofs.NoSystems.{no_jobs, none_once, all_rise, is_none}

logged_none : {C S : Type 0} (may : S → List (Entry C) → Type 0) (workers : ℕ) (s : Allocator)
    → HaveLogged may [] workers s [] s
logged_none may workers s = record {
  run = record {
    history = [];
    legal = tt;
    after_is = refl;
    callers = All-nil (λ (call : Call). call.caller < workers);
    one_each = All-nil (λ (call : Call). call.requested ≡ 1);
    ran = replicate workers no_jobs;
    run = record {
      each_worker = length-replicate workers no_jobs;
      once = none_once workers;
      rising = all_rise workers;
    };
    calls = λ worker mine at. rw (is_none workers worker mine at) refl;
    within = λ worker mine at. rw (is_none workers worker mine at) tt;
    given = λ worker mine at. rw (is_none workers worker mine at) refl;
    each_log = refl;
  };
  each_system = λ n system at. absurd (cc);
}

pub logged_nothing : {C S : Type 0} (may : S → List (Entry C) → Type 0) (systems : List S)
    (workers : ℕ) (before : Allocator) (logs : List (List (Entry C))) (after : Allocator)
    → length systems ≡ 0 → logs ≡ [] → after ≡ before
    → HaveLogged may systems workers before logs after
logged_nothing may [] workers before logs after none no_logs same =
    rw (no_logs, same) (logged_none may workers before)
logged_nothing may (system ∷ systems) workers before logs after none no_logs same =
    absurd (omega arith)
