-- What a crew did whose jobs are systems that fill logs, and the history of its reservers.
use Rattle.ent_runner.proofs.Common.{rules, [], IsFilled, IsReturned, Shared, Reserver, records_of}
use Rattle.ent_runner.proofs.Common.{All, slice_get, List, Some, Option, Vec, Global, Result, IfOk}
use Rattle.ent_runner.proofs.Common.{IfErr, IfErr-weaker, IfOk-weaker, None, length-map, Ended}
use Rattle.ent_runner.proofs.Common.{Stopped, first_error, ap, length, sym, ℕ, ◌<◌, ◌∙◌, ◌≡◌}
use Rattle.ent_runner.proofs.Common.{slice_get_within, flat_map, ◌==◌, Call, IsLegal, after_history}
use Rattle.ent_runner.proofs.Common.{given_in, Allocator, spawned_in, Entry, map, AreBrokenOff}
use Rattle.ent_runner.proofs.Common.{AreDone, DidAll, OfEach, Respects, as_call, handles_of}
use Rattle.ent_runner.proofs.Common.{history_of, reservations_by, reservations_of, opened}
use Rattle.ent_runner.proofs.Common.{opened_records, Record, Reservation, requests_by, quota}
use Rattle.ent_runner.proofs.Common.{HaveLogged, HaveRun, AreRun, get_or_from_slice_get}
use Rattle.ent_runner.proofs.Common.{SystemMayLog, entries_by, given_to, log_at, requests_in}
use Rattle.ent_queue.specs.Logging as logging
use Rattle.ent_shared.specs.Requests.{stands_for, FitQuota}
use Rattle.ent_runner.specs.Logs.{IsBrokenOff, SystemMayLeave}
use Rattle.ent_runner.proofs.Adding.{Either, added_at, all_either, each_may, of_each, ours}
use Rattle.ent_runner.proofs.Adding.{own_mapped}
use Rattle.ent_runner.proofs.EachOutput.{done_seen, broken_off_seen, first_of, stop_short}
use Rattle.ent_runner.proofs.Lists.{each_of_all, filter_map_is, get_mapped, map_map_is}
use Rattle.ent_runner.proofs.Gaining.{LogGains, log_gains, log_gains_nothing, log_gains_then}
use Rattle.ent_runner.proofs.Gaining.{one_each as each_one, spawned}

-- the calls of one caller in the history
by_caller : (k : ℕ) (records : List Record)
    → requests_by k (history_of records)
    ≡ map (λ (r : Reservation). (r.requested, r.reply))
    (reservations_by k (reservations_of records))
by_caller k records = search (rules, filter_map_is, map_map_is)

-- what a system may do as a job
abbrev pub Logs : {C S : Type 0} → (S → List (Entry C) → Type 0) → List S → ℕ → Record
    → List (Entry C) → Record → Type 0
Logs may systems n before log after = LogGains before log after × SystemMayLog may systems n log

module _ {C S : Type 0} (may : S → List (Entry C) → Type 0) (systems : List S)
    (shared : Shared) where
  -- seen with the whole reserver that was lent to it
  abbrev pub Fills : ℕ → Reserver → List (Entry C) → Reserver → Type 0
  Fills n before log after =
      IsFilled logging.Logs [] (IsReturned shared) before log after × SystemMayLog may systems n log

  pub fills_gain : (n : ℕ) (before : Reserver) (log : List (Entry C)) (after : Reserver)
      → Fills n before log after → Logs may systems n before.own log after.own
  fills_gain n before log after (f, system) = (log_gains shared before after log f, system)

module _ {C S E : Type 0} (leave : S → List (Entry C) → E → Type 0) where
  -- what it may leave with this error
  abbrev Left : E → S → List (Entry C) → Type 0
  Left error system log = leave system log error

  module _ (systems : List S) where
    -- a job that stopped
    abbrev pub Leaves : ℕ → Record → List (Entry C) × Option E → Record → Type 0
    Leaves = Stopped (λ n before log error after. Logs (Left error) systems n before log after)

    abbrev pub LeavesFilled : Shared → ℕ → Reserver → List (Entry C) × Option E → Reserver → Type 0
    LeavesFilled shared =
        Stopped (λ n before log error after. Fills (Left error) systems shared n before log after)

module _ {C S : Type 0} (may : S → List (Entry C) → Type 0) (systems : List S)
    (shared : Shared) where
  pub all_gained : (jobs : ℕ) (before : List Reserver) (logs : List (List (Entry C)))
      (after : List Reserver) → AreDone (Fills may systems shared) jobs before logs after
      → AreDone (Logs may systems) jobs (records_of before) logs (records_of after)
  all_gained = done_seen (λ (r : Reserver). r.own) _ _ (fills_gain may systems shared)

  pub some_gained : {E : Type 0} (leave : S → List (Entry C) → E → Type 0) (jobs : ℕ)
      (before : List Reserver) (left : List (Option (List (Entry C) × Option E)))
      (after : List Reserver)
      → AreBrokenOff (Ended (Fills may systems shared)) (LeavesFilled leave systems shared) jobs
      before left after
      → AreBrokenOff (Ended (Logs may systems)) (Leaves leave systems) jobs (records_of before) left
      (records_of after)
  some_gained leave = broken_off_seen (λ (r : Reserver). r.own) _ _
      (λ n a one b it. (it.0, fills_gain may systems shared n a one.0 b it.1)) _ _
      (λ n a one b it.
      (it.0, it.1, fills_gain (λ s log. leave s log it.0) systems shared n a one.0 b it.2))

module _ {C : Type 0} (start after : Allocator) (workers : ℕ) (opens records : List Record)
    (opened_are : opens ≡ opened_records start 0 workers) (many : length opens ≡ workers)
    (long : length records ≡ workers) (legal : IsLegal start (history_of records))
    (respects : All (Respects (reservations_of records)) records)
    (after_is : after ≡ after_history start (history_of records)) where
  module _ (P : ℕ → List (Entry C) → Type 0) (count : ℕ) (logs : List (List (Entry C)))
      (ran : List (List ℕ))
      (each : length ran ≡ length opens) (runs : AreRun workers count ran)
      (each_log : length logs ≡ count)
      (did : OfEach ran opens records
      (λ mine a b. DidAll (λ n before log after. LogGains before log after × P n log)
      logs a mine b)) where
    worked_at : (k : ℕ) (mine : List ℕ) → slice_get ran k ≡ Some mine
        → (r : Record) × (slice_get records k ≡ Some r)
        × LogGains (opened start k) (entries_by logs mine) r
    worked_at =
        added_at LogGains (log_gains_nothing C) log_gains_then P logs start workers opens records
        opened_are many
        long ran each did

    calls_at : (k : ℕ) (mine : List ℕ) → slice_get ran k ≡ Some mine
        → requests_by k (history_of records)
        ≡ flat_map stands_for (requests_in (entries_by logs mine))
    calls_at k mine at =
        let r = worked_at k mine at in
        let own = each_of_all (Respects (reservations_of records)) records k r.0 respects r.1 in
        search (rules, by_caller k records, own.own, own_mapped r.2.reservations, r.2)

    within_at : (k : ℕ) (mine : List ℕ) → slice_get ran k ≡ Some mine → FitQuota quota (requests_in
        (entries_by logs mine))
    within_at k mine at = (worked_at k mine at).2.within

    given_at : (k : ℕ) (mine : List ℕ) → slice_get ran k ≡ Some mine
        → given_to k (history_of records) ≡ spawned_in (entries_by logs mine)
    given_at k mine at =
        let r = worked_at k mine at in
        let own = each_of_all (Respects (reservations_of records)) records k r.0 respects r.1 in
        ap given_in
        (filter_map_is (λ (call : Call). call.caller == k) as_call (reservations_of records))
        ∙ (ap handles_of (rw r.2.number at own.own) ∙ (r.2.given ∙ spawned (entries_by logs mine)))

    one_each : All (λ (call : Call). call.requested ≡ 1) (history_of records)
    one_each =
        of_each LogGains (log_gains_nothing C) log_gains_then P logs start workers opens records
        opened_are many long ran each did (λ call. call.requested ≡ 1)
        (λ k xs r less g. rw (g.entries, own_mapped g.reservations) (each_one _ _ xs g))

    run_is : HaveRun workers count start logs after
    run_is =
        search (
          rules,
          legal,
          after_is,
          runs,
          calls_at,
          within_at,
          given_at,
          each_log,
          ours LogGains (log_gains_nothing C) log_gains_then P logs start workers opens records
              opened_are many long ran each did
              (λ k xs r g. rw (g.entries, own_mapped g.reservations) g.callers),
          one_each,
        )

    each_holds : (n : ℕ) → n < count → P n (log_at logs n)
    each_holds =
        each_may LogGains (log_gains_nothing C) log_gains_then P logs start workers opens records
        opened_are many long ran each did count runs.once

  module _ {S E : Type 0} (may : S → List (Entry C) → Type 0)
      (leave : S → List (Entry C) → E → Type 0)
      (systems : List S) where
    abbrev May : ℕ → List (Entry C) → Type 0
    May n log = SystemMayLog may systems n log

    abbrev Leave : ℕ → List (Entry C) → E → Type 0
    Leave n log error = SystemMayLeave leave systems n log error

    logged : (logs : List (List (Entry C)))
        → AreDone (Logs may systems) (length systems) opens logs records
        → HaveLogged may systems workers start logs after
    logged logs done = search (
      rules,
      run_is May (length systems) logs done.ran done.run.each_worker (rw many at done.run)
          done.count done.did,
      each_holds May (length systems) logs done.ran done.run.each_worker (rw many at done.run)
          done.count done.did,
      slice_get_within,
    )

    broken_off : (left : List (Option (List (Entry C) × Option E)))
        → AreBrokenOff (Ended (Logs may systems)) (Leaves leave systems) (length systems) opens left
        records → IsBrokenOff may leave systems workers start after (first_error left)
    unfolding run_is
    broken_off left done =
        let made : List (List (Entry C) × Option E) = done.outputs in
        let logs : List (List (Entry C)) = map (λ (one : List (Entry C) × Option E). one.0) made in
        let errors : List (Option E) = map (λ (one : List (Entry C) × Option E). one.1) made in
        let Left : ℕ → List (Entry C) → Type 0 = Either LogGains May Leave made in
        let did : OfEach done.ran opens records
        (λ mine a b. DidAll (λ n before log after. LogGains before log after
        × Left n log) logs a mine b) =
        λ k mine a b at at_a at_b. all_either LogGains May Leave made a mine b
        (done.did k mine a b at at_a at_b) in
        let here = λ (n : ℕ) (one : List (Entry C) × Option E) (at : slice_get made n ≡ Some one).
        get_or_from_slice_get logs n one.0 [] (get_mapped (λ one. one.0) made n one at) in
        let failed = λ (n : ℕ) (one : List (Entry C) × Option E) (at : slice_get made n ≡ Some one).
        get_or_from_slice_get errors n one.1 None (get_mapped (λ one. one.1) made n one at) in
        let long_logs : length logs ≡ done.count = length-map made (λ one. one.0)
        ∙ done.each_output in
        record {
          count = done.count;
          logs = logs;
          run =
              run_is Left done.count logs done.ran done.run.each_worker (rw many at done.run)
              long_logs did;
          errors = errors;
          short =
              stop_short _ _ May Leave _ opens left records (long ∙ sym many) done logs [] errors
              long_logs (length-map made (λ one. one.1) ∙ done.each_output)
              (λ n a one b at it. (failed n one at ∙ it.0, rw (here n one at) it.1.1))
              (λ n a one b at it. (it.0, failed n one at ∙ it.1, rw (here n one at) it.2.1))
              (first_error left) (ap first_error done.left_are ∙ first_of made _);
        }

    -- the crew has worked, and the allocator was closed
    pub ran :
        (got : Result (Vec (List (Entry C)) Global)
        (Vec (Option (List (Entry C) × Option E)) Global)) (jobs : ℕ) → jobs ≡ length systems
        → IfOk got (λ logs. AreDone (Logs may systems) jobs opens logs.items records)
        → IfErr got
        (λ left. AreBrokenOff (Ended (Logs may systems)) (Leaves leave systems) jobs opens
        left.items records)
        → IfOk got (λ logs. HaveLogged may systems workers start logs.items after)
        × IfErr got
        (λ left. IsBrokenOff may leave systems workers start after (first_error left.items))
    ran got jobs all done lost = (
      search (rules, IfOk-weaker, logged),
      IfErr-weaker got _
          (λ left. IsBrokenOff may leave systems workers start after (first_error left.items))
          (λ left it. broken_off left.items (rw all at it)) lost,
    )
