-- What a crew did whose jobs are the systems of a frame, and the history of its reservers, are a
-- frame. What a frame leaves if no queue was applied.
use Rattle.ent_runner.proofs.Common.{rules, ◌≡◌, ℕ, List, [], IsFilled, IsReturned, Shared}
use Rattle.ent_runner.proofs.Common.{Reserver, records_of, gains_of, Record, Command, Gains, View}
use Rattle.ent_runner.proofs.Common.{SystemMayIssue, SystemMayLeave, Ended, Stopped, first_error}
use Rattle.ent_runner.proofs.Common.{length-map, Result, All, slice_get, Some, length, map, ◌<◌}
use Rattle.ent_runner.proofs.Common.{◌∙◌, slice_get_within, flat_map, range_with_len, IsPermutation}
use Rattle.ent_runner.proofs.Common.{Call, IsLegal, gains_nothing, gains_then, Respects, history_of}
use Rattle.ent_runner.proofs.Common.{reservations_by, reservations_of, opened_records, Reservation}
use Rattle.ent_runner.proofs.Common.{World, AreBrokenOff, AreDone, DidAll, OfEach, IsBrokenOff}
use Rattle.ent_runner.proofs.Common.{IsFrame, IsWork, get_or_from_slice_get, queue_at, requests_by}
use Rattle.ent_runner.proofs.Common.{view_of, sym, Option, Vec, Global, ap, IfOk, IfErr}
use Rattle.ent_runner.proofs.Common.{IfErr-weaker, IfOk-weaker, Err, None, Ok, drop_of_length-le}
use Rattle.ent_runner.proofs.Common.{IsSound, after_history, after_takes-sound}
use Rattle.ent_runner.proofs.Common.{available-after_takes, limits-after_takes, live-after_takes}
use Rattle.ent_runner.proofs.Common.{made-after_takes, length-taken, after_history-takes, OpenWorld}
use Rattle.ent_runner.proofs.Common.{world_at_start, IsLost, reserved_by}
use Rattle.ent_runner.proofs.Common.{IfStopped, IsErrOf, IsStop, StopsAt, SyncFault, SyncReport}
use Rattle.ent_runner.proofs.Common.{born}
use Rattle.ent_queue.specs.Issuing as issuing
use Rattle.ent_runner.specs.Frame.{IsHalf}
use Rattle.ent_world.specs.Sync.{sync_until}
use Rattle.ent_world.specs.declared.fault.SyncFault.TheVariants as stop
use Rattle.ent_runner.proofs.Lists.{each_of_all, filter_map_is, get_mapped, map_map_is}
use Rattle.ent_runner.proofs.Adding.{Either, own_mapped, all_either, added_at, ours, each_may}
use Rattle.ent_runner.proofs.EachOutput.{done_seen, broken_off_seen, first_of, stop_short}

-- the calls of one caller in the history
by_caller : (k : ℕ) (records : List Record)
    → requests_by k (history_of records)
    ≡ map (λ (r : Reservation). (r.requested, r.reply))
    (reservations_by k (reservations_of records))
by_caller k records = search (rules, filter_map_is, map_map_is)

module _ {S : Type 0} (may : S → View → List Command → Type 0) (systems : List S)
    (view : View) where
  -- what a system may do as a job
  abbrev pub Issues : ℕ → Record → List Command → Record → Type 0
  Issues n before queue after = Gains before queue after × SystemMayIssue may systems view n queue

  module _ (shared : Shared) where
    -- seen with the whole reserver that was lent to it
    abbrev pub Fills : ℕ → Reserver → List Command → Reserver → Type 0
    Fills n before queue after = IsFilled issuing.Issues [] (IsReturned shared) before queue after
        × SystemMayIssue may systems view n queue

    pub fills_gain : (n : ℕ) (before : Reserver) (queue : List Command) (after : Reserver)
        → Fills n before queue after → Issues n before.own queue after.own
    fills_gain n before queue after (f, system) = (
      rw f.adds.queue
          (gains_of shared before after f.adds.added (rw f.adds.requests_are at f.served)),
      system,
    )

module _ {S E : Type 0} (leave : S → View → List Command → E → Type 0) where
  -- what it may leave with this error
  abbrev Left : E → S → View → List Command → Type 0
  Left error system view queue = leave system view queue error

  module _ (systems : List S) (view : View) where
    -- a job that stopped
    abbrev pub Leaves : ℕ → Record → List Command × Option E → Record → Type 0
    Leaves =
        Stopped
        (λ n before queue error after. Issues (Left error) systems view n before queue after)

    abbrev pub LeavesFilled : Shared → ℕ → Reserver → List Command × Option E → Reserver → Type 0
    LeavesFilled shared =
        Stopped
        (λ n before queue error after. Fills (Left error) systems view shared n before queue after)

module _ {S : Type 0} (may : S → View → List Command → Type 0) (systems : List S) (view : View)
    (shared : Shared) where
  pub all_gained : (jobs : ℕ) (before : List Reserver) (queues : List (List Command))
      (after : List Reserver) → AreDone (Fills may systems view shared) jobs before queues after
      → AreDone (Issues may systems view) jobs (records_of before) queues (records_of after)
  all_gained = done_seen (λ (r : Reserver). r.own) _ _ (fills_gain may systems view shared)

  pub some_gained : {E : Type 0} (leave : S → View → List Command → E → Type 0) (jobs : ℕ)
      (before : List Reserver) (left : List (Option (List Command × Option E)))
      (after : List Reserver)
      → AreBrokenOff (Ended (Fills may systems view shared))
      (LeavesFilled leave systems view shared) jobs before left after
      → AreBrokenOff (Ended (Issues may systems view)) (Leaves leave systems view) jobs
      (records_of before) left (records_of after)
  some_gained leave = broken_off_seen (λ (r : Reserver). r.own) _ _
      (λ n a one b it. (it.0, fills_gain may systems view shared n a one.0 b it.1)) _ _
      (λ n a one b it.
      (it.0, it.1, fills_gain (λ s v q. leave s v q it.0) systems view shared n a one.0 b it.2))

-- what the workers gained, and their histories
module _ (before : World) (workers : ℕ) (opens records : List Record)
    (opened_are : opens ≡ opened_records before.allocator 0 workers) (many : length opens ≡ workers)
    (long : length records ≡ workers) (legal : IsLegal before.allocator (history_of records))
    (respects : All (Respects (reservations_of records)) records) where
  module _ (P : ℕ → List Command → Type 0) (queues : List (List Command)) (ran : List (List ℕ))
      (teams : length ran ≡ length opens) (did : OfEach ran opens records
      (λ mine a b. DidAll (λ n before queue after. Gains before queue after × P n queue) queues a
      mine b)) where
    worked : (k : ℕ) (mine : List ℕ) → slice_get ran k ≡ Some mine
        → IsWork queues (history_of records) k mine
    worked k mine at =
        let r =
        added_at Gains gains_nothing gains_then P queues before.allocator workers opens records
        opened_are many
        long ran teams did k mine at in
        let own = each_of_all (Respects (reservations_of records)) records k r.0 respects r.1 in
        search (
          rules,
          by_caller k records,
          own.own,
          own_mapped r.2.reservations,
          r.2,
        )

    callers : All (λ (call : Call). call.caller < workers) (history_of records)
    callers =
        ours Gains gains_nothing gains_then P queues before.allocator workers opens records
        opened_are many long ran teams did
        (λ k xs r g. rw (g.entries, own_mapped g.reservations) g.callers)

    each_issues : (jobs : ℕ) → IsPermutation (flat_map (λ mine. mine) ran) (range_with_len 0 jobs)
        → (n : ℕ) → n < jobs → P n (queue_at queues n)
    each_issues =
        each_may _ gains_nothing gains_then P _ before.allocator _ _ _ opened_are many long ran
        teams did

  module _ {S : Type 0} (may : S → View → List Command → Type 0) (systems : List S) where
    abbrev May : ℕ → List Command → Type 0
    May n queue = SystemMayIssue may systems (view_of before) n queue

    pub frame_is : (queues : List (List Command))
        → AreDone (Issues may systems (view_of before)) (length systems) opens queues records
        → IsFrame may systems workers before queues (history_of records)
    frame_is queues done = record {
      legal = legal;
      callers = callers May queues done.ran done.run.each_worker done.did;
      ran = done.ran;
      run = rw many at done.run;
      work = worked May queues done.ran done.run.each_worker done.did;
      count = done.count;
      each_system =
          λ n system at. each_issues May queues done.ran done.run.each_worker done.did
          (length systems) done.run.once n (slice_get_within systems n system at) system at;
    }

    pub broken_off : {E : Type 0} (leave : S → View → List Command → E → Type 0)
        (left : List (Option (List Command × Option E)))
        → AreBrokenOff (Ended (Issues may systems (view_of before)))
        (Leaves leave systems (view_of before)) (length systems) opens left records
        → IsBrokenOff may leave systems workers before (history_of records) (first_error left)
    broken_off {E} leave left done =
        let Leave : ℕ → List Command → E → Type 0 = SystemMayLeave leave systems (view_of before) in
        let Left : ℕ → List Command → Type 0 = Either Gains May Leave done.outputs in
        let made : List (List Command × Option E) = done.outputs in
        let queues : List (List Command) = map (λ (one : List Command × Option E). one.0) made in
        let errors : List (Option E) = map (λ (one : List Command × Option E). one.1) made in
        let did : OfEach done.ran opens records
        (λ mine a b. DidAll (λ n before queue after. Gains before queue after
        × Left n queue) queues a mine b) =
        λ k mine a b at at_a at_b. all_either Gains May Leave made a mine b
        (done.did k mine a b at at_a at_b) in
        let here = λ (n : ℕ) (one : List Command × Option E) (at : slice_get made n ≡ Some one).
        get_or_from_slice_get queues n one.0 [] (get_mapped (λ one. one.0) made n one at) in
        let failed = λ (n : ℕ) (one : List Command × Option E) (at : slice_get made n ≡ Some one).
        get_or_from_slice_get errors n one.1 None (get_mapped (λ one. one.1) made n one at) in
        record {
          legal = legal;
          callers = callers Left queues done.ran done.run.each_worker did;
          ran = done.ran;
          count = done.count;
          run = rw many at done.run;
          queues = queues;
          errors = errors;
          short =
              stop_short _ _ May Leave _ opens left records (long ∙ sym many) done queues [] errors
              (length-map made (λ one. one.0) ∙ done.each_output)
              (length-map made (λ one. one.1) ∙ done.each_output)
              (λ n a one b at it. (failed n one at ∙ it.0, rw (here n one at) it.1.1))
              (λ n a one b at it. (it.0, failed n one at ∙ it.1, rw (here n one at) it.2.1))
              (first_error left) (ap first_error done.left_are ∙ first_of made _);
          work = worked Left queues done.ran done.run.each_worker did;
        }

pub is_lost : (before w : World) (history : List Call) → IsSound before.allocator
    → before.allocator.asked ≡ 0 → w ≡ reserved_by history before → IsLost before w
is_lost before w history sound flushed changed = search (
  rules,
  after_history-takes,
  after_takes-sound,
  available-after_takes,
  sound.pool,
  limits-after_takes,
  live-after_takes,
  made-after_takes,
  length-taken,
  drop_of_length-le,
)

-- what a crew returns whose outputs are queues
abbrev pub Queues : Type 0 → Type 0
Queues E = Result (Vec (List Command) Global) (Vec (Option (List Command × Option E)) Global)

-- What is known of a world that was opened and closed again, and of the queues, if there are any.
abbrev pub ClosedAgain : {S E : Type 0} → (S → View → List Command → Type 0)
    → (S → View → List Command → E → Type 0) → List S → OpenWorld → World → Queues E → Type 0
ClosedAgain may leave systems world after got = (history : List Call)
    × IfErr got
    (λ left. IsBrokenOff may leave systems world.shared.count (world_at_start world) history
    (first_error left.items)) × (after ≡ reserved_by history (world_at_start world))
    × IfOk got (λ q. IsFrame may systems world.shared.count (world_at_start world) q.items history)

pub view_is : (world : OpenWorld) (view : View) → view.phase ≡ world.phase
    → view.entities ≡ world.entities → view ≡ view_of (world_at_start world)
view_is world view phase entities = (λ i. record { phase = phase i; entities = entities i })

-- The crew has worked, and the world was closed: so it is closed again.
pub closed_again : {S E : Type 0} (may : S → View → List Command → Type 0)
    (leave : S → View → List Command → E → Type 0) (systems : List S) (world : OpenWorld)
    (after : World) (got : Queues E) (opens records : List Record) (jobs : ℕ) (view : View)
    → jobs ≡ length systems → view ≡ view_of (world_at_start world)
    → opens ≡ opened_records world.shared.start 0 world.shared.count
    → length opens ≡ world.shared.count → length records ≡ world.shared.count
    → IfOk got (λ q. AreDone (Issues may systems view) jobs opens q.items records)
    → IfErr got
    (λ left. AreBrokenOff (Ended (Issues may systems view)) (Leaves leave systems view) jobs opens
    left.items records) → after.phase ≡ world.phase → after.entities ≡ world.entities
    → after.allocator ≡ after_history world.shared.start (history_of records)
    → IsLegal world.shared.start (history_of records)
    → All (Respects (reservations_of records)) records
    → ClosedAgain may leave systems world after got
closed_again may leave systems world after got opens records jobs view all seen opened many long
    done lost phase
    entities allocator legal respects =
    let start = world_at_start world in
    let lost_by = IfErr-weaker got _ (λ left. IsBrokenOff may leave systems world.shared.count start
    (history_of records) (first_error left.items)) (λ left done.
    broken_off start world.shared.count opens records
    opened many long legal respects may systems leave left.items (rw (seen, all) at done)) lost in
    search (rules, lost_by, IfOk-weaker, frame_is)

module _ {S E : Type 0} (may : S → View → List Command → Type 0)
    (leave : S → View → List Command → E → Type 0)
    (systems : List S) (before after : World) (world : OpenWorld) (got : Queues E)
    (same : world_at_start world ≡ before) (closed : ClosedAgain may leave systems world after got)
  where
    abbrev changed : after ≡ reserved_by closed.0 before
    changed = closed.2 ∙ ap (reserved_by closed.0) same

    pub lost_again : IsSound world.shared.start → before.allocator.asked ≡ 0 → IsLost before after
    lost_again sound flushed = search (rules, is_lost before after closed.0, changed)

    pub broken_again : (workers : ℕ) → world.shared.count ≡ workers
        → (left : Vec (Option (List Command × Option E)) Global) → got ≡ Err left
        → (error : Option E) → error ≡ first_error left.items
        → (history : List Call) × IsBrokenOff may leave systems workers before history error
        × (after ≡ reserved_by history before)
    broken_again workers count left is error first =
        let broken = rw is at closed.1 in search (rules, broken, changed, closed)

    pub framed_again : (workers : ℕ) → world.shared.count ≡ workers
        → (queues : Vec (List Command) Global) → got ≡ Ok queues
        → (history : List Call) × IsFrame may systems workers before queues.items history
        × (after ≡ reserved_by history before)
    framed_again workers count queues is =
        let frame = rw is at closed.3 in search (rules, frame, changed, closed)

-- All systems ran, and the sync point of their queues stopped.
module _ (queues : List (List Command)) (before after : World) (fault : SyncFault)
    (flush : IsErrOf {T = SyncReport} (Err fault) stop.FlushMemory → after ≡ before)
    (at : IfStopped {X = SyncReport} (Err fault)
    (λ system command done _. IsStop system command done queues))
    (world : IfStopped {X = SyncReport} (Err fault)
    (λ system command done _. after ≡ (sync_until system command done queues before).world))
    (came : IfStopped {X = SyncReport} (Err fault)
    (λ _ _ _ so_far. so_far.born.items ≡ born before.allocator))
    (faults : IfStopped {X = SyncReport} (Err fault)
    (λ system command done so_far.
    so_far.faults.items ≡ (sync_until system command done queues before).faults)) where
  half : (system command done : ℕ) (so_far : SyncReport)
      → fault ≡ stop.Memory system command done so_far
      → IsHalf queues before system command done so_far after
  half system command done so_far is = record {
    stop = rw is at at;
    so = record { world = rw is at world; faults_are = rw is at faults };
    born_are = rw is at came;
  }

  pub stops_at : {S : Type 0} (may : S → View → List Command → Type 0) (systems : List S)
      (workers : ℕ) (start : World)
      → (history : List Call) × IsFrame may systems workers start queues history
      × (before ≡ reserved_by history start) → StopsAt may systems workers start queues after fault
  stops_at may systems workers start (history, frame, reserved) = record {
    history = history;
    frame = frame;
    flush_memory = λ is. flush (ap Err is) ∙ reserved;
    memory = λ system command done so_far is. rw reserved at half system command done so_far is;
  }
