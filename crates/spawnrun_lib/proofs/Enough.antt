-- A script that requests no more handles in all than it has slots is never refused a request. What
-- the calls of a frame request is no more than what its systems' operations request, on every
-- number of workers and in every order. So each frame begins with at least as many handles to give
-- as are still requested: a call takes what it requests, and a sync point takes nothing away.
use Rattle.spawnrun_lib.proofs.Common.{sum_by-flat_map, sum_by-cons, sum_by-append}
use Rattle.spawnrun_lib.proofs.Common.{sum_by-le-sum_by, get_or_from_slice_get, slice_get_within}
use Rattle.spawnrun_lib.proofs.Common.{rules, ◌≡◌, ℕ, zero, suc, ◌+◌, ◌<◌, ◌≤◌, List, [], ◌∷◌}
use Rattle.spawnrun_lib.proofs.Common.{length, map, refl, ap, arith, Some, Bool, cond, Result}
use Rattle.spawnrun_lib.proofs.Common.{common_steps, ◌==◌, filter, slice_get, sum_by, flat_map}
use Rattle.spawnrun_lib.proofs.Common.{range_with_len, All-head, All-tail, sum_by-IsPermutation}
use Rattle.spawnrun_lib.proofs.Common.{Handle, Space, Call, Command, Refused, stands_for, cost}
use Rattle.spawnrun_lib.proofs.Common.{View, World, IsFrame, queue_at, commands_of, sum_map}
use Rattle.spawnrun_lib.proofs.Common.{Operation, Bindings, names_after, IssuesAll, MayIssue}
use Rattle.spawnrun_lib.proofs.Common.{requested_by_operation, All, ◌-◌, le-leb, length-drop, IsOk}
use Rattle.spawnrun_lib.proofs.Common.{length-append, All-nil, All-cons, All-map, All-filter}
use Rattle.spawnrun_lib.proofs.Common.{All-permutation, AreLimits, quota, Allocator, after_take}
use Rattle.spawnrun_lib.proofs.Common.{IsLegal, after_history, length-fresh, All-left, All-right}
use Rattle.spawnrun_lib.proofs.Common.{after_take-served, FitsQuota, FitQuota, sync, first_world}
use Rattle.spawnrun_lib.proofs.Common.{after_queues-keeps, reserved_by, view_of, all_from_each}
use Rattle.spawnrun_lib.proofs.Common.{all_flat, flat_all, Script, IsGranted, AreGranted, Execution}
use Rattle.spawnrun_lib.proofs.Common.{AreExecutions, synced, HasEnoughSlots}
use Rattle.spawnrun_lib.proofs.OneCourse.{below_each}
use Rattle.spawnrun_lib.proofs.NoRefusal.{WereGranted}
use Rattle.ent_alloc.specs.declared.refused.Refused.TheVariants as refusal

-- ---- sums

sum_of_two : {X : Type 0} (f g : X → ℕ) (xs : List X)
    → sum_by (λ x. f x + g x) xs ≡ sum_by f xs + sum_by g xs
sum_of_two f g [] = omega arith
sum_of_two f g (x ∷ xs) = grind (arith, common_steps, sum_of_two f g xs)

-- one element adds no more than all together
one_of_sum : {X : Type 0} (f : X → ℕ) (xs : List X) (k : ℕ) (x : X) → slice_get xs k ≡ Some x
    → f x ≤ sum_by f xs
one_of_sum f xs k x at =
    grind (arith, common_steps, get_or_from_slice_get xs k x x at, slice_get_within xs k x at)

-- the elements of a list by their numbers
sum_by_number : {X : Type 0} (f : ℕ → ℕ) (g : X → ℕ) (a : ℕ) (xs : List X)
    → ((k : ℕ) (x : X) → slice_get xs k ≡ Some x → f (a + k) ≤ g x)
    → sum_by f (range_with_len a (length xs)) ≤ sum_by g xs
sum_by_number f g a [] each = omega arith
sum_by_number f g a (x ∷ xs) each =
    grind (
      arith,
      common_steps,
      each 0 x refl,
      sum_by_number f g (a + 1) xs (λ k y at. grind (arith, each (suc k) y at)),
    )

-- ---- the calls of a history, caller by caller

abbrev pub requested : Call → ℕ
requested call = call.requested

-- how much was requested in all
abbrev pub requested_in : List Call → ℕ
requested_in history = sum_by requested history

-- by one caller
abbrev requested_of : List Call → ℕ → ℕ
requested_of history caller = requested_in (filter (λ (call : Call). call.caller == caller) history)

-- who has made a call is one of the callers
one_caller : (c n a many : ℕ) → a ≤ c → c < a + many
    → n ≤ sum_by (λ k. cond (c == k) n 0) (range_with_len a many)
one_caller c n a zero from below = absurd (omega arith)
one_caller c n a (suc many) from below =
    grind (arith, common_steps, sum_by-cons, one_caller c n (a + 1) many)

by_callers : (callers : ℕ) (history : List Call)
    → All (λ (call : Call). call.caller < callers) history
    → requested_in history ≤ sum_by (requested_of history) (range_with_len 0 callers)
by_callers callers [] all = omega arith
by_callers callers (call ∷ history) all =
    let numbers : List ℕ = range_with_len 0 callers in
    let own : ℕ → ℕ = λ k. cond (call.caller == k) call.requested 0 in
    let less = All-head (λ (call : Call). call.caller < callers) call history all in
    let rest =
    by_callers callers history
    (All-tail (λ (call : Call). call.caller < callers) call history all) in
    let whole : sum_by (λ k. own k + requested_of history k) numbers
    ≡ sum_by (requested_of (call ∷ history)) numbers =
    λ i. sum_by (λ k. by_test (call.caller == k) (filter (λ (c : Call). c.caller == k) history) i)
    numbers in
    omega (
      arith,
      sum_by-cons requested call history,
      sum_of_two own (requested_of history) numbers,
      one_caller call.caller call.requested 0 callers (omega arith) (omega arith),
    )
  where
    by_test : (b : Bool) (others : List Call)
        → cond b call.requested 0 + requested_in others
        ≡ requested_in (cond b (call ∷ others) others)
    by_test it others = grind (arith, common_steps)

-- ---- the commands of a queue

-- for how many handles a command stands, given or refused
abbrev pub wanted_by : Command → ℕ
wanted_by (Refused wanted why) = wanted
wanted_by c = cost c

abbrev pub wanted_in : List Command → ℕ
wanted_in queue = sum_by wanted_by queue

-- What it has cost is no more: a refusal for lack of quota has cost nothing.
pub cost-wanted : (c : Command) → cost c ≤ wanted_by c
cost-wanted it = search rules

-- ---- what operations want

none_wanted : (command : Handle → Command) → ((h : Handle) → wanted_by (command h) ≡ 0)
    → (hs : List Handle) → wanted_in (map command hs) ≡ 0
none_wanted command none [] = refl
none_wanted command none (h ∷ hs) = search (rules, sum_by-cons, none_wanted command none hs)

operations-wanted : (view : View) (names : Bindings) (ops : List Operation) (queue : List Command)
    → IssuesAll view names ops queue → wanted_in queue ≡ sum_by requested_by_operation ops
operations-wanted view names [] queue is = ap wanted_in is
operations-wanted view names (op ∷ ops) queue (first, rest, is, may, others) =
    grind (
      arith,
      common_steps,
      sum_by-append,
      sum_by-cons,
      none_wanted,
      operations-wanted view (names_after names op first) ops rest others,
    )

-- The queues of the systems want what their operations request.
pub queues-wanted : (view : View) (systems : List (List Operation)) (queues : List (List Command))
    → length queues ≡ length systems
    → ((n : ℕ) (ops : List Operation) → slice_get systems n ≡ Some ops
    → MayIssue ops view (queue_at queues n))
    → sum_by wanted_in queues ≡ sum_by (sum_by requested_by_operation) systems
queues-wanted view [] [] same may = refl
queues-wanted view (ops ∷ systems) (q ∷ queues) same may =
    search (
      rules,
      sum_by-cons,
      operations-wanted,
      may 0 ops refl,
      queues-wanted view systems queues (omega arith) (λ n. may (suc n)),
    )
queues-wanted view _ _ same may = absurd (omega arith)

-- ---- a frame

module _ {S : Type 0} (may : S → View → List Command → Type 0) (systems : List S) (workers : ℕ)
    (before : World)
    (queues : List (List Command)) (history : List Call)
    (frame : IsFrame may systems workers before queues
    history) where
  abbrev wanted_at : ℕ → ℕ
  wanted_at n = wanted_in (queue_at queues n)

  of_systems : (mine : List ℕ) → wanted_in (commands_of queues mine) ≡ sum_by wanted_at mine
  of_systems mine = sum_by-flat_map (queue_at queues) wanted_by mine

  -- the systems of all workers are those of all queues
  of_workers : sum_by (sum_by wanted_at) frame.ran ≤ sum_by wanted_in queues
  of_workers = search (
    rules,
    arith,
    sum_by-flat_map (λ mine. mine) wanted_at frame.ran,
    sum_by-IsPermutation wanted_at _ _ frame.run.once,
    sum_by_number wanted_at wanted_in 0 queues,
    get_or_from_slice_get,
    frame.count,
  )

  -- The queues that a worker has filled want no more than all queues.
  pub worker-wanted : (worker : ℕ) (mine : List ℕ) → slice_get frame.ran worker ≡ Some mine
      → wanted_in (commands_of queues mine) ≤ sum_by wanted_in queues
  worker-wanted worker mine at = search (rules, of_systems, one_of_sum, of_workers)

  worker-requested : (worker : ℕ) (mine : List ℕ) → slice_get frame.ran worker ≡ Some mine
      → requested_of history worker ≤ sum_by wanted_at mine
  worker-requested worker mine at =
      let first : ℕ × Result (List Handle) Space → ℕ = λ request. request.0 in
      let calls = filter (λ (call : Call). call.caller == worker) history in
      omega (
        arith,
        sum_map first (λ (call : Call). (call.requested, call.reply)) calls,
        ap (sum_by first) (frame.work worker mine at).calls,
        sum_by-flat_map stands_for first (commands_of queues mine),
        sum_by-le-sum_by cost wanted_by (commands_of queues mine) cost-wanted,
        of_systems mine,
      )

  -- All calls together request no more than all queues want.
  pub history-wanted : requested_in history ≤ sum_by wanted_in queues
  history-wanted =
      search
      (rules, by_callers workers history frame.callers, sum_by_number, worker-requested, of_workers)

-- ---- a history of calls that request no more than is left

abbrev IsServed : Call → Type 0
IsServed call = IsOk call.reply

-- each is served, and the rest is left
all_served : (s : Allocator) (history : List Call) → IsLegal s history
    → requested_in history ≤ length s.pool
    → All IsServed history
    × (length (after_history s history).pool + requested_in history ≡ length s.pool)
all_served s [] legal enough = (All-nil IsServed, omega arith)
all_served s (call ∷ calls) legal enough = search (
  rules,
  arith,
  sum_by-cons requested call calls,
  All-cons,
  le-leb,
  after_take-served,
  length-drop,
  all_served (after_take s call.requested) calls legal.2,
)

-- ---- the commands of a worker

abbrev Request : Type 0
Request = ℕ × Result (List Handle) Space

abbrev IsReplied : Request → Type 0
IsReplied request = IsOk request.1

-- it fits the quota that is left, and the allocator has served it
command-granted : (left : ℕ) (c : Command) → FitsQuota left c → wanted_by c ≤ left
    → All IsReplied (stands_for c) → IsGranted c
command-granted left (Refused wanted (refusal.Space same rest)) fits within replied =
    search (rules, All-head)
command-granted left (Refused wanted (refusal.Quota rest)) fits within replied = search rules
command-granted left _ fits within replied = tt

commands-granted : (left : ℕ) (commands : List Command) → FitQuota left commands
    → wanted_in commands ≤ left → All IsReplied (flat_map stands_for commands)
    → All IsGranted commands
commands-granted left [] fit within replied = All-nil IsGranted
commands-granted left (c ∷ cs) fit within replied =
    search (
      rules,
      All-cons,
      command-granted left c fit.0 (omega (arith, sum_by-cons wanted_by c cs)),
      All-left,
      All-right,
      commands-granted (left - cost c) cs fit.1
          (omega (arith, sum_by-cons wanted_by c cs, cost-wanted c)),
    )

-- ---- what a sync point leaves

-- there are at least that many handles to give
abbrev HasLeft : ℕ → World → Type 0
HasLeft n w = n ≤ length w.allocator.pool

sync-left : (n : ℕ) (queues : List (List Command)) (w : World) → HasLeft n w
    → HasLeft n (sync queues w).world
sync-left n queues w left = search (rules, length-append, after_queues-keeps (HasLeft n))

-- ---- a frame

abbrev requested_by_systems : List (List Operation) → ℕ
requested_by_systems systems = sum_by (sum_by requested_by_operation) systems

module _ (systems : List (List Operation)) (workers : ℕ) (w : World) (queues : List (List Command))
    (history : List Call) (frame : IsFrame MayIssue systems workers w queues history)
    (enough : requested_by_systems systems ≤ length w.allocator.pool)
    (small : requested_by_systems systems ≤ quota) where
  wanted : sum_by wanted_in queues ≡ requested_by_systems systems
  wanted = queues-wanted (view_of w) systems queues frame.count frame.each_system

  served : All IsServed history
      × (length (after_history w.allocator history).pool + requested_in history
      ≡ length w.allocator.pool)
  served =
      search
      (rules, wanted, all_served, history-wanted MayIssue systems workers w queues history frame)

  abbrev IsGrantedAt : ℕ → Type 0
  IsGrantedAt n = All IsGranted (queue_at queues n)

  worker-granted : (worker : ℕ) (mine : List ℕ) → slice_get frame.ran worker ≡ Some mine
      → All IsGrantedAt mine
  worker-granted worker mine at =
      let work = frame.work worker mine at in
      flat_all IsGranted (queue_at queues) mine (commands-granted quota _ work.within
      (omega (arith, worker-wanted _ _ _ _ _ _ frame worker mine at, wanted))
      (rw (← work.calls) (All-map IsReplied
      (λ (call : Call). (call.requested, call.reply)) _
      (All-filter (λ (call : Call). call.caller == worker) IsServed
      history served.0))))

  frame-granted : AreGranted queues
  frame-granted =
      let all =
      All-permutation IsGrantedAt _ _ frame.run.once
      (all_flat IsGrantedAt (λ mine. mine) frame.ran
      (all_from_each (λ mine. All IsGrantedAt mine) frame.ran worker-granted)) in
      all_from_each (All IsGranted) queues (λ k q at. search (
        rules,
        get_or_from_slice_get queues k q [] at,
        below_each IsGrantedAt (length systems) all k
            (omega (arith, slice_get_within queues k q at, frame.count)),
      ))

  -- what its systems have not requested is left for the frames after it
  frame-left : (n : ℕ) → requested_by_systems systems + n ≤ length w.allocator.pool
      → HasLeft n (sync queues (reserved_by history w)).world
  frame-left n more = sync-left n queues (reserved_by history w)
      (omega
      (arith, history-wanted MayIssue systems workers w queues history frame, wanted, served.1))

-- ---- all frames

more_granted : (workers : ℕ) (w : World) (frames : List (List (List Operation)))
    (executions : List Execution) → AreExecutions workers w frames executions
    → sum_by requested_by_systems frames ≤ length w.allocator.pool
    → sum_by requested_by_systems frames ≤ quota → All WereGranted executions
more_granted workers w [] [] went enough small = All-nil WereGranted
more_granted workers w (systems ∷ frames) (e ∷ executions) went enough small =
    let sums = sum_by-cons requested_by_systems systems frames in
    let left =
    frame-left systems workers w e.queues e.history went.0 (omega arith) (omega arith) _
    (omega arith) in
    search (
      rules,
      All-cons,
      frame-granted systems workers w e.queues e.history went.0 (omega arith) (omega arith),
      more_granted workers (synced w e).world frames executions went.1 left (omega arith),
    )
more_granted workers w _ _ went enough small = absurd went

-- In the first world each slot has a handle to give, and a worker's quota is more than all slots.
pub granted_if_enough : (script : Script) (workers : ℕ) (executions : List Execution)
    → AreLimits script.limits
    → AreExecutions workers (first_world script.limits) script.frames executions
    → HasEnoughSlots script → All (λ e. AreGranted e.queues) executions
unfolding quota
granted_if_enough script workers executions limits went enough =
    search (rules, length-fresh, more_granted)
