-- A frame of scripted systems on one worker has one course: its queues and its history follow from
-- the systems and the world. And a world has one text.
use Rattle.spawnrun_lib.proofs.Common.{rules, each_of_all, ◌≡◌, refl, sym, ◌∙◌, arith, append-nil}
use Rattle.spawnrun_lib.proofs.Common.{ℕ, ◌<◌, List, [], ◌∷◌, ◌++◌, length, Some, common_steps}
use Rattle.spawnrun_lib.proofs.Common.{slice_get, AllPairs, flat_map, range_with_len, IsPermutation}
use Rattle.spawnrun_lib.proofs.Common.{ext_get_or, All-nil, All-cons, All-head, All-tail}
use Rattle.spawnrun_lib.proofs.Common.{length-range_with_len, get_or-range_with_len}
use Rattle.spawnrun_lib.proofs.Common.{All-permutation, IsPermutation-sym, Birth, Handle, quota}
use Rattle.spawnrun_lib.proofs.Common.{Allocator, Call, one_list_with, Command, Spawn, SpawnMany}
use Rattle.spawnrun_lib.proofs.Common.{World, View, IsFrame, view_of, queue_at, commands_of}
use Rattle.spawnrun_lib.proofs.Common.{at_within, all_below, calls_back, Operation, Target}
use Rattle.spawnrun_lib.proofs.Common.{Bindings, unbound, names_after, IsTargeted, OnEach, Issues}
use Rattle.spawnrun_lib.proofs.Common.{IssuesAll, MayIssue, All, Contains-permutation, same_list}
use Rattle.spawnrun_lib.proofs.Common.{◌-◌, map, flat_map-append, map-append, after_take, IsLegal}
use Rattle.spawnrun_lib.proofs.Common.{after_history, stands_for, cost, FitQuota, first_call}
use Rattle.spawnrun_lib.proofs.Common.{first_world, Script, Show, Execution, AreExecutions, synced}
use Rattle.spawnrun_lib.proofs.Common.{last_world, IsReport, EntityMap, one_list_of_all}
use Rattle.spawnrun_lib.proofs.Common.{IsWorldText}
use Rattle.ent_script.specs.declared.operation.Operation.TheVariants as operation
use Rattle.ent_script.specs.declared.target.Target.TheVariants as target

-- ---- commands whose reservations an allocator has replied to, and the quota has allowed

-- the calls of the first worker that has issued these commands
abbrev pub calls_of : List Command → List Call
calls_of commands = map first_call (flat_map stands_for commands)

-- The allocator has replied to the reservations of the commands, and that much quota was left
-- before.
pub record IsServed (s : Allocator) (left : ℕ) (commands : List Command) : Type 0 where
  pub legal : IsLegal s (calls_of commands)
  pub within : FitQuota left commands

-- the allocator and the quota after the commands
abbrev pub state_after : Allocator → List Command → Allocator
state_after s commands = after_history s (calls_of commands)

abbrev pub left_after : ℕ → List Command → ℕ
left_after left [] = left
left_after left (c ∷ cs) = left_after (left - cost c) cs

within_parts : (left : ℕ) (cs ds : List Command) → FitQuota left (cs ++ ds)
    → FitQuota left cs × FitQuota (left_after left cs) ds
within_parts left [] ds within = (tt, within)
within_parts left (c ∷ cs) ds within = search (rules, within_parts (left - cost c) cs ds)

legal_parts : (s : Allocator) (calls more : List Call) → IsLegal s (calls ++ more)
    → IsLegal s calls × IsLegal (after_history s calls) more
legal_parts s [] more legal = (tt, legal)
legal_parts s (call ∷ calls) more legal =
    search (rules, legal_parts (after_take s call.requested) calls more)

-- what is served is served up to any command, and the others are served after it
served_first : (s : Allocator) (left : ℕ) (cs ds : List Command) → IsServed s left (cs ++ ds)
    → IsServed s left cs
served_first s left cs ds served =
    search (rules, legal_parts, flat_map-append, map-append, within_parts)

served_rest : (s : Allocator) (left : ℕ) (cs ds : List Command) → IsServed s left (cs ++ ds)
    → IsServed (state_after s cs) (left_after left cs) ds
served_rest s left cs ds served =
    search (rules, legal_parts, flat_map-append, map-append, within_parts)

pub one_rising : (ms ns all : List ℕ) → AllPairs (λ m n. m < n) ms → AllPairs (λ m n. m < n) ns
    → IsPermutation ms all → IsPermutation ns all → ms ≡ ns
one_rising ms ns all a b p q =
    same_list (λ m n. m < n) (λ m n less greater. absurd (omega (arith, less, greater))) ms ns a b
    (search (rules, Contains-permutation, IsPermutation-sym))
    (search (rules, Contains-permutation, IsPermutation-sym))

-- ---- one operation

-- a target means one list of handles
same_targets : (view : View) (names : Bindings) (on : Target) (hs ks : List Handle)
    → IsTargeted view names on hs → IsTargeted view names on ks → hs ≡ ks
same_targets view names (target.Each id) hs ks a b = one_list_with id view.entities hs ks a b
same_targets view names (target.Birth birth) hs ks a b = grind (arith, common_steps)
same_targets view names _ hs ks a b = a ∙ sym b

pub same_on_each : (view : View) (names : Bindings) (on : Target) (command : Handle → Command)
    (cs ds : List Command) → OnEach view names on command cs → OnEach view names on command ds
    → cs ≡ ds
same_on_each view names on command cs ds a b = search (rules, same_targets)

same_operation : (view : View) (names : Bindings) (op : Operation) (s : Allocator) (left : ℕ)
    (cs ds : List Command) → Issues view names op cs → Issues view names op ds → IsServed s left cs
    → IsServed s left ds → cs ≡ ds
same_operation view names (operation.Spawn bundle binds) s left cs ds a b p q =
    grind (arith, common_steps)
same_operation view names (operation.SpawnMany count bundle binds) s left cs ds a b p q =
    grind (arith, common_steps)
same_operation view names _ s left cs ds a b p q = same_on_each view names _ _ cs ds a b

-- ---- one system

-- After the same commands the allocator, the quota and the names are the same, so the rest
-- follows.
same_queue : (view : View) (names : Bindings) (ops : List Operation) (s : Allocator) (left : ℕ)
    (cs ds : List Command) → IssuesAll view names ops cs → IssuesAll view names ops ds
    → IsServed s left cs → IsServed s left ds → cs ≡ ds
same_queue view names [] s left cs ds a b p q = a ∙ sym b
same_queue view names (op ∷ ops) s left cs ds (first, rest, cs_are, may, others)
    (first', rest', ds_are, may', others') p q =
    search (
      rules,
      same_operation view names op s left first first',
      served_first,
      served_rest,
      same_queue view (names_after names op first) ops (state_after s first) (left_after left first)
          rest rest' others,
    )

-- ---- one worker

-- The worker ran these systems, and the history has its calls.
record IsAlone (count : ℕ) (w : World) (queues : List (List Command)) (history : List Call) : Type 0
  where
    mine : List ℕ
    rising : AllPairs (λ m n. m < n) mine
    once : IsPermutation mine (range_with_len 0 count)
    calls : history ≡ calls_of (commands_of queues mine)
    served : IsServed w.allocator quota (commands_of queues mine)

only_one : (ran : List (List ℕ)) → length ran ≡ 1 → (mine : List ℕ) × (slice_get ran 0 ≡ Some mine)
    × (flat_map (λ mine. mine) ran ≡ mine)
only_one (mine ∷ []) one = (mine, refl, append-nil mine)
only_one _ one = absurd (omega arith)

is_alone : (systems : List (List Operation)) (w : World) (queues : List (List Command))
    (history : List Call) → IsFrame MayIssue systems 1 w queues history
    → IsAlone (length systems) w queues history
is_alone systems w queues history frame =
    let only = only_one frame.ran frame.run.each_worker in
    let rises = each_of_all (AllPairs (λ m n. m < n)) frame.ran 0 only.0 frame.run.rising only.1 in
    search (rules, calls_of, calls_back, frame.work 0 only.0 only.1, frame.run, rises)

-- each system has a queue that it may issue
abbrev MayIssueEach : View → List (List Operation) → List (List Command) → Type 0
MayIssueEach view systems queues = (n : ℕ) (system : List Operation)
    → slice_get systems n ≡ Some system → MayIssue system view (queue_at queues n)

-- the systems in the order in which the worker ran them
same_queues : (view : View) (systems : List (List Operation)) (q r : List (List Command))
    (ns : List ℕ) (s : Allocator) (left : ℕ) → All (λ n. n < length systems) ns
    → MayIssueEach view systems q → MayIssueEach view systems r → IsServed s left (commands_of q ns)
    → IsServed s left (commands_of r ns) → All (λ n. queue_at q n ≡ queue_at r n) ns
same_queues view systems q r [] s left below may may' served served' = search (rules, All-nil)
same_queues view systems q r (n ∷ ns) s left below may may' served served' =
    let system = at_within systems n (All-head (λ n. n < length systems) n ns below) in
    search (
      rules,
      All-tail,
      All-cons,
      same_queue view unbound system.0 s left _ _ (may n system.0 system.1)
          (may' n system.0 system.1),
      served_first,
      served_rest,
      same_queues view systems q r ns (state_after s (queue_at q n))
          (left_after left (queue_at q n))
          (All-tail (λ n. n < length systems) n ns below) may may',
    )

-- ---- one course

-- what holds of all numbers below holds of each
pub below_each : (P : ℕ → Type 0) (count : ℕ) → All P (range_with_len 0 count) → (n : ℕ) → n < count
    → P n
below_each P count all n less =
    search (rules, length-range_with_len 0 count, get_or-range_with_len 0 count n 0 less)

pub one_course : (systems : List (List Operation)) (w : World) (q r : List (List Command))
    (h k : List Call) → IsFrame MayIssue systems 1 w q h → IsFrame MayIssue systems 1 w r k
    → (q ≡ r) × (h ≡ k)
one_course systems w q r h k first second =
    let a = is_alone systems w q h first in
    let b = is_alone systems w r k second in
    let mine : a.mine ≡ b.mine = one_rising _ _ _ a.rising b.rising a.once b.once in
    let below = All-permutation (λ n. n < length systems) _ _ (IsPermutation-sym _ _ a.once)
    (all_below (length systems)) in
    let each =
    same_queues (view_of w) systems q r a.mine w.allocator quota below first.each_system
    second.each_system
    a.served (rw (← mine) at b.served) in
    let at = All-permutation (λ n. queue_at q n ≡ queue_at r n) _ _ a.once each in
    let queues = ext_get_or [] q r (first.count ∙ sym second.count) (λ n less.
    below_each (λ n. queue_at q n ≡ queue_at r n) _ at n (omega (arith, less, first.count))) in
    search rules

-- ---- one report

same_executions : (w : World) (frames : List (List (List Operation))) (es fs : List Execution)
    → AreExecutions 1 w frames es → AreExecutions 1 w frames fs → es ≡ fs
same_executions w [] [] [] a b = refl
same_executions w (systems ∷ frames) (e ∷ es) (f ∷ fs) a b = grind (
  arith,
  common_steps,
  one_course systems w e.queues f.queues e.history f.history a.0 b.0,
  same_executions (synced w e).world frames es fs a.1,
)
same_executions w _ _ _ a b = search rules

-- no other list has the entities of a world in the order of births
pub one_text : (names : List (List ℕ)) (s : Show) (m : EntityMap) (t u : List ℕ)
    → IsWorldText names s m t → IsWorldText names s m u → t ≡ u
one_text names s m t u a b = search (rules, one_list_of_all m a.handles b.handles a.lists b.lists)

pub one_report : (script : Script) (show : Show) (text other : List ℕ) → IsReport script 1 show text
    → IsReport script 1 show other → text ≡ other
one_report script show text other a b =
    let first = first_world script.limits in
    let same = same_executions first script.frames a.0 b.0 a.1.frames b.1.frames in
    search (
      rules,
      same,
      one_text script.components show (last_world first a.0).entities a.1.world_text
          b.1.world_text a.1.world,
    )
