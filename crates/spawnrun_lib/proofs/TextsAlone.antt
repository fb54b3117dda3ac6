-- Where births alone tell each frame of a run, its text by births is that of births alone. They do,
-- each frame and so the next one, if no request of the run was refused and the script names no
-- handle.
use Rattle.spawnrun_lib.proofs.Common.{arith, rules, ◌≡◌, refl, ℕ, ◌+◌, true, false, T, List, []}
use Rattle.spawnrun_lib.proofs.Common.{◌∷◌, ◌++◌, length, map, All, unwrap_or, append_assoc}
use Rattle.spawnrun_lib.proofs.Common.{append-nil, common_steps, then_total, on_total}
use Rattle.spawnrun_lib.proofs.Common.{options_total, Ordering, is_sorted, below_all}
use Rattle.spawnrun_lib.proofs.Common.{AllByRecursion, AllZip, flat_map, IsDistinct, eq_by_cmp}
use Rattle.spawnrun_lib.proofs.Common.{eq_by_cmp_equiv, length-map, All-head, All-tail, All-weaker}
use Rattle.spawnrun_lib.proofs.Common.{All-contains_itself, IsDistinct-from_apart}
use Rattle.spawnrun_lib.proofs.Common.{length-from_same_keys, AllZip-long, Birth, birth_cmp_total}
use Rattle.spawnrun_lib.proofs.Common.{Handle, handle_cmp, handle_cmp_total, stands_in, same_handle}
use Rattle.spawnrun_lib.proofs.Common.{Contains-from_stands_in, stands_in-from_Contains, ListsAll}
use Rattle.spawnrun_lib.proofs.Common.{Entity, EntityMap, birth_of, filter-all, Bundle, first}
use Rattle.spawnrun_lib.proofs.Common.{second, Fault, World, BirthMap, BirthFault, frame_alone}
use Rattle.spawnrun_lib.proofs.Common.{AreNamed, IsThere, IsSameFault, entity_there, listed-named}
use Rattle.spawnrun_lib.proofs.Common.{Operation, IsFrameAlone, queues_by_births, Births}
use Rattle.spawnrun_lib.proofs.Common.{fault_line, IsWorldText, line_in, alive_line, Execution}
use Rattle.spawnrun_lib.proofs.Common.{synced, last_world, frames_text, birth_fault_line}
use Rattle.spawnrun_lib.proofs.Common.{birth_line, text_from, option_map, tied_itself, ◌^◌, ◌<◌}
use Rattle.spawnrun_lib.proofs.Common.{Some, none-some, AreBelow, IsWorld, first_world-sound}
use Rattle.spawnrun_lib.proofs.Common.{first_world-living, IsScript, Script, NamesNoHandle}
use Rattle.spawnrun_lib.proofs.Common.{AreGranted, AreExecutions, IsReportOf, IsReport}
use Rattle.spawnrun_lib.proofs.Common.{IsWithoutHandles, HasEnoughSlots, TellsNoRefusal, text_alone}
use Rattle.spawnrun_lib.proofs.QueuesAlone.{frame-alone}
use Rattle.spawnrun_lib.proofs.Enough.{granted_if_enough}
use Rattle.spawnrun_lib.proofs.NoRefusal.{WereGranted, granted_if_untold}
use Rattle.std.specs.FinMap as finite

-- ---- the text of a frame

faults_alike : (faults : List Fault) (by_births : List BirthFault)
    → AllZip IsSameFault faults by_births
    → flat_map (fault_line Births) faults ≡ flat_map birth_fault_line by_births
faults_alike [] [] are = refl
faults_alike (fault ∷ faults) (b ∷ by_births) are =
    grind (arith, common_steps, faults_alike faults by_births are.1)
faults_alike _ _ are = absurd are

-- ---- the text of a world

module _ {K X : Type 0} (R : K → K → Ordering) where
  below_apart : (q : K) (es : List (K × X)) → T (below_all R q es)
      → AllByRecursion (λ y. eq_by_cmp R q y ≡ false) (map (λ e. e.0) es)
  below_apart q [] below = tt
  below_apart q (e ∷ es) below = search (rules, below_apart q es)

  keys_apart : (es : List (K × X)) → T (is_sorted R es)
      → IsDistinct (eq_by_cmp R) (map (λ e. e.0) es)
  unfolding IsDistinct
  keys_apart [] sorted = tt
  keys_apart (e ∷ es) sorted = search (rules, below_apart, first, second, keys_apart es)

module _ (m : EntityMap) (handles : List Handle) (lists : ListsAll m handles) where
  handles_apart : IsDistinct (eq_by_cmp handle_cmp) handles
  handles_apart =
      IsDistinct-from_apart (eq_by_cmp handle_cmp) handles
      (λ i j d less within.
      grind (
        arith,
        common_steps,
        same_handle,
        tied_itself
            (then_total (on_total (birth_of m) (options_total birth_cmp_total)) handle_cmp_total),
        lists.rising i j d less within,
      ))

  alike : (h : Handle) → stands_in handles h ≡ stands_in (finite.keys m) h
  alike h =
      let here = Contains-from_stands_in handles h in
      let there = stands_in-from_Contains handles h in
      search (rules, finite.contains_key-keys m h, lists.holds)

  -- there are as many handles as entities
  as_many : finite.len m ≡ length handles
  as_many = search (
    rules,
    finite.len-entries m,
    length-map (finite.entries m) (λ e. e.0),
    length-from_same_keys (eq_by_cmp_equiv handle_cmp_total) handles (finite.keys m) handles_apart
        (keys_apart handle_cmp (finite.entries m) (finite.entries_sorted m)) alike,
  )

module _ (components : List (List ℕ)) (m : EntityMap) (births : BirthMap)
    (named : AreNamed m births) where
  -- the birth of each entity is a name for it
  abbrev name : Handle → Birth
  name h = unwrap_or (birth_of m h) (record { frame = 0; system = 0; ordinal = 0 })

  abbrev entry_of : Handle → Birth × Bundle
  entry_of h =
      (name h, unwrap_or (option_map (λ e. finite.entries e.components) (finite.get m h)) [])

  lines_alike : (handles : List Handle) → All (IsThere m) handles
      → flat_map (line_in components Births m) handles
      ≡ flat_map (birth_line components) (map entry_of handles)
  lines_alike [] all = refl
  lines_alike (h ∷ handles) all =
      search (
        rules,
        All-head,
        All-tail,
        lines_alike handles (All-tail (IsThere m) h handles all),
        entity_there,
        append-nil,
      )

  world_alike : (text : List ℕ) → IsWorldText components Births m text
      → text ≡ flat_map (birth_line components) births ++ alive_line (length births)
  world_alike text is =
      let all =
      listed-named name m births named (λ h e is. search rules) (λ _. true) (λ _. true)
      (λ _. refl)
      is.handles is.lists in
      search (
        rules,
        all,
        filter-all births,
        as_many,
        length-map,
        lines_alike,
        All-weaker,
        is.lists.holds,
        All-contains_itself,
      )

-- ---- the text of a run

-- Births alone tell each of the frames, from this world on.
abbrev pub AreToldAlone : World → BirthMap → List (List (List Operation)) → List Execution → Type 0
AreToldAlone w view [] [] = Unit {0}
AreToldAlone w view [] (e ∷ executions) = ⊥
AreToldAlone w view (systems ∷ frames) [] = ⊥
AreToldAlone w view (systems ∷ frames) (e ∷ executions) =
    IsFrameAlone w e.queues e.history systems view
    × AreToldAlone (synced w e).world (frame_alone (queues_by_births w view systems) view).entities
    frames executions

pub text_alike : (components : List (List ℕ)) (w : World) (view : BirthMap)
    (frames : List (List (List Operation))) (executions : List Execution) (world_text : List ℕ)
    → AreNamed w.entities view → AreToldAlone w view frames executions
    → IsWorldText components Births (last_world w executions).entities world_text
    → frames_text Births w.phase w executions ++ world_text
    ≡ text_from components w.phase view frames
text_alike components w view [] [] world_text named told is =
    world_alike components w.entities view named world_text is
text_alike components w view (systems ∷ frames) (e ∷ executions) world_text named told is =
    search (
      rules,
      append_assoc,
      text_alike components (synced w e).world
          (frame_alone (queues_by_births w view systems) view).entities frames executions world_text,
      faults_alike,
      AllZip-long,
    )
text_alike components w view _ _ world_text named told is = absurd told

-- ---- a report of a run in which no request was refused

told : (workers : ℕ) (w : World) (view : BirthMap) (frames : List (List (List Operation)))
    (executions : List Execution) → AreExecutions workers w frames executions → IsWorld w
    → w.allocator.asked ≡ 0 → AreNamed w.entities view → AreBelow w.phase w.entities
    → w.phase + length frames < 2 ^ 64 → All (All NamesNoHandle) frames → All WereGranted executions
    → AreToldAlone w view frames executions
told workers w view [] [] went is_world flushed named below few free granted = tt
told workers w view (systems ∷ frames) (e ∷ executions) went is_world flushed named below few free
    granted =
    let early : w.phase + 1 < 2 ^ 64 = omega (arith, few) in
    let one : IsFrameAlone w e.queues e.history systems view =
    search (rules, frame-alone, All-head, WereGranted) in (
      one,
      told workers (synced w e).world (frame_alone (queues_by_births w view systems) view).entities
          frames executions
          went.1 one.world one.flushed one.after.entities one.below (omega (arith, few, one.phase))
          (All-tail (All NamesNoHandle) systems frames free)
          (All-tail WereGranted e executions granted),
    )
told workers w view _ _ went is_world flushed named below few free granted = absurd went

-- ---- from nobody on

nobody : (h : Handle) (e : Entity) → finite.get (finite.empty {R = handle_cmp}) h ≡ Some e → ⊥
nobody h e is = search (rules, none-some, finite.get-empty)

pub same_if_granted : (script : Script) (workers : ℕ) (executions : List Execution) (text : List ℕ)
    → IsScript script → IsReportOf script workers Births executions text → IsWithoutHandles script
    → All (λ e. AreGranted e.queues) executions → text ≡ text_alone script
same_if_granted script workers executions text ranges report free granted =
    search (
      rules,
      first_world-sound,
      first_world-living,
      text_alike,
      told,
      nobody,
      finite.get-empty,
      none-some,
    )

pub same_text : (script : Script) (workers : ℕ) (text : List ℕ) → IsScript script
    → IsReport script workers Births text → IsWithoutHandles script → TellsNoRefusal text
    → text ≡ text_alone script
same_text script workers text ranges (executions, report) free none =
    search (rules, same_if_granted, granted_if_untold)

pub enough_text : (script : Script) (workers : ℕ) (text : List ℕ) → IsScript script
    → IsReport script workers Births text → IsWithoutHandles script → HasEnoughSlots script
    → text ≡ text_alone script
enough_text script workers text ranges (executions, report) free enough =
    search (rules, same_if_granted, granted_if_enough)
