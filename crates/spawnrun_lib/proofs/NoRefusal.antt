-- A report by births that tells of no refusal: no request of the run was refused. A request that
-- was refused is a fault of its frame, faults are only appended, and each has its line in the text.
use Rattle.spawnrun_lib.proofs.Common.{rules, ◌≡◌, refl, ◌∙◌, inl, inr, ℕ, ◌+◌, List, [], ◌∷◌, ◌++◌}
use Rattle.spawnrun_lib.proofs.Common.{length, All, append_assoc, append-nil, decimal, flat_map}
use Rattle.spawnrun_lib.proofs.Common.{All-nil, All-cons, All-head, Handle, All-left, All-right}
use Rattle.spawnrun_lib.proofs.Common.{Command, Refused, Fault, FaultKind, World, first_world}
use Rattle.spawnrun_lib.proofs.Common.{Applied, on_entity, on_each, with_fault, after_command}
use Rattle.spawnrun_lib.proofs.Common.{after_commands, after_queues, sync, reserved_by, Script}
use Rattle.spawnrun_lib.proofs.Common.{IsGranted, AreGranted, Births, kind_text, fault_line}
use Rattle.spawnrun_lib.proofs.Common.{frame_line, Execution, synced, born_in, frames_text}
use Rattle.spawnrun_lib.proofs.Common.{IsReportOf, IsRefusedRequest, IsLines, TellsNoRefusal, codes}
use Rattle.ent_alloc.specs.declared.refused.Refused.TheVariants as refusal
use Rattle.ent_world.specs.declared.fault.FaultKind.TheVariants as kind

-- ---- faults without a refusal: so were those before, and each command was granted

abbrev pub IsNoRefusal : Fault → Type 0
IsNoRefusal fault = IsRefusedRequest fault.kind → ⊥

abbrev AreNone : Applied → Type 0
AreNone a = All IsNoRefusal a.faults

module _ (system command : ℕ) where
  before_fault : (why : FaultKind) (a : Applied) → AreNone (with_fault system command why a)
      → AreNone a × (IsRefusedRequest why → ⊥)
  before_fault why a none = (
    All-left IsNoRefusal a.faults _ none,
    All-head IsNoRefusal _ [] (All-right IsNoRefusal a.faults _ none),
  )

  module _ (change : Handle → World → World) where
    before_one : (h : Handle) (a : Applied) → AreNone (on_entity system command change h a)
        → AreNone a
    before_one h a none = search (rules, before_fault (kind.NotAlive h) a)

    before_each : (hs : List Handle) (a : Applied) → AreNone (on_each system command change hs a)
        → AreNone a
    before_each [] a none = none
    before_each (h ∷ hs) a none =
        before_one h a (before_each hs (on_entity system command change h a) none)

  before_command : (c : Command) (a : Applied) → AreNone (after_command system command c a)
      → AreNone a × IsGranted c
  before_command (Refused wanted (refusal.Space same left)) a none =
      search (rules, before_fault (kind.Space same left) a none)
  before_command (Refused wanted (refusal.Quota left)) a none =
      search (rules, before_fault (kind.Quota left) a none)
  before_command _ a none = (search (before_one, before_each), tt)

before_commands : (system command : ℕ) (q : List Command) (a : Applied)
    → AreNone (after_commands system command q a) → AreNone a × All IsGranted q
before_commands system command [] a none = (none, All-nil IsGranted)
before_commands system command (c ∷ q) a none =
    search (
      rules,
      All-cons,
      before_command system command c a,
      before_commands system (command + 1) q (after_command system command c a) none,
    )

before_queues : (system : ℕ) (queues : List (List Command)) (a : Applied)
    → AreNone (after_queues system queues a) → AreNone a × AreGranted queues
before_queues system [] a none = (none, All-nil (All IsGranted))
before_queues system (q ∷ queues) a none =
    search (
      rules,
      before_commands,
      All-cons,
      before_queues (system + 1) queues (after_commands system 0 q a) none,
    )

pub sync-granted : (queues : List (List Command)) (w : World)
    → All IsNoRefusal (sync queues w).faults → AreGranted queues
sync-granted queues w none = search (rules, before_queues)

-- ---- lines

abbrev HasEnd : List ℕ → Type 0
HasEnd text = (earlier : List ℕ) × (text ≡ earlier ++ 10 ∷ [])

end_after : (a b : List ℕ) → HasEnd b → HasEnd (a ++ b)
end_after a b (earlier, is) = search (rules, append_assoc a earlier (10 ∷ []))

lines_after : (a b : List ℕ) → IsLines a → IsLines b → IsLines (a ++ b)
lines_after a b lines which = search (rules, append-nil, end_after)

fault_line-end : (fault : Fault) → HasEnd (fault_line Births fault)
fault_line-end fault = (
  codes "fault " ++ decimal fault.system ++ codes " " ++ decimal fault.command
      ++ kind_text Births fault.kind,
  refl,
)

frame_line-end : (number born faults : ℕ) → HasEnd (frame_line number born faults)
frame_line-end number born faults = (
  codes "frame " ++ decimal number ++ codes " born " ++ decimal born ++ codes " faults "
      ++ decimal faults,
  refl,
)

fault_lines : (faults : List Fault) → IsLines (flat_map (fault_line Births) faults)
fault_lines [] = inl refl
fault_lines (fault ∷ faults) =
    lines_after (fault_line Births fault) (flat_map (fault_line Births) faults)
    (inr (fault_line-end fault)) (fault_lines faults)

-- ---- what a text tells

-- no request of the frame was refused
abbrev pub WereGranted : Execution → Type 0
WereGranted e = AreGranted e.queues

module _ (text : List ℕ) (none : TellsNoRefusal text) where
  -- these lines stand in it between others
  faults_told : (before : List ℕ) (faults : List Fault) (after : List ℕ) → IsLines before
      → text ≡ before ++ (flat_map (fault_line Births) faults ++ after) → All IsNoRefusal faults
  faults_told before [] after lines is = All-nil IsNoRefusal
  faults_told before (fault ∷ faults) after lines is =
      let line = fault_line Births fault in
      let here : text ≡ (before ++ line) ++ (flat_map (fault_line Births) faults ++ after) = rw is
      (simp append_assoc) in
      search (
        rules,
        All-cons,
        here,
        none fault,
        lines_after before line lines (inr (fault_line-end fault)),
        faults_told (before ++ line) faults after,
      )

  frames_told : (number : ℕ) (w : World) (executions : List Execution) (before after : List ℕ)
      → IsLines before → text ≡ before ++ (frames_text Births number w executions ++ after)
      → All WereGranted executions
  frames_told number w [] before after lines is = All-nil WereGranted
  frames_told number w (e ∷ executions) before after lines is =
      let faults = (synced w e).faults in
      let first = frame_line number (length (born_in w e)) (length faults) in
      let told = flat_map (fault_line Births) faults in
      let others = frames_text Births (number + 1) (synced w e).world executions in
      let here : text ≡ (before ++ first) ++ (told ++ (others ++ after)) = is ∙ simp append_assoc in
      let begun = lines_after before first lines (search (rules, frame_line-end)) in
      All-cons WereGranted e executions (sync-granted e.queues (reserved_by e.history w)
      (faults_told (before ++ first) faults (others ++ after) begun here))
      (frames_told (number + 1) (synced w e).world executions ((before ++ first) ++ told) after
      (lines_after (before ++ first) told begun (fault_lines faults)) (rw append_assoc here))

-- Where the text of a report tells of no refusal, no request was refused, however the frames went.
pub granted_if_untold : (script : Script) (workers : ℕ) (executions : List Execution)
    (text : List ℕ) → IsReportOf script workers Births executions text → TellsNoRefusal text
    → All (λ e. AreGranted e.queues) executions
granted_if_untold script workers executions text report none =
    frames_told text none 0 (first_world script.limits) executions [] report.world_text (inl refl)
    report.is
