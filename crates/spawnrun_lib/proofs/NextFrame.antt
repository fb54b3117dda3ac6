-- A run whose first frames are done goes on by one frame, and ends in a report, or in blocks in the
-- text of its script.
use Rattle.spawnrun_lib.proofs.Common.{rules, ◌≡◌, refl, subst, ℕ, ◌+◌, ◌≤◌, List, [], ◌∷◌, ◌++◌}
use Rattle.spawnrun_lib.proofs.Common.{length, append_assoc, append-nil, length-append, All-cons}
use Rattle.spawnrun_lib.proofs.Common.{All-nil, All-tail, AllFrom, IsFrameOf, Handle, Command}
use Rattle.spawnrun_lib.proofs.Common.{World, Fault, IsFrame, Ends, Operation, MayIssue, Show}
use Rattle.spawnrun_lib.proofs.Common.{frame_text, Execution, AreExecutions, synced, born_in}
use Rattle.spawnrun_lib.proofs.Common.{last_world, frames_text, AreFew, HaveGone, first_world}
use Rattle.spawnrun_lib.proofs.Common.{Script, EndsInBlocks, HaveGoneInBlocks, IsTextInBlocks}
use Rattle.spawnrun_lib.proofs.Common.{sizes_of, IsWorldText}

-- ---- one frame more

went_on : (workers : ℕ) (w : World) (frames : List (List (List Operation)))
    (executions : List Execution) (systems : List (List Operation)) (e : Execution)
    → AreExecutions workers w frames executions
    → IsFrame MayIssue systems workers (last_world w executions) e.queues e.history
    → AreExecutions workers w (frames ++ systems ∷ []) (executions ++ e ∷ [])
went_on workers w [] [] systems e went frame = (frame, tt)
went_on workers w (s ∷ frames) (x ∷ executions) systems e went frame =
    (went.0, went_on workers (synced w x).world frames executions systems e went.1 frame)
went_on workers w _ _ systems e went frame = absurd went

world_on : (w : World) (executions : List Execution) (e : Execution)
    → last_world w (executions ++ e ∷ []) ≡ (synced (last_world w executions) e).world
world_on w [] e = refl
world_on w (x ∷ executions) e = world_on (synced w x).world executions e

text_on : (workers : ℕ) (show : Show) (number : ℕ) (w : World)
    (frames : List (List (List Operation))) (executions : List Execution) (e : Execution)
    → AreExecutions workers w frames executions
    → frames_text show number w (executions ++ e ∷ [])
    ≡ frames_text show number w executions
    ++ frame_text show (number + length frames) (born_in (last_world w executions) e)
    (synced (last_world w executions) e).faults
text_on workers show number w [] [] e went = search (rules, append-nil)
text_on workers show number w (s ∷ frames) (x ∷ executions) e went =
    search (
      rules,
      append_assoc,
      text_on workers show (number + 1) (synced w x).world frames executions e went.1,
    )
text_on workers show number w _ _ e went = absurd went

module _ (workers : ℕ) (show : Show) (first now after : World)
    (frames : List (List (List Operation)))
    (systems : List (List Operation)) (text : List ℕ) (queues : List (List Command))
    (births : List Handle)
    (faults : List Fault) where
  pub has_gone_on : HaveGone frames workers show first now text
      → Ends MayIssue systems workers now queues after births
      faults → HaveGone (frames ++ systems ∷ []) workers show first after
      (text ++ frame_text show (length frames) births faults)
  has_gone_on run ends =
      let e : Execution = record { queues = queues; history = ends.history } in
      search (
        rules,
        run.executions ++ e ∷ [],
        went_on workers first frames run.executions systems e,
        world_on first run.executions e,
        text_on workers show 0 first frames run.executions e run.went,
      )

-- ---- a list of frames of which the first are taken away one by one

module _ (gone old rest : List (List (List Operation))) (systems : List (List Operation))
    (front : old ≡ systems ∷ rest) where
  pub goes_on : (all : List (List (List Operation))) → gone ++ old ≡ all
      → (gone ++ systems ∷ []) ++ rest ≡ all
  goes_on all e = search (rules, append_assoc)

  pub one_more : (number : ℕ) → number ≡ length gone → number + 1 ≡ length (gone ++ systems ∷ [])
  one_more number is = search (rules, length-append, is)

  pub others_are_few : AreFew old → AreFew rest
  others_are_few few =
      All-tail (λ systems. length systems ≤ 256) systems rest (subst AreFew front few)

-- the frames of a script have few systems each
pub few_systems : (components n : ℕ) (frames : List (List (List Operation)))
    → AllFrom (IsFrameOf components) n frames → AreFew frames
few_systems components n [] ranges = All-nil (λ systems. length systems ≤ 256)
few_systems components n (systems ∷ frames) ranges =
    search (rules, All-cons, few_systems components (n + 1) frames ranges.1)

-- ---- in blocks

module _ (names : List (List ℕ)) (size : ℕ) (show : Show) (first : World) where
  pub has_begun_in_blocks : HaveGoneInBlocks names size show first first [] []
  has_begun_in_blocks = record { rest = λ frames others is. is }

  pub has_gone_on_in_blocks : (now after : World) (gone : List (List (List Operation)))
      (systems : List (List Operation)) (text : List ℕ) (queues : List (List Command))
      (came : List Handle) (faults : List Fault)
      → HaveGoneInBlocks names size show first now gone text
      → EndsInBlocks (sizes_of size systems) systems now queues after came faults
      → HaveGoneInBlocks names size show first after (gone ++ systems ∷ [])
      (text ++ frame_text show (length gone) came faults)
  has_gone_on_in_blocks now after gone systems text queues came faults run ends =
      search (rules, length-append, append_assoc)

-- the text of all frames, and of the world that they leave, is that of the script
pub text_in_blocks : (script : Script) (size : ℕ) (show : Show) (first now : World)
    (frames : List (List (List Operation))) (names : List (List ℕ)) (text others all : List ℕ)
    → ((names : List (List ℕ)) → HaveGoneInBlocks names size show first now frames text)
    → first ≡ first_world script.limits → frames ≡ script.frames → names ≡ script.components
    → IsWorldText names show now.entities others → all ≡ text ++ others
    → IsTextInBlocks script size show all
text_in_blocks script size show first now frames names text others all run first_is frames_are
    names_are is all_is =
    let whole = (run names).rest [] others is in search (rules, append-nil)
