-- Births alone: the text of a script if nothing is refused to it, in terms of births. There is no
-- handle in it, no allocator, no reservation and no worker. What the systems issue is in
-- `IssuedAlone`, and what the commands do in `BirthsAlone` of `ent_world`.
use Rattle.std.specs.Prelude.{ℕ, ◌+◌, List, [], ◌∷◌, ◌++◌, length, codes}
use Rattle.std.specs.Fmt.{decimal}
use Rattle.std.specs.List.{flat_map}
use Rattle.ent_handle.specs.declared.birth.Birth.{Birth}
use Rattle.ent_storage.specs.Bundle.{Bundle}
use Rattle.ent_world.specs.BirthsAlone.{BirthMap, BirthCommand, BirthFault, AppliedAlone}
use Rattle.ent_world.specs.BirthsAlone.{births_in, frame_alone}
use Rattle.ent_script.specs.Script.{Script}
use Rattle.ent_script.specs.declared.operation.Operation.{Operation}
use Rattle.spawnrun_lib.specs.IssuedAlone.{queues_alone}
use Rattle.spawnrun_lib.specs.FrameText.{frame_line}
use Rattle.spawnrun_lib.specs.WorldText.{birth_text, item_text, alive_line}

abbrev pub birth_fault_line : BirthFault → List ℕ
birth_fault_line fault =
    codes "fault " ++ decimal fault.system ++ codes " " ++ decimal fault.command
    ++ codes " not alive" ++ 10 ∷ []

-- the birth, and the components by rising number
abbrev pub birth_line : List (List ℕ) → Birth × Bundle → List ℕ
birth_line names entity =
    birth_text entity.0 ++ flat_map (item_text names) entity.1 ++ 10 ∷ []

abbrev pub frame_text_alone : ℕ → List (List BirthCommand) → AppliedAlone → List ℕ
frame_text_alone number queues after =
    frame_line number (length (births_in queues)) (length after.faults)
    ++ flat_map birth_fault_line after.faults

-- the text of each frame, numbered from here on, and of the entities at the end
abbrev pub text_from : List (List ℕ) → ℕ → BirthMap → List (List (List Operation)) → List ℕ
text_from names number view [] = flat_map (birth_line names) view ++ alive_line (length view)
text_from names number view (systems ∷ frames) =
    let queues = queues_alone number 0 view systems in
    let after = frame_alone queues view in
    frame_text_alone number queues after ++ text_from names (number + 1) after.entities frames

-- the text of a script, which begins without entities
abbrev pub text_alone : Script → List ℕ
text_alone script = text_from script.components 0 [] script.frames
