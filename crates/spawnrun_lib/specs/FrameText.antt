-- The text of what a frame did: how many were born, and the commands without effect.
use Rattle.std.specs.Prelude.{ℕ, List, [], ◌∷◌, ◌++◌, length, codes}
use Rattle.std.specs.Fmt.{decimal}
use Rattle.std.specs.List.{flat_map}
use Rattle.ent_handle.specs.Handle.{Handle}
use Rattle.ent_handle.specs.Text.{handle_text}
use Rattle.ent_world.specs.declared.fault.Fault.{Fault}
use Rattle.ent_world.specs.declared.fault.FaultKind.{FaultKind}
use Rattle.ent_world.specs.declared.fault.FaultKind.TheVariants as kind
use Rattle.spawnrun_lib.specs.declared.show.Show.{Show}
use Rattle.spawnrun_lib.specs.declared.show.Show.TheVariants as show

-- a space and the handle, if handles are shown
abbrev pub shown_handle : Show → Handle → List ℕ
shown_handle show.Births h = []
shown_handle show.Handles h = 32 ∷ handle_text h

-- how many handles were requested, and how many there were
abbrev pub counts_text : ℕ → ℕ → List ℕ
counts_text wanted left = codes " wanted " ++ decimal wanted ++ codes " left " ++ decimal left

abbrev pub kind_text : Show → FaultKind → List ℕ
kind_text s (kind.NotAlive h) = codes " not alive" ++ shown_handle s h
kind_text s (kind.Space wanted left) = codes " space" ++ counts_text wanted left
kind_text s (kind.Quota left) = codes " quota left " ++ decimal left

-- the system, the number of the command in its queue, and why it had no effect
abbrev pub fault_line : Show → Fault → List ℕ
fault_line s fault =
    codes "fault " ++ decimal fault.system ++ codes " " ++ decimal fault.command
    ++ kind_text s fault.kind ++ 10 ∷ []

-- the number of the frame, how many were born, and how many faults there were
abbrev pub frame_line : ℕ → ℕ → ℕ → List ℕ
frame_line number born faults =
    codes "frame " ++ decimal number ++ codes " born " ++ decimal born
    ++ codes " faults " ++ decimal faults ++ 10 ∷ []

-- that line, and a line for each fault in order
abbrev pub frame_text : Show → ℕ → List Handle → List Fault → List ℕ
frame_text s number born faults =
    frame_line number (length born) (length faults) ++ flat_map (fault_line s) faults
