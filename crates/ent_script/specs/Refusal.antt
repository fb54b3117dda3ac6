-- The line of each refusal.
use Rattle.std.specs.Prelude.{ℕ, List, [], ◌∷◌, ◌++◌, codes}
use Rattle.std.specs.Fmt.{decimal}
use Rattle.ent_script.specs.declared.cause.Cause.{Cause}
use Rattle.ent_script.specs.declared.cause.Cause.TheVariants as cause
use Rattle.ent_script.specs.declared.cause.ScriptCause.{ScriptCause}
use Rattle.ent_script.specs.declared.cause.ScriptCause.TheVariants as script_cause
use Rattle.ent_script.specs.declared.read_fault.ReadFault.{ReadFault}
use Rattle.ent_script.specs.declared.read_fault.ReadFault.TheVariants as fault

abbrev pub script_cause_text : ScriptCause → List ℕ
script_cause_text script_cause.Top = codes "top"
script_cause_text script_cause.Key = codes "key"
script_cause_text script_cause.Format = codes "format"
script_cause_text script_cause.Slots = codes "slots"
script_cause_text script_cause.Generations = codes "generations"
script_cause_text script_cause.Components = codes "components"
script_cause_text script_cause.Frames = codes "frames"

abbrev pub operation_cause_text : Cause → List ℕ
operation_cause_text cause.Shape = codes "shape"
operation_cause_text cause.Bundle = codes "bundle"
operation_cause_text cause.Component = codes "component"
operation_cause_text cause.Value = codes "value"
operation_cause_text cause.Count = codes "count"
operation_cause_text cause.Name = codes "name"
operation_cause_text cause.Target = codes "target"
operation_cause_text cause.Handle = codes "handle"
operation_cause_text cause.Birth = codes "birth"

-- a space, and the decimal of a number
abbrev pub spaced_number : ℕ → List ℕ
spaced_number n = 32 ∷ decimal n

-- the numbers of an operation, and what is wrong with it
abbrev pub operation_text : ℕ → ℕ → ℕ → Cause → List ℕ
operation_text f s o c =
    spaced_number f ++ spaced_number s ++ spaced_number o ++ 32 ∷ operation_cause_text c

-- lack of memory has no text, since no line is written of it
abbrev pub refusal_text : ReadFault → List ℕ
refusal_text fault.Json = codes "refused json"
refusal_text (fault.Script c) = codes "refused script " ++ script_cause_text c
refusal_text (fault.Frame f) = codes "refused frame" ++ spaced_number f
refusal_text (fault.System f s) = codes "refused system" ++ spaced_number f ++ spaced_number s
refusal_text (fault.Operation f s o c) =
    codes "refused operation" ++ operation_text f s o c
refusal_text fault.Memory = []

-- the text, and a line feed
abbrev pub refusal_line : ReadFault → List ℕ
refusal_line e = refusal_text e ++ 10 ∷ []
