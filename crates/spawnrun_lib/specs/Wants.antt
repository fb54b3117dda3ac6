-- What the tests of an input expect, each in one sentence.
use Rattle.std.specs.Prelude.{ℕ, List, [], ◌++◌, codes}
use Rattle.ent_replay.specs.declared.Cause.{Cause as LineCause}
use Rattle.ent_replay.specs.declared.Cause.TheVariants as line_cause
use Rattle.ent_script.specs.declared.Cause.{Cause}
use Rattle.ent_script.specs.declared.Cause.TheVariants as cause
use Rattle.ent_script.specs.declared.ReadFault.{ReadFault}
use Rattle.ent_script.specs.declared.ReadFault.TheVariants as fault
use Rattle.ent_script.specs.declared.ScriptCause.{ScriptCause}
use Rattle.ent_script.specs.declared.ScriptCause.TheVariants as script_cause

abbrev pub size_wants : List ℕ
size_wants = codes "the input must have at most 67108864 bytes"

abbrev pub handle_wants : List ℕ
handle_wants =
    codes "a handle must be an index up to 4294967294, the letter v and a generation from 1 "
    ++ codes "to 2147483647, as 0v1, without leading zeros"

-- what the test of a schedule's line that has this cause expects
abbrev pub line_wants : LineCause → List ℕ
line_wants line_cause.Word =
    codes "a line must be alloc, free H, flush, begin C N, step C or answer C, for a handle "
    ++ codes "H, a caller C and a count N"
line_wants line_cause.Count =
    codes "the words of a line must be those of alloc, free H, flush, begin C N, step C or "
    ++ codes "answer C, with one space between two words"
line_wants line_cause.Number =
    codes "a caller or a count must be a decimal from 0 to 4294967295, without leading zeros"
line_wants line_cause.Handle = handle_wants

abbrev pub parts_wants : ScriptCause → List ℕ
parts_wants script_cause.Top =
    codes "a script must be an object with the keys 'components' and 'frames'"
parts_wants script_cause.Key =
    codes "a key of a script must be 'format', 'slots', 'generations', 'components' or 'frames'"
parts_wants script_cause.Format = codes "'format' must be the number 1 or 2, or absent"
parts_wants script_cause.Slots =
    codes "'slots' must be a whole number from 1 to 4294967295, or absent"
parts_wants script_cause.Generations =
    codes "'generations' must be a whole number from 1 to 2147483647, or absent"
parts_wants script_cause.Components =
    codes "'components' must be a list of at most 256 different names, each of 1 to 32 "
    ++ codes "characters from a to z, 0 to 9 and _"
parts_wants script_cause.Frames = codes "'frames' must be a list of at most 1000 frames"

abbrev pub operation_wants : Cause → List ℕ
operation_wants cause.Shape =
    codes "an operation must be an object with the keys 'spawn', 'spawn_many', 'insert' and "
    ++ codes "'on', 'remove' and 'on', or 'despawn', and no others but 'as' beside 'spawn' or "
    ++ codes "'spawn_many', and 'with' beside 'spawn_many'"
operation_wants cause.Bundle = codes "a bundle must be an object of components and whole numbers"
operation_wants cause.Component = codes "a component must be a name in the list 'components'"
operation_wants cause.Value =
    codes "the value of a component must be a whole number from -2^63 to 2^63 - 1, without "
    ++ codes "fraction or exponent, and not -0"
operation_wants cause.Count = codes "'spawn_many' must be a whole number from 0 to 65536"
operation_wants cause.Name =
    codes "an 'as' must be a name of 1 to 32 characters from a to z, 0 to 9 and _, and the "
    ++ codes "'name' of a target must be the 'as' of an earlier operation of its system"
operation_wants cause.Target =
    codes "a target must be an object with one key, 'name', 'each', 'handle' or, in format 2, "
    ++ codes "'birth', and a string"
operation_wants cause.Handle = handle_wants
operation_wants cause.Birth =
    codes "a birth must be the number of an earlier frame, of a system up to 255 and of a "
    ++ codes "spawned entity up to 4294967295, with dots between, as 0.1.2, without leading zeros"

-- what the test that a script fails expects; lack of memory fails no test
abbrev pub script_wants : ReadFault → List ℕ
script_wants fault.Json =
    codes "the input must be a JSON text in UTF-8, its lists and objects at most 127 deep, "
    ++ codes "its numbers in the range of a 64-bit float"
script_wants (fault.Script c) = parts_wants c
script_wants (fault.Frame f) = codes "a frame must be a list of at most 256 systems"
script_wants (fault.System f s) = codes "a system must be a list of at most 10000 operations"
script_wants (fault.Operation f s o c) = operation_wants c
script_wants fault.Memory = []
