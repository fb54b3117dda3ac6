-- What the readers of a text return, beside the tokens that they leave.
use Rattle.std.specs.Prelude.{◌≡◌, ℕ, ◌-◌, Bool, true, false, List, [], ◌∷◌, length, Option, Some}
use Rattle.std.specs.Prelude.{◌≤◌, ◌<◌, map, option_map, option_and_then, ok_or}
use Rattle.std.specs.Prelude.{None, Result, Ok, Err}
use Rattle.json.specs.Token.{Token}
use Rattle.json.specs.Json.{value, items}
use Rattle.json.specs.declared.reader.Invalid.{Invalid}
use Rattle.serde_json.specs.Data.{Data, array, Items}
use Rattle.serde_json.specs.Find.{as_array}
use Rattle.serde_json.specs.Read.{of_items, converted, read}
use Rattle.std.specs.Global.{Vec}
use Rattle.serde_json.specs.View.{view}
use Rattle.serde_json.specs.declared.value.Value.{Value}
use Rattle.ent_script.specs.Cut.{cut}
use Rattle.ent_script.specs.Json.{list_of, at_most}
use Rattle.ent_script.specs.Reading.{◌>>=◌, numbered, frame_of, heading_of, in_script}
use Rattle.ent_script.specs.Sizes.{most_frames}
use Rattle.ent_script.specs.declared.cause.ScriptCause.TheVariants as script_cause
use Rattle.ent_script.specs.declared.format.Format.{Format}
use Rattle.ent_script.specs.declared.heading.Heading.{Heading}
use Rattle.ent_script.specs.declared.operation.Operation.{Operation}
use Rattle.ent_script.specs.declared.read_fault.ReadFault.{ReadFault}
use Rattle.ent_script.specs.declared.read_fault.ReadFault.TheVariants as fault

-- What was returned is this, and these tokens are left, unless memory ran out.
abbrev pub Streams : {A : Type 0} → Result A ReadFault → List Token → Result A ReadFault
    → List Token → Type 0
Streams (Ok x) left read rest = (read ≡ Ok x) × (left ≡ rest)
Streams (Err fault.Memory) left read rest = Unit {0}
Streams (Err e) left read rest = (read ≡ Err e) × (left ≡ rest)

-- Of the value d, the bracket that begins an array was taken. Any other value was passed over.
abbrev pub BeginsArray : ℕ → Result Bool Invalid → List Token → Data → List Token → Type 0
BeginsArray depth (Ok true) left d rest = (ds : Items) × (d ≡ array ds)
    × (converted of_items (items (value (depth - 1)) (length left) left) ≡ Some (ds, rest))
BeginsArray depth (Ok false) left d rest = (as_array d ≡ None) × (left ≡ rest)
BeginsArray depth (Err e) left d rest = ⊥

-- The items were passed over, and there are at most so many, or more.
abbrev pub PassesAtMost : ℕ → Result Bool Invalid → List Token → Items → List Token → Type 0
PassesAtMost most (Ok true) left ds rest = (length (list_of ds) ≤ most) × (left ≡ rest)
PassesAtMost most (Ok false) left ds rest = (most < length (list_of ds)) × (left ≡ rest)
PassesAtMost most (Err e) left ds rest = ⊥

-- The items were passed over, and the fault is the first of two if there are at most so many.
pub record FaultOfArray (most : ℕ) (first other found : ReadFault) (left : List Token) (ds : Items)
    (rest : List Token) : Type 0 where
  pub few : length (list_of ds) ≤ most → found ≡ first
  pub many : most < length (list_of ds) → found ≡ other
  pub passed : left ≡ rest

-- The elements of the value d were read, each cut, if it is an array of at most so many. They were
-- passed over, unless memory ran out.
abbrev pub ReadsElements : ℕ → ℕ → Result (Option (Vec Value)) ReadFault → List Token → Data
    → List Token → Type 0
ReadsElements levels most (Ok found) left d rest =
    (option_map (λ vs. map view vs.items) found ≡ option_map (map (cut levels)) (at_most most d))
    × (left ≡ rest)
ReadsElements levels most (Err e) left d rest = e ≡ fault.Memory

-- The same as `Streams` of a list that lies in a vector.
abbrev pub StreamsList : {A : Type 0} → Result (Vec A) ReadFault → List Token
    → Result (List A) ReadFault → List Token → Type 0
StreamsList (Ok xs) left read rest = (read ≡ Ok xs.items) × (left ≡ rest)
StreamsList (Err fault.Memory) left read rest = Unit {0}
StreamsList (Err e) left read rest = (read ≡ Err e) × (left ≡ rest)

-- The frames of a script, from the value under its key.
abbrev pub frames_of : Format → List (List ℕ) → Option Data
    → Result (List (List (List Operation))) ReadFault
frames_of format components part = do
  ds ← ok_or (option_and_then (at_most most_frames) part) (fault.Script script_cause.Frames)
  numbered (frame_of format components) 0 ds

-- Whether the first token begins an object.
abbrev pub begins_object : List Token → Bool
begins_object [] = false
begins_object (Token.begin_object ∷ ts) = true
begins_object (Token.end_object ∷ ts) = false
begins_object (Token.begin_array ∷ ts) = false
begins_object (Token.end_array ∷ ts) = false
begins_object (Token.key s ∷ ts) = false
begins_object (Token.string s ∷ ts) = false
begins_object (Token.number s ∷ ts) = false
begins_object (Token.boolean b ∷ ts) = false
begins_object (Token.null ∷ ts) = false
begins_object (Token.bad ∷ ts) = false

-- Whether memory ran out.
abbrev pub ran_out : {A : Type 0} → Result A ReadFault → Bool
ran_out (Ok x) = false
ran_out (Err fault.Memory) = true
ran_out (Err e) = false

-- The heading of the value that a text is read as.
abbrev pub heading_of_text : List ℕ → Result Heading ReadFault
heading_of_text text = ok_or (read text) fault.Json >>= λ d. in_script (heading_of d)
