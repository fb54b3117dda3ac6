-- What a worker makes of a script if it reads the systems of its share, and passes over the others.
use Rattle.std.specs.Prelude.{◌≡◌, Some, ℕ, ◌+◌, ◌%◌, Bool, ◌&&◌, nat_le, nat_lt, List, [], ◌∷◌}
use Rattle.std.specs.Prelude.{if◌then◌else◌, Option, option_and_then, codes, ok_or, Result, Ok, refl}
use Rattle.std.specs.Coded.{Coded, code_by, coded×, coded_ℕ}
use Rattle.serde_json.specs.Data.{Data}
use Rattle.serde_json.specs.Find.{get}
use Rattle.serde_json.specs.Read.{read}
use Rattle.ent_script.specs.Json.{at_most}
use Rattle.ent_script.specs.Reading.{◌>>=◌, component_names, heading_of, in_script}
use Rattle.ent_script.specs.Reading.{numbered, system_of}
use Rattle.ent_script.specs.Script.{Script}
use Rattle.ent_script.specs.Sizes.{most_frames, most_systems}
use Rattle.ent_script.specs.declared.cause.ScriptCause.TheVariants as script_cause
use Rattle.ent_script.specs.declared.format.Format.{Format}
use Rattle.ent_script.specs.declared.operation.Operation.{Operation}
use Rattle.ent_script.specs.declared.read_fault.ReadFault.{ReadFault}
use Rattle.ent_script.specs.declared.read_fault.ReadFault.TheVariants as fault

-- some of the workers that take turns: `count` of them, from number `first` on
pub record Share : Type 0 where
  pub first : ℕ
  pub count : ℕ
  pub workers : ℕ

-- whose turn a system is
abbrev pub turn : ℕ → ℕ → ℕ → ℕ
turn workers frame system = (frame % workers + system % workers) % workers

-- whether the share has the system
abbrev pub has : Share → ℕ → ℕ → Bool
has share frame system =
    nat_le share.first (turn share.workers frame system)
    && nat_lt (turn share.workers frame system) (share.first + share.count)

-- a system of others has no operations
abbrev pub system_by : Share → Format → List (List ℕ) → ℕ → ℕ → Data
    → Result (List Operation) ReadFault
system_by share format components frame number d =
    if has share frame number then system_of format components frame number d else Ok []

unfoldable pub frame_by : Share → Format → List (List ℕ) → ℕ → Data
    → Result (List (List Operation)) ReadFault
frame_by share format components number d = do
  ds ← ok_or (at_most most_systems d) (fault.Frame number)
  numbered (system_by share format components number) 0 ds

abbrev pub frames_by : Share → Format → List (List ℕ) → Option Data
    → Result (List (List (List Operation))) ReadFault
frames_by share format components part = do
  ds ← ok_or (option_and_then (at_most most_frames) part) (fault.Script script_cause.Frames)
  numbered (frame_by share format components) 0 ds

unfoldable pub script_by : Share → Data → Result Script ReadFault
script_by share d = do
  heading ← in_script (heading_of d)
  components ← in_script (component_names (get (codes "components") d))
  frames ← frames_by share heading.format components (get (codes "frames") d)
  Ok (record { limits = heading.limits; components = components; frames = frames })

-- what the workers of a share make of a text
pub record Makes (share : Share) (text : List ℕ) (script : Script) : Type 0 where
  pub value : Data
  pub is_read : read text ≡ Some value
  pub means : script_by share value ≡ Ok script

-- a share is stored as its three numbers
abbrev pub share_code : Coded Share
share_code =
    code_by (ℕ × (ℕ × ℕ)) (coded× coded_ℕ (coded× coded_ℕ coded_ℕ))
    (λ s. (s.first, (s.count, s.workers)))
    (λ p. record { first = p.0; count = p.1.0; workers = p.1.1 }) (λ _. refl)

-- ---- two shares put together

-- the first of two systems that has operations
abbrev pub with_operations : List Operation → List Operation → List Operation
with_operations [] other = other
with_operations (one ∷ more) other = one ∷ more

-- the elements of both lists, place by place, as many as the first one has
abbrev pub both : {A : Type 0} → (A → A → A) → List A → List A → List A
both f [] ys = []
both f (x ∷ xs) [] = x ∷ xs
both f (x ∷ xs) (y ∷ ys) = f x y ∷ both f xs ys
