-- What a script says before its frames.
use Rattle.std.specs.Prelude.{◌≡◌, ℕ, List, map, codes, Some, option_map, option_and_then}
use Rattle.std.specs.Prelude.{Result, Ok, Err}
use Rattle.serde_json.specs.Data.{Data}
use Rattle.serde_json.specs.Find.{get}
use Rattle.serde_json.specs.Read.{read}
use Rattle.serde_json.specs.View.{view}
use Rattle.ent_script.specs.Cut.{cut}
use Rattle.ent_script.specs.Json.{at_most}
use Rattle.ent_script.specs.Reading.{heading_of, in_script}
use Rattle.ent_script.specs.Streaming.{heading_of_text}
use Rattle.ent_script.specs.Sizes.{most_components}
use Rattle.ent_script.specs.declared.front.Front.{Front}
use Rattle.ent_script.specs.declared.read_fault.ReadFault.{ReadFault}
use Rattle.ent_script.specs.declared.read_fault.ReadFault.TheVariants as fault

-- The front is that of the value d.
pub record IsFront (front : Front) (d : Data) : Type 0 where
  pub heading : in_script (heading_of d) ≡ Ok front.heading
  pub components : option_map (λ vs. map view vs.items) front.components
      ≡ option_map (map (cut 0))
      (option_and_then (at_most most_components) (get (codes "components") d))

-- What was returned is the front of the value that a text is read as, or the first test that the
-- value fails, unless memory ran out.
abbrev pub ReadsFront : Result Front ReadFault → List ℕ → Type 0
ReadsFront (Ok front) text = (d : Data) × (read text ≡ Some d) × IsFront front d
ReadsFront (Err fault.Memory) text = Unit {0}
ReadsFront (Err e) text = heading_of_text text ≡ Err e
