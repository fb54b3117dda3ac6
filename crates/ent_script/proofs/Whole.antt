-- A script, of the parts that are read one after another, and what is returned instead of one.
use Rattle.ent_script.proofs.Common.{rules, ◌≡◌, ℕ, List, map, Option, Some, None, option_map}
use Rattle.ent_script.proofs.Common.{option_and_then, codes, Result, Data, get, view, Value, cut}
use Rattle.ent_script.proofs.Common.{at_most, ◌>>=◌, numbered, component_at, component_names}
use Rattle.ent_script.proofs.Common.{Share, frames_by, script_by}
use Rattle.ent_script.proofs.Common.{heading_of, in_script, script_of, Script, frames_of, Heading}
use Rattle.ent_script.proofs.Common.{Operation, ReadFault, Ok, Err, ReadsAs, ReadsList}
use Rattle.ent_script.specs.declared.cause.ScriptCause.TheVariants as script_cause
use Rattle.ent_script.specs.declared.read_fault.ReadFault.TheVariants as fault
use Rattle.ent_script.proofs.CutMeanings.{components-cut}

abbrev pub Names : Type 0
Names = List (List ℕ)

pub no_names : (part : Option Data)
    → None ≡ option_map (map (cut 0)) (option_and_then (at_most 256) part)
    → in_script (component_names part) ≡ Err (fault.Script script_cause.Components)
unfolding component_names
no_names part e = search rules

pub names_meant : (part : Option Data) (vs : List Value)
    → Some (map view vs) ≡ option_map (map (cut 0)) (option_and_then (at_most 256) part)
    → in_script (numbered (component_at (map view vs)) 0 (map view vs))
    ≡ in_script (component_names part)
unfolding component_names
names_meant part vs e = search (rules, components-cut)

abbrev pub all_of : Heading → Names → List (List (List Operation)) → Result Script ReadFault
all_of heading names frames =
    Ok (record { limits = heading.limits; components = names; frames = frames })

pub script_is : (d : Data) (heading : Heading) (names : Names)
    → in_script (heading_of d) ≡ Ok heading
    → in_script (component_names (get (codes "components") d)) ≡ Ok names
    → script_of d
    ≡ (frames_of heading.format names (get (codes "frames") d)
    >>= λ frames. all_of heading names frames)
unfolding script_of
script_is d heading names a b = search (rules)

-- what the workers of a share make of it
pub share_is : (share : Share) (d : Data) (heading : Heading) (names : Names)
    → in_script (heading_of d) ≡ Ok heading
    → in_script (component_names (get (codes "components") d)) ≡ Ok names
    → script_by share d
    ≡ (frames_by share heading.format names (get (codes "frames") d)
    >>= λ frames. all_of heading names frames)
unfolding script_by
share_is share d heading names a b = search (rules)

pub names_refused : (d : Data) (heading : Heading) (e : ReadFault)
    → in_script (heading_of d) ≡ Ok heading
    → in_script (component_names (get (codes "components") d)) ≡ Err e → script_of d ≡ Err e
unfolding script_of
names_refused d heading e a b = search rules

pub heading_refused : (d : Data) (e : ReadFault) → in_script (heading_of d) ≡ Err e
    → script_of d ≡ Err e
unfolding script_of
heading_refused d e a = search rules

-- the fault of a part is the fault of the whole
pub passes_on : {A B : Type 0} (e : ReadFault) (part : Result A ReadFault)
    (whole : Result B ReadFault) → ReadsAs {A = A} (Err e) part → (part ≡ Err e → whole ≡ Err e)
    → ReadsAs {A = B} (Err e) whole
passes_on it part whole h follows = search rules

pub returned : {A : Type 0} (e : ReadFault) (result : Result A ReadFault)
    (whole : Result A ReadFault) → result ≡ Err e → ReadsAs {A = A} (Err e) whole
    → ReadsAs result whole
returned {A} e result whole is h = search rules

-- the fault of a part that is a list, in a vector, is the fault of the whole
pub passes_from_list : {A B : Type 0} (e : ReadFault) (part : Result (List A) ReadFault)
    (whole : Result B ReadFault) → ReadsList {A = A} (Err e) part → (part ≡ Err e → whole ≡ Err e)
    → ReadsAs {A = B} (Err e) whole
passes_from_list it part whole h follows = search rules
