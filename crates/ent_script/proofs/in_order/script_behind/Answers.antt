use Rattle.ent_script.proofs.Common.{◌≡◌, ℕ, List, Ok, Some, codes, map, rules, Data, Items}
use Rattle.ent_script.proofs.Common.{array, object, boolean, number, string, null, get, view}
use Rattle.ent_script.proofs.Common.{numbered, component_at, component_names, in_script, IsFront}
use Rattle.ent_script.proofs.Common.{frames_by, Format, Operation, left_some, converted, of_json}
use Rattle.ent_script.proofs.Common.{value, refl, Share}
use Rattle.ent_script.proofs.Whole.{names_meant, share_is}
use Rattle.ent_script.proofs.in_order.script_behind.Goals.{After-deref}
use Rattle.ent_script.proofs.in_order.script_behind.Goals as goal

-- the names are those that the text means
same_names : (c : After-deref) (d : Data) → IsFront c.args.front d
    → in_script
    (numbered (component_at (map view c.deref.result.now)) 0 (map view c.deref.result.now))
    ≡ in_script (component_names (get (codes "components") d))
same_names c d is = search (rules, names_meant)

-- what has frames is an array
is_array : (share : Share) (format : Format) (names : List (List ℕ)) (d : Data)
    (frames : List (List (List Operation)))
    → frames_by share format names (Some d) ≡ Ok frames → (ds : Items) × (d ≡ array ds)
is_array share format names null frames e = search rules
is_array share format names (boolean b) frames e = search rules
is_array share format names (number n) frames e = search rules
is_array share format names (string s) frames e = search rules
is_array share format names (array ds) frames e = (ds, refl)
is_array share format names (object ms) frames e = search rules

pub returns : goal.returns
returns c =
    let done = c.in_ok-frames.ensures in
    let d = left_some (converted of_json (value c.args.depth c.args.reader.now)) _ done.passes in
    let frames = done.value d.0 _ d.1 in
    let is = is_array _ _ _ d.0 _ frames.0 in (
      is.0,
      _,
      rw is.1 at d.1,
      done.shorter,
      c.in_ok-end.ensures,
      λ ms said found.
          let same = same_names (goal.at.returns c).After-deref (object ms) said in
          let whole =
          share_is c.args.share (object ms) c.args.front.heading c.in_ok-components.components
          said.heading in
          search (rules, same, whole, found, frames, is),
    )
