use Rattle.ent_script.proofs.Common.{◌≡◌, ◌≤◌, length, map, view, as_name, names_in, numbered}
use Rattle.ent_script.proofs.Common.{component_at}
use Rattle.ent_script.proofs.Numbering.{onto, from, until}
use Rattle.ent_script.proofs.reading.different_names.Given as goal

abbrev pub invariant-loop-value : goal.invariant-loop-value
invariant-loop-value l = record {
  few : length l.names ≤ l.value-index;
  names : l.names ≡ names_in as_name (until l.values l.value-index);
  rest :
      onto l.names
      (numbered (component_at (map view l.values)) l.value-index (from l.values l.value-index))
      ≡ numbered (component_at (map view l.values)) 0 (map view l.values);
}
