use Rattle.ent_script.proofs.Common.{◌≡◌, ◌≤◌, ◌++◌, length, take, inline_text, flat_map}
use Rattle.ent_script.proofs.Common.{ArePrintable, unit_text, front}
use Rattle.ent_script.proofs.found.shown.with_char.Given as goal

abbrev pub invariant-loop-unit : goal.invariant-loop-unit
invariant-loop-unit l = record {
  text : inline_text l.shown ≡ front
      (inline_text l.fn.shown ++ flat_map unit_text (take l.unit-index l.unit-items));
  short : length (inline_text l.shown) ≤ 60;
  printable : ArePrintable (inline_text l.shown);
}
