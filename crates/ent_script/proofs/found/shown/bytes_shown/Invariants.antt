use Rattle.ent_script.proofs.Common.{◌≡◌, take, inline_text, flat_map, ArePrintable, byte_text}
use Rattle.ent_script.proofs.Common.{front}
use Rattle.ent_script.proofs.found.shown.bytes_shown.Given as goal

abbrev pub invariant-loop-byte : goal.invariant-loop-byte
invariant-loop-byte l = record {
  text : inline_text l.shown ≡ front (flat_map byte_text (take l.byte-index l.front));
  printable : ArePrintable (inline_text l.shown);
}
