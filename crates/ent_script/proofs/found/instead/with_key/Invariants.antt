use Rattle.ent_script.proofs.Common.{◌≡◌, ◌≤◌, ◌++◌, IsUtf8, length, inline_text, flat_map, chars}
use Rattle.ent_script.proofs.Common.{chars_rest, key_char, ArePrintable, front}
use Rattle.ent_script.proofs.found.instead.with_key.Given as goal

abbrev pub invariant-loop-letter : goal.invariant-loop-letter
invariant-loop-letter l = record {
  utf8 : IsUtf8 (chars_rest l.letter-iterator);
  text : front (inline_text l.shown ++ flat_map key_char (chars (chars_rest l.letter-iterator)))
      ≡ front (inline_text l.fn.shown ++ flat_map key_char (chars l.fn.key));
  short : length (inline_text l.shown) ≤ 60;
  printable : ArePrintable (inline_text l.shown);
}
