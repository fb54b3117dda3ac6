use Rattle.ent_script.proofs.Common.{◌≡◌, ◌≤◌, ◌++◌, IsUtf8, length, inline_text, chars_rest}
use Rattle.ent_script.proofs.Common.{ArePrintable, plain, front}
use Rattle.ent_script.proofs.found.shown.with_text.Given as goal

abbrev pub invariant-loop-letter : goal.invariant-loop-letter
invariant-loop-letter l = record {
  utf8 : IsUtf8 (chars_rest l.letter-iterator);
  text : front (inline_text l.shown ++ plain (chars_rest l.letter-iterator))
      ≡ front (inline_text l.fn.shown ++ plain l.fn.text);
  short : length (inline_text l.shown) ≤ 60;
  printable : ArePrintable (inline_text l.shown);
}
