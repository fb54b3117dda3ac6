use Rattle.ent_script.proofs.Common.{append_assoc, rules, ◌≡◌, ◌∷◌, [], ℕ, ◌/◌, ◌%◌, arith, false}
use Rattle.ent_script.proofs.Common.{cond-false, nat_tests, byte_text, hex, is_printable}
use Rattle.ent_script.proofs.Fronts.{front-more}
use Rattle.ent_script.proofs.found.shown.with_byte.Goals as goal

escaped : (byte : ℕ) → is_printable byte ≡ false
    → byte_text byte ≡ 92 ∷ 120 ∷ hex (byte / 16) ∷ hex (byte % 16) ∷ []
escaped byte not_printable = search (rules, cond-false)

pub returns-clause-text : goal.returns-clause-text
returns-clause-text c = simp (
  escaped c.args.byte (grind (arith, nat_tests)),
  c.with_digit.ensures.text,
  c.with_digit-shown.ensures.text,
  c.with_letter-shown-2.ensures.text,
  c.with_letter-shown.ensures.text,
  front-more,
  append_assoc,
)
