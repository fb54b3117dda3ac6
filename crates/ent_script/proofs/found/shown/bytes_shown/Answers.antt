use Rattle.ent_script.proofs.Common.{rules, ◌≡◌, ◌<◌, ℕ, List, length, take, min, cases_lt}
use Rattle.ent_script.proofs.Common.{take_all, take-append-drop, length-take, flat_map, byte_text}
use Rattle.ent_script.proofs.Common.{front}
use Rattle.ent_script.proofs.Fronts.{front-of_parts}
use Rattle.ent_script.proofs.found.shown.bytes_shown.Goals as goal

byte_text-some : (byte : ℕ) → 0 < length (byte_text byte)
byte_text-some byte = search rules

-- the first 61 bytes are enough
looked_at : (line : List ℕ) (n : ℕ) → n ≡ min (length line) 61
    → front (flat_map byte_text (take n line)) ≡ front (flat_map byte_text line)
looked_at line n far =
    search (
      rules,
      cases_lt 61 (length line),
      front-of_parts byte_text byte_text-some,
      length-take,
      take-append-drop n line,
      take_all,
    )

pub returns-clause-text : goal.returns-clause-text
returns-clause-text c = search (rules, take_all, looked_at)
