-- Texts: which of them are JSON, what the first pass finds in them, and names as texts of their
-- own.
use Rattle.ent_script.proofs.Common.{rules, ◌≡◌, ℕ, ◌+◌, ◌<◌, List, [], ◌∷◌, ◌++◌, length, map}
use Rattle.ent_script.proofs.Common.{take, get_or, None, Bor, String, Global, string_bytes, IsUtf8}
use Rattle.ent_script.proofs.Common.{map-append, IsUtf8-from_is_utf8, read, json_of, Option, Some}
use Rattle.ent_script.proofs.Common.{is_some, ok_or, Result, Ok, false, MatchOption}
use Rattle.ent_script.proofs.Common.{is_utf8-from_IsUtf8, tokens, Token, value, Data, of_json}
use Rattle.ent_script.proofs.Common.{converted, ◌>>=◌, heading_of, in_script, Heading, ReadFault}
use Rattle.ent_script.proofs.Common.{Json, get_or-map, length-map, take_more}
use Rattle.json.specs.Json as json

pub json_none : (text : List ℕ) → (IsUtf8 text → read text ≡ None) → json_of text ≡ None
json_none text refused = search (rules, IsUtf8-from_is_utf8)

pub one_more : (names : List (Bor (List ℕ))) (i : ℕ) (texts : List (String Global))
    (text : String Global)
    → i < length names → string_bytes text
    ≡ (get_or names i (record { ref_ptr = (0, 0); now = [] })).now
    → map string_bytes texts ≡ take i (map (λ name. name.now) names)
    → map string_bytes (texts ++ text ∷ []) ≡ take (i
    + 1) (map (λ name. name.now) names)
one_more names i texts text h is before = search (
  rules,
  map-append,
  before,
  take_more (map (λ name. name.now) names) i [],
  get_or-map (λ (name : Bor (List ℕ)). name.now) names i (record { ref_ptr = (0, 0); now = [] }) [],
  length-map,
)

-- the heading of what a text is read as
abbrev pub headed : Option Data → Result Heading ReadFault
headed o = ok_or o Json >>= λ d. in_script (heading_of d)

pub found : (o : Option Data) (heading : Heading) → headed o ≡ Ok heading
    → (d : Data) × (o ≡ Some d) × (in_script (heading_of d) ≡ Ok heading)
found it heading h = search rules

pub json_is : (text : List ℕ) → IsUtf8 text → json_of text ≡ read text
json_is text utf8 = search (rules, is_utf8-from_IsUtf8)

-- a text that is its value
pub whole : {T : Type 0} (r : Option T) (f : T → Token) (text : List ℕ) (d : Data)
    (left after : List Token) → is_some r ≡ false
    → MatchOption r ((left ≡ []) × (after ≡ [])) (λ t. left ≡ f t ∷ after)
    → converted of_json (value 127 (tokens text)) ≡ Some (d, left) → read text ≡ Some d
whole it f text d left after none next e = search rules
