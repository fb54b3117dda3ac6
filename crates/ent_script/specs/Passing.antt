-- Passing over a value.
use Rattle.std.specs.Prelude.{◌≡◌, ℕ, List, length, Option, Some, None, option_map, Result, Ok, Err}
use Rattle.json.specs.Token.{Token}
use Rattle.json.specs.Json.{value, items, members}
use Rattle.serde_json.specs.Data.{no_members}
use Rattle.serde_json.specs.Read.{of_json, of_items, of_members, converted}
use Rattle.ent_script.specs.declared.read_fault.ReadFault.{ReadFault}
use Rattle.ent_script.specs.declared.read_fault.ReadFault.TheVariants as fault

-- what is left of the tokens after what was read
abbrev pub left : {A : Type 0} → Option (A × List Token) → Option (List Token)
left read = option_map (λ p. p.1) read

-- the tokens after a value that `serde_json` reads
abbrev pub after_value : ℕ → List Token → Option (List Token)
after_value depth ts = left (converted of_json (value depth ts))

-- the same of the items of an array, and of the members of an object, with the closing bracket
abbrev pub after_items : ℕ → List Token → Option (List Token)
after_items depth ts = left (converted of_items (items (value depth) (length ts) ts))

abbrev pub after_members : ℕ → List Token → Option (List Token)
after_members depth ts =
    left (converted (λ ms. of_members ms no_members) (members (value depth) (length ts) ts))

-- These tokens are left after what was read, unless memory ran out. If it is no JSON, that is the
-- fault.
abbrev pub Passes : {A : Type 0} → Result A ReadFault → List Token → Option (List Token) → Type 0
Passes (Ok x) rest after = after ≡ Some rest
Passes (Err fault.Memory) rest after = Unit {0}
Passes (Err fault.Json) rest after = after ≡ None
Passes (Err e) rest after = after ≡ Some rest
