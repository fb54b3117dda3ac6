-- Decimals, the texts of handles, and what a text is read as.
use Rattle.std.specs.Prelude.{◌≡◌, ℕ, ◌-◌, ◌^◌, Bool, false, ◌&&◌, List, [], ◌∷◌, ◌++◌, length}
use Rattle.std.specs.Prelude.{◌==◌, nat_lt, nat_le, if◌then◌else◌, IsTrue, Result, Ok, Err}
use Rattle.std.specs.Fmt.{decimal}
use Rattle.std.specs.Char.{is_ascii_digit}
use Rattle.std.specs.List.{list_all, slice_split}
use Rattle.std.specs.Str.Parse.{digits_value}
use Rattle.ent_handle.specs.Handle.{Handle}
use Rattle.ent_handle.specs.declared.text.TextFault.{TextFault}
use Rattle.ent_handle.specs.declared.text.TextFault.TheVariants.{Shape, Range}

-- `0`, or digits of which the first is not `0`
abbrev pub is_decimal : List ℕ → Bool
is_decimal [] = false
is_decimal (first ∷ others) =
    if first == 48 then length others == 0 else list_all is_ascii_digit (first ∷ others)

abbrev pub IsDecimal : List ℕ → Type 0
IsDecimal bytes = IsTrue (is_decimal bytes)

-- the number below 2^32 that a decimal writes
abbrev pub number_of : List ℕ → Result ℕ TextFault
number_of bytes =
    if is_decimal bytes
    then (if nat_lt (digits_value 10 bytes) (2 ^ 32) then Ok (digits_value 10 bytes) else Err Range)
    else Err Shape

-- a handle's index, the letter `v`, and its generation
abbrev pub handle_text : Handle → List ℕ
handle_text h = decimal h.index ++ 118 ∷ decimal h.generation

-- a decimal, the letter `v`, and a decimal, however large the numbers are
abbrev pub HasHandleForm : List ℕ → Type 0
HasHandleForm bytes =
    (index : List ℕ) × (generation : List ℕ)
    × IsDecimal index × IsDecimal generation × (bytes ≡ index ++ 118 ∷ generation)

-- the two numbers are those of a handle
abbrev pub is_handle : Handle → Bool
is_handle h = nat_lt h.index (2 ^ 32 - 1) && nat_le 1 h.generation && nat_lt h.generation (2 ^ 31)

-- the numbers that two decimals write
abbrev pub written : List ℕ → List ℕ → Handle
written index generation =
    record { index = digits_value 10 index; generation = digits_value 10 generation }

-- the handle of the parts between the letters `v`: two decimals, with the numbers of a handle
abbrev pub handle_of_parts : List (List ℕ) → Result Handle TextFault
handle_of_parts (index ∷ generation ∷ []) =
    if is_decimal index && is_decimal generation
    then (if is_handle (written index generation) then Ok (written index generation) else Err Range)
    else Err Shape
handle_of_parts _ = Err Shape

-- the handle of a text
abbrev pub handle_of : List ℕ → Result Handle TextFault
handle_of bytes = handle_of_parts (slice_split (λ b. b == 118) bytes)
