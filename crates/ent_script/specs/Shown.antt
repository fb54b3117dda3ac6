-- What is shown of a text: printable ASCII, and no more than one line has room for.
use Rattle.std.specs.Prelude.{ℕ, ◌/◌, ◌%◌, ◌≤◌, Bool, ◌&&◌, List, [], ◌∷◌, ◌++◌, length, take}
use Rattle.std.specs.Prelude.{codes}
use Rattle.std.specs.Prelude.{nat_le, false, if◌then◌else◌, All}
use Rattle.std.specs.Char.Escape.{encode_utf16}
use Rattle.std.specs.Fmt.{digit_glyph}
use Rattle.std.specs.List.{flat_map}
use Rattle.std.specs.Str.{chars}

-- a terminal shows it as one character, and does nothing else
abbrev pub IsPrintable : ℕ → Type 0
IsPrintable code = (32 ≤ code) × (code ≤ 126)

abbrev pub ArePrintable : List ℕ → Type 0
ArePrintable text = All IsPrintable text

abbrev pub is_printable : ℕ → Bool
is_printable code = nat_le 32 code && nat_le code 126

abbrev pub hex : ℕ → ℕ
hex digit = digit_glyph false digit

-- a byte of a schedule: as it is, or by two hexadecimal digits
abbrev pub byte_text : ℕ → List ℕ
byte_text byte =
    if is_printable byte then byte ∷ []
    else codes "\\x" ++ hex (byte / 16) ∷ hex (byte % 16) ∷ []

-- the escape of JSON for a unit of UTF-16
abbrev pub unit_text : ℕ → List ℕ
unit_text unit =
    codes "\\u" ++ hex (unit / 4096) ∷ hex (unit / 256 % 16) ∷ hex (unit / 16 % 16)
    ∷ hex (unit % 16) ∷ []

-- a character of a script: as it is, or by the escapes of JSON
abbrev pub char_text : ℕ → List ℕ
char_text c = if is_printable c then c ∷ [] else flat_map unit_text (encode_utf16 c)

-- a text in UTF-8, each of its characters so
abbrev pub plain : List ℕ → List ℕ
plain text = flat_map char_text (chars text)

-- a text of at most 60 characters is shown whole, and of a longer one the first 57 and three dots
unfoldable pub front : List ℕ → List ℕ
front text = if nat_le (length text) 60 then text else take 57 text ++ codes "..."
