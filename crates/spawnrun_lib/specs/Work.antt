-- The work on an input: when it is accepted or refused, and what is written.
use Rattle.std.specs.Prelude.{◌≡◌, ℕ, ◌<◌, ◌≤◌, List, [], ◌++◌, length, codes, Option}
use Rattle.std.specs.Fmt.InlineText.{inline_text}
use Rattle.cli.specs.Device.{Writes}
use Rattle.spawnrun_lib.specs.Wants.{size_wants}
use Rattle.spawnrun_lib.specs.declared.product.Product.{Product}
use Rattle.spawnrun_lib.specs.declared.product.Product.TheVariants as product
use Rattle.spawnrun_lib.specs.declared.product.Refusal.{Refusal as RefusalValue}

-- the longest input, in bytes
abbrev pub input_limit : ℕ
input_limit = 67108864

-- the line on an input that is too long
abbrev pub size_line : List ℕ
size_line = codes "refused size\n"

-- an input is accepted with this output, if one within the limit gives it
abbrev pub Accepts : (List ℕ → List ℕ → Type 0) → List ℕ → List ℕ → Type 0
Accepts Gives input text = (length input ≤ input_limit) × Gives input text

-- what is said of an input that is refused: the line, what a test expects, and what it found
pub record Refusal : Type 0 where
  pub line : List ℕ
  pub wants : List ℕ
  pub found : List ℕ

-- an input is refused so, if a test refuses those within the limit so
pub data Refuses (Fails : List ℕ → Refusal → Type 0) (input : List ℕ) : Refusal → Type 0 where
  fails : (refusal : Refusal) → length input ≤ input_limit → Fails input refusal
      → Refuses Fails input refusal
  is_too_long : input_limit < length input
      → Refuses Fails input (record { line = size_line; wants = size_wants; found = [] })

-- the line that refuses it
abbrev pub RefusesBy : (List ℕ → Refusal → Type 0) → List ℕ → List ℕ → Type 0
RefusesBy Fails input line = (refusal : Refusal) × Refuses Fails input refusal
    × (line ≡ refusal.line)

-- one line on it: what a test expects, and what it found
abbrev pub Advises : (List ℕ → Refusal → Type 0) → List ℕ → List ℕ → Type 0
Advises Fails input advice = (refusal : Refusal) × Refuses Fails input refusal
    × (advice ≡ refusal.wants ++ refusal.found ++ codes "\n")

-- the output of the input was written, if the devices report what they do
abbrev pub HasDone : (List ℕ → List ℕ → Type 0)
    → Option (List ℕ) → Option (List ℕ) → Option (List ℕ) → Type 0
HasDone Gives = Writes (Accepts Gives)

-- the line that refuses it was
abbrev pub HasRefused : (List ℕ → Refusal → Type 0)
    → Option (List ℕ) → Option (List ℕ) → Option (List ℕ) → Type 0
HasRefused Fails = Writes (RefusesBy Fails)

-- and the error stream says why
abbrev pub HasAdvised : (List ℕ → Refusal → Type 0)
    → Option (List ℕ) → Option (List ℕ) → Option (List ℕ) → Type 0
HasAdvised Fails = Writes (Advises Fails)

-- what a refusal says
abbrev pub refusal_of : RefusalValue → Refusal
refusal_of r = record { line = r.line.items; wants = r.wants.now; found = inline_text r.found }

-- an output that an input gives, or a refusal of it
abbrev pub IsProductOf : (List ℕ → List ℕ → Type 0) → (List ℕ → Refusal → Type 0)
    → List ℕ → Product → Type 0
IsProductOf Gives Fails input (product.Output text) = Gives input text
IsProductOf Gives Fails input (product.Refusal r) = Fails input (refusal_of r)
