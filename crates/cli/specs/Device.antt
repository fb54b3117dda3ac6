-- What devices report about their bytes and failures, beyond the vocabulary of std's readers and
-- writers.
use Rattle.std.specs.Prelude.{◌≡◌, ℕ, ◌+◌, ◌-◌, ◌^◌, ◌≤◌, ◌⊎◌, ◌==◌, if◌then◌else◌, List, length}
use Rattle.std.specs.Prelude.{Option, None, IfSome}
use Rattle.std.specs.Io.KnownBytes.{Appends, Consumes}

-- the bytes that a device reports before and after a failed call are the same
abbrev pub KeepsIfTold : Option (List ℕ) → Option (List ℕ) → Type 0
KeepsIfTold old new = IfSome old (λ before. IfSome new (λ after. after ≡ before))

-- this many of the bytes were taken
abbrev pub Takes : Option (List ℕ) → Option (List ℕ) → ℕ → Type 0
Takes old new count = (taken : List ℕ) × (length taken ≡ count) × Consumes old new taken

-- no more than this many were
abbrev pub TakesAtMost : Option (List ℕ) → Option (List ℕ) → ℕ → Type 0
TakesAtMost old new count = (taken : List ℕ) × (length taken ≤ count) × Consumes old new taken

-- of two devices, with their failures before and after, one failed once and the other did not
abbrev pub OneFails : ℕ → ℕ → ℕ → ℕ → Type 0
OneFails old new other_old other_new =
    ((new ≡ old + 1) × (other_new ≡ other_old)) ⊎ ((new ≡ old) × (other_new ≡ other_old + 1))

-- how many failures a counting adapter can count
abbrev pub most_failures : ℕ
most_failures = 2 ^ 64 - 1

-- an adapter reports its device's bytes until it has counted as many failures as it can
abbrev pub told : ℕ → Option (List ℕ) → Option (List ℕ)
told failures bytes = if failures == most_failures then None else bytes

-- a text that is related so to the input was written, if the devices report what they do
abbrev pub Writes : (List ℕ → List ℕ → Type 0) → Option (List ℕ) → Option (List ℕ)
    → Option (List ℕ) → Type 0
Writes P input old new =
    IfSome input (λ bytes. (text : List ℕ) × P bytes text × Appends old new text)
