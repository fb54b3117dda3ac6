-- The program's exit status.
use Rattle.std.specs.Prelude.{◌≡◌, ◌⊎◌, ℕ, List, Option, Some, IfSome}
use Rattle.std.specs.Io.KnownBytes.{Appends}
use Rattle.clap.specs.Words.{Text}
use Rattle.cli.specs.Device.{Writes}
use Rattle.ent_alloc.specs.Entities.{Entities}
use Rattle.ent_alloc.specs.FirstFault.{first_fault}
use Rattle.ent_alloc.specs.Sequential.{Allocator, opening}
use Rattle.ent_alloc.specs.declared.image_fault.ImageFault.{ImageFault}
use Rattle.ent_replay.specs.Text.{lines_of}
use Rattle.tracecheck.specs.Beginning.{IsImageOf, refused_image_text}
use Rattle.tracecheck.specs.CommandLine.{AsksFor}
use Rattle.tracecheck.specs.Verdict.{IsVerdict, verdict_text}
use Rattle.tracecheck.specs.declared.command_line.Beginning.{Beginning}
use Rattle.tracecheck.specs.declared.command_line.Beginning.TheVariants.{Image, Limits}
use Rattle.tracecheck.specs.declared.status.Status.{Status}
use Rattle.tracecheck.specs.declared.status.Status.TheVariants as status
use Rattle.tracecheck.specs.declared.verdict.Verdict.{Verdict}
use Rattle.tracecheck.specs.declared.verdict.Verdict.TheVariants as verdict

-- 2 is also that of words that are no command line
abbrev pub exit_number : Status → ℕ
exit_number status.Agrees = 0
exit_number status.Differs = 1
exit_number status.Refused = 2
exit_number status.Memory = 3
exit_number status.Device = 4

abbrev pub status_of : Verdict → Status
status_of (verdict.Agrees lines given) = status.Agrees
status_of (verdict.Differs d) = status.Differs
status_of (verdict.Refused line refusal) = status.Refused

-- a line that may be said of the trace of this text, which begins in this state, if the run ends so
abbrev pub IsSaidOf : Allocator → Status → List ℕ → List ℕ → Type 0
IsSaidOf begin ended text written = (v : Verdict) × IsVerdict begin (lines_of text) v
    × (status_of v ≡ ended) × (written ≡ verdict_text v)

-- A line was written that may be said of the trace, which begins in the state that has this image.
-- Or the bytes are no image, their first fault was written, and the trace is unread.
abbrev pub HasSaidFrom : List ℕ → Status → Type 0 → Option (List ℕ) → Option (List ℕ)
    → Option (List ℕ) → Type 0
HasSaidFrom bytes ended unread input old new =
    ((e : Entities) × IsImageOf bytes e × Writes (IsSaidOf e.allocator ended) input old new)
    ⊎ ((fault : ImageFault) × (first_fault bytes ≡ Some fault) × (ended ≡ status.Refused)
    × unread × Appends old new (refused_image_text fault))

-- the trace begins like this, with the bytes of the image that is named, if the devices report what
-- they do
abbrev pub HasSaidOf : Beginning → Status → Type 0 → Option (List ℕ) → Option (List ℕ)
    → Option (List ℕ) → Option (List ℕ) → Type 0
HasSaidOf (Limits limits) ended unread image input old new =
    Writes (IsSaidOf (opening limits) ended) input old new
HasSaidOf Image ended unread image input old new =
    IfSome image (λ bytes. HasSaidFrom bytes ended unread input old new)

-- and the words ask for this
abbrev pub HasSaid : List Text → Status → Type 0 → Option (List ℕ) → Option (List ℕ)
    → Option (List ℕ) → Option (List ℕ) → Type 0
HasSaid words ended unread image input old new =
    (begin : Beginning) × AsksFor words begin × HasSaidOf begin ended unread image input old new
