-- A checker that numbers its calls and keeps what it found, and the logs that are joined to it.
use Rattle.std.specs.Prelude.{◌≡◌, ℕ, ◌+◌, ◌-◌, ◌^◌, min, List, [], ◌∷◌, ◌⊎◌}
use Rattle.std.specs.Prelude.{Option, Some, None, Result, Ok, Err, IsOk, IfOk, IfErr, OnOk, OnErr}
use Rattle.std.specs.List.{flat_map}
use Rattle.ent_replay.specs.declared.trace.call.Call.{Call}
use Rattle.ent_replay.specs.declared.trace.call.Call.TheVariants as line
use Rattle.ent_replay.specs.declared.trace.reservation.Reservation.{Reservation}
use Rattle.ent_replay.specs.declared.trace.reply.ReserveReply.{ReserveReply}
use Rattle.ent_replay.specs.declared.trace.difference.Difference.{Difference}
use Rattle.ent_replay.specs.declared.trace.check_error.CheckError.{CheckError}
use Rattle.ent_replay.specs.declared.trace.check_error.CheckError.TheVariants as error
use Rattle.ent_replay.specs.declared.trace.checker.Checker.{Checker}
use Rattle.ent_replay.specs.Checker.{Checked, Follows, Reaches, AgreesWith, IsSettled}
use Rattle.ent_replay.specs.Checker.{OnDiffers, Shows, NoneFollows, OnTooMany, IsTooMany}
use Rattle.ent_replay.specs.Checker.{reserve_lines}
use Rattle.ent_replay.specs.Trace.{IsAlone}
use Rattle.ent_replay.specs.Logs.{Log}

-- ---- one call

-- a reservation that has no number yet
abbrev pub reservation_of : ℕ → ℕ → ReserveReply → Reservation
reservation_of caller requested reply =
    record { number = 0; caller = caller; requested = requested; reply = reply }

-- the call, and if it is a reservation, with this number
abbrev pub numbered : ℕ → Call → Call
numbered n (line.Reserve r) = line.Reserve (record r { number = n })
numbered n other = other

-- how many calls there are with one more, as far as it is counted
abbrev pub one_more : ℕ → ℕ
one_more n = min (n + 1) (2 ^ 64 - 1)

-- Nothing is wrong with the call, or why the checker stops at it.
pub record Compares (old : Checked) (number : ℕ) (l : Call) (new : Result Checked CheckError)
    : Type 0 where
  pub follows : IfOk new (Follows old l)
  pub reaches : IfOk new (Reaches old l)
  pub differs : IfErr new (λ e. OnDiffers e (Shows old number (l ∷ [])))
  pub none : IfErr new (λ e. OnDiffers e (λ d. NoneFollows old l))
  pub alone : IfErr new (λ e. OnDiffers e (λ d. IsAlone l))
  pub too_many : IfErr new (λ e. OnTooMany e (IsTooMany old l))
  pub few : OnOk new (¬ (IsTooMany old l))

-- The call is counted, and compared under its number. A checker that has stopped stays as it is.
pub record Takes (old : Checker) (l : Call) (new : Checker) : Type 0 where
  pub counted : OnOk old.comparer (new.calls ≡ one_more old.calls)
  pub compared : IfOk old.comparer (λ c.
      Compares c new.calls (numbered new.calls l) new.comparer)
  pub stopped : OnErr old.comparer (new ≡ old)

-- these calls, one after the other
abbrev pub TakesAll : Checker → List Call → Checker → Type 0
TakesAll old [] new = new ≡ old
TakesAll old (l ∷ lines) new = (next : Checker) × Takes old l next × TakesAll next lines new

-- the calls with their numbers, which come after this one
abbrev pub numbered_after : ℕ → List Call → List Call
numbered_after n [] = []
numbered_after n (l ∷ lines) = numbered (one_more n) l ∷ numbered_after (one_more n) lines

-- ---- the end of a run

-- The reservations of the run agree, or why not.
pub record Closes {A : Type 0} (old : Checked) (answer : Result A CheckError) : Type 0 where
  pub agrees : OnOk answer (AgreesWith old [])
  pub differs : IfErr answer (λ e. OnDiffers e (Shows old 0 []))
  pub none : IfErr answer (λ e. OnDiffers e (λ d. AgreesWith old [] → ⊥))
  pub few : IfErr answer (λ e. OnTooMany e ⊥)

-- The same, and then the allocator is in the state after the run.
pub record Ends (old : Checked) (new : Result Checked CheckError) : Type 0 where
  pub settled : IfOk new (λ next. IsSettled old next.allocator × (next.run ≡ []))
  pub closes : Closes old new

-- The run is compared. A checker that has stopped stays as it is.
pub record EndsRun (old new : Checker) : Type 0 where
  pub counted : new.calls ≡ old.calls
  pub compared : IfOk old.comparer (λ c. Ends c new.comparer)
  pub stopped : OnErr old.comparer (new ≡ old)

-- these reservations, compared at once
abbrev pub TakesRun : Checker → List Reservation → Checker → Type 0
TakesRun old run new =
    (taken : Checker) × TakesAll old (reserve_lines run) taken × EndsRun taken new

-- these calls, and no more
abbrev pub Finishes : {A : Type 0} → Checker → List Call → Result A CheckError → Type 0
Finishes old lines answer = (taken : Checker) × TakesAll old lines taken
    × IfOk taken.comparer (λ c. Closes c answer) × IfErr taken.comparer (λ e. answer ≡ Err e)

-- ---- what is answered

-- the error, or that there is no memory for a copy of it
abbrev pub IsCopyOf : CheckError → CheckError → Type 0
IsCopyOf (error.Differs d) copy = (copy ≡ error.Differs d) ⊎ (copy ≡ error.Memory)
IsCopyOf other copy = copy ≡ other

-- nothing is wrong so far, or the error that is kept
abbrev pub Answers : {A B : Type 0} → Result A CheckError → Result B CheckError → Type 0
Answers (Ok x) answer = IsOk answer
Answers (Err e) (Ok x) = ⊥
Answers (Err e) (Err copy) = IsCopyOf e copy

abbrev pub difference_of : CheckError → Option Difference
difference_of (error.Differs d) = Some d
difference_of other = None

abbrev pub error_in : {A : Type 0} → Result A CheckError → Option CheckError
error_in (Ok x) = None
error_in (Err e) = Some e

-- ---- logs

-- what a log has, as calls
abbrev pub lines_in : Log → List Call
lines_in log = reserve_lines log.reservations

-- what logs have, one log after the other
abbrev pub lines_in_all : List Log → List Call
lines_in_all logs = flat_map lines_in logs
