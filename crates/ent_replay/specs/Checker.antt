-- What a checker represents, and what it reports about a trace that doesn't agree.
use Rattle.std.specs.Prelude.{◌≡◌, ℕ, zero, suc, ◌+◌, ◌^◌}
use Rattle.std.specs.Prelude.{◌<◌, ◌≤◌, ◌==◌, if◌then◌else◌, ◌⊎◌, false}
use Rattle.std.specs.Prelude.{List, [], ◌∷◌, ◌++◌, map, slice_get, take, Some, refl}
use Rattle.std.specs.List.{AllByRecursion, sum_by}
use Rattle.std.specs.Option.{unwrap_or}
use Rattle.std.specs.Ordering.{nat_cmp}
use Rattle.std.specs.FinMap as finite
use Rattle.std.specs.Coded.{Coded, code_by, coded×, coded_list}
use Rattle.ent_handle.specs.Handle.{Handle}
use Rattle.ent_alloc.specs.Limits.{Limits}
use Rattle.ent_alloc.specs.Sequential.{Allocator, allocator_code, available, cursor, opening}
use Rattle.ent_alloc.specs.Sequential.{stands_in}
use Rattle.ent_replay.specs.contracts.trace.reservation.Reservation as reservation
use Rattle.ent_replay.specs.declared.trace.reservation.Reservation.{Reservation}
use Rattle.ent_replay.specs.declared.trace.call.Call.{Call}
use Rattle.ent_replay.specs.declared.trace.call.Call.TheVariants as line
use Rattle.ent_replay.specs.declared.trace.reply.ReserveReply.{ReserveReply}
use Rattle.ent_replay.specs.declared.trace.reply.ReserveReply.TheVariants as reserve
use Rattle.ent_replay.specs.declared.trace.placed.Placed.{Placed}
use Rattle.ent_replay.specs.declared.trace.difference.Difference.{Difference}
use Rattle.ent_replay.specs.declared.trace.check_error.CheckError.{CheckError}
use Rattle.ent_replay.specs.declared.trace.check_error.CheckError.TheVariants as stop
use Rattle.ent_replay.specs.Trace.{Agrees, Fits, AreAnswered, IsOrderOf, after_line, after_lines}
use Rattle.ent_replay.specs.Trace.{answered_line}

-- the allocator after all lines but the last reservations, which are not placed yet
pub record Checked : Type 0 where
  pub allocator : Allocator
  pub run : List Reservation

abbrev pub checked_code : Coded Checked
checked_code =
    code_by (Allocator × List Reservation)
    (coded× allocator_code (coded_list reservation.the_row.coded)) (λ c. (c.allocator, c.run))
    (λ p. record { allocator = p.0; run = p.1 }) (λ _. refl)

-- no line is checked yet
abbrev pub opened : Limits → Checked
opened limits = record { allocator = opening limits; run = [] }

-- reservations as lines
abbrev pub reserve_lines : List Reservation → List Call
reserve_lines run = map line.Reserve run

-- these lines may follow those that were checked
abbrev pub AgreesWith : Checked → List Call → Type 0
AgreesWith c rest = Agrees c.allocator (reserve_lines c.run ++ rest)

-- before and after a line: the same lines may follow
pub record Follows (old : Checked) (l : Call) (new : Checked) : Type 0 where
  pub sound : (rest : List Call) → AgreesWith new rest → AgreesWith old (l ∷ rest)
  pub complete : (rest : List Call) → AgreesWith old (l ∷ rest) → AgreesWith new rest

-- before and after these lines: the same lines may follow
pub record AllFollow (old : Checked) (lines : List Call) (new : Checked) : Type 0 where
  pub sound : (rest : List Call) → AgreesWith new rest → AgreesWith old (lines ++ rest)
  pub complete : (rest : List Call) → AgreesWith old (lines ++ rest) → AgreesWith new rest

-- In some order all reservations of the run were answered like this, and this is the state after
-- them, as after any such order.
pub record IsSettled (c : Checked) (after : Allocator) : Type 0 where
  pub order : List Call
  pub is_order : IsOrderOf (reserve_lines c.run) order
  pub answered : AreAnswered c.allocator order
  pub after_is : after ≡ after_lines c.allocator order
  pub only : (other : List Call) → IsOrderOf (reserve_lines c.run) other
      → AreAnswered c.allocator other → after_lines c.allocator other ≡ after

-- The state after a line: a reservation joins the run, and any other call is made in the state
-- after the run, where its reply fits.
abbrev pub Reaches : Checked → Call → Checked → Type 0
Reaches old (line.Reserve r) new = new ≡ record old { run = old.run ++ r ∷ [] }
Reaches old l new =
    (at : Allocator) × IsSettled old at × Fits at l
    × (new ≡ record { allocator = after_line at l; run = [] })

-- the state after these lines, one after the other
abbrev pub ReachesAll : Checked → List Call → Checked → Type 0
ReachesAll old [] new = new ≡ old
ReachesAll old (l ∷ lines) new = (next : Checked) × Reaches old l next × ReachesAll next lines new

-- ---- where a trace doesn't agree

-- what a stop for a difference reports
abbrev pub OnDiffers : CheckError → (Difference → Type 0) → Type 0
OnDiffers (stop.Differs d) P = P d
OnDiffers other P = Unit {0}

-- a reservation has its own number, and any other line has the one that comes with it
abbrev pub number_of : ℕ → Call → ℕ
number_of number (line.Reserve r) = r.number
number_of number other = number

-- The line's reply isn't the allocator's in this state. The difference says what it is, and which
-- one is the allocator's, and shows the state: the front of the pool, and the cursor.
pub record Differs (s : Allocator) (number : ℕ) (l : Call) (d : Difference) : Type 0 where
  pub unlike : ¬ (Fits s l)
  pub expected : d.expected ≡ answered_line s l
  pub number_is : d.number ≡ number_of number l
  pub told_is : d.told ≡ l
  pub front_is : d.front ≡ take 8 s.pool
  pub cursor_is : d.cursor ≡ cursor s

-- there is no order in which the reservations of the run were answered like this
abbrev pub HasNoOrder : Checked → Type 0
HasNoOrder c = (order : List Call) → IsOrderOf (reserve_lines c.run) order
    → AreAnswered c.allocator order → ⊥

-- what has to hold if the line is a reservation
abbrev pub IfReserve : Call → Type 0 → Type 0
IfReserve (line.Reserve r) P = P
IfReserve other P = Unit {0}

-- no line that may come next after these fits
abbrev pub IsStuck : Allocator → List Call → List Call → Type 0
IsStuck s lines placed = (next : Call) (left : List Call)
    → IsOrderOf lines (placed ++ next ∷ left) → ¬ (Fits (after_lines s placed) next)

-- The lines may have come in this order, in which some agree and the next one doesn't. After those
-- that agree no line that may come next does. It is a reservation only if the run agrees in no
-- order.
pub record Shows (c : Checked) (number : ℕ) (rest : List Call) (d : Difference) : Type 0 where
  pub placed : List Call
  pub next : Call
  pub left : List Call
  pub is_order : IsOrderOf (reserve_lines c.run ++ rest) (placed ++ next ∷ left)
  pub answered : AreAnswered c.allocator placed
  pub differs : Differs (after_lines c.allocator placed) number next d
  pub stuck : IsStuck c.allocator (reserve_lines c.run ++ rest) placed
  pub blamed : IfReserve next (HasNoOrder c)

-- no trace that goes on with this line agrees
abbrev pub NoneFollows : Checked → Call → Type 0
NoneFollows c l = (rest : List Call) → AgreesWith c (l ∷ rest) → ⊥

-- ---- where more is requested than an allocator counts

-- what a stop for too many requests reports
abbrev pub OnTooMany : CheckError → Type 0 → Type 0
OnTooMany stop.TooMany P = P
OnTooMany other P = Unit {0}

abbrev pub requested_in : List Reservation → ℕ
requested_in run = sum_by (λ (r : Reservation). r.requested) run

-- with this reservation more than 2^50 handles were requested since the last flush
abbrev pub IsTooManyIn : Checked → Reservation → Type 0
IsTooManyIn c r = 2 ^ 50 < c.allocator.asked + requested_in c.run + r.requested

-- the line is such a reservation
abbrev pub IsTooMany : Checked → Call → Type 0
IsTooMany c (line.Reserve r) = IsTooManyIn c r
IsTooMany c other = ⊥

-- ---- inside

abbrev pub reservations_of : List Placed → List Reservation
reservations_of run = map (λ (p : Placed). p.reservation) run

-- a later one of the same caller has no lesser key
abbrev pub ComesAfter : Placed → Placed → Type 0
ComesAfter p later = later.reservation.caller ≡ p.reservation.caller → p.key ≤ later.key

abbrev pub AreSteady : List Placed → Type 0
AreSteady [] = Unit {0}
AreSteady (p ∷ run) = AllByRecursion (ComesAfter p) run × AreSteady run

-- ---- keys

-- What a reservation's own key may be: the place of a handle that it was given among those that
-- there were to give, if it is there; for a refusal a number above all places. First comes the one
-- that says how many handles it left, then those that don't say it, the greatest first, then those
-- that found none.
abbrev pub KeyOf : List Handle → ℕ → ReserveReply → ℕ → Type 0
KeyOf given n (reserve.Handles []) own = own ≡ 0
KeyOf given n (reserve.Handles (h ∷ told)) own =
    (own < 2 ^ 32) × ((slice_get given own ≡ Some h) ⊎ (stands_in given h ≡ false))
KeyOf given n reserve.Space own = own + n ≡ 2 ^ 33
KeyOf given n (reserve.SpaceLeft zero) own = own ≡ 2 ^ 33
KeyOf given n (reserve.SpaceLeft (suc left)) own = own ≡ 2 ^ 32

-- the key is its own, or that of the caller's last one if that is greater
pub record IsKeyed (given : List Handle) (before : ℕ) (p : Placed) : Type 0 where
  pub own : ℕ
  pub key_of : KeyOf given p.reservation.requested p.reservation.reply own
  pub least : own ≤ p.key
  pub floor : before ≤ p.key
  pub either : (p.key ≡ own) ⊎ (p.key ≡ before)
  pub small : p.reservation.requested < 2 ^ 32

-- the last key of each caller after this reservation
abbrev pub raised : (ℕ → ℕ) → Placed → ℕ → ℕ
raised before p q = if q == p.reservation.caller then p.key else before q

-- the keys of a run, from the last keys of all callers on
abbrev pub AreKeyed : List Handle → (ℕ → ℕ) → List Placed → Type 0
AreKeyed given before [] = Unit {0}
AreKeyed given before (p ∷ run) =
    IsKeyed given (before p.reservation.caller) p × AreKeyed given (raised before p) run

abbrev pub keys_after : (ℕ → ℕ) → List Placed → ℕ → ℕ
keys_after before [] = before
keys_after before (p ∷ run) = keys_after (raised before p) run

-- no reservation of a caller has a greater key than the one that is kept for the caller
abbrev pub IsLatest : finite.FinMap nat_cmp ℕ → Placed → Type 0
IsLatest latest p = p.key ≤ unwrap_or (finite.get latest p.reservation.caller) 0

pub record IsChecking (s : Allocator) (wanted : ℕ) (run : List Placed)
    (latest : finite.FinMap nat_cmp ℕ) : Type 0 where
  pub wanted_is : wanted ≡ s.asked + requested_in (reservations_of run)
  pub wanted_in : wanted ≤ 2 ^ 50
  pub steady : AreSteady run
  pub latest_is : AllByRecursion (IsLatest latest) run
  pub keyed : AreKeyed (available s) (λ _. 0) run
  pub last : (q : ℕ) → unwrap_or (finite.get latest q) 0 ≡ keys_after (λ _. 0) run q
