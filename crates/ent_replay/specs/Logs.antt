-- The logs of callers.
use Rattle.std.specs.Prelude.{ℕ, zero, suc, List, [], ◌∷◌, ◌++◌, refl}
use Rattle.std.specs.Coded.{Coded, code_by, coded×, coded_ℕ, coded_list}
use Rattle.ent_replay.specs.contracts.trace.reservation.Reservation as reservation
use Rattle.ent_replay.specs.declared.trace.reservation.Reservation.{Reservation}

-- what one caller reserved, in its order
pub record Log : Type 0 where
  pub caller : ℕ
  pub reservations : List Reservation

abbrev pub log_code : Coded Log
log_code =
    code_by (ℕ × List Reservation) (coded× coded_ℕ (coded_list reservation.the_row.coded))
    (λ l. (l.caller, l.reservations)) (λ p. record { caller = p.0; reservations = p.1 }) (λ _. refl)

-- the same caller's log without its reservations
abbrev pub emptied : Log → Log
emptied log = record log { reservations = [] }

-- the empty logs of the callers below this number
abbrev pub new_logs : ℕ → List Log
new_logs zero = []
new_logs (suc n) = new_logs n ++ record { caller = n; reservations = [] } ∷ []
