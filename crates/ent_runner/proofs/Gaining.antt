-- What the record of a reserver gains by the entries of a log that a system filled with it.
use Rattle.ent_runner.proofs.Common.{◌≡◌, refl, ap, ℕ, List, [], ◌∷◌, ◌++◌, Result, All, All-nil}
use Rattle.ent_runner.proofs.Common.{All-cons, flat_map, flat_map-append, Handle, Space, Record}
use Rattle.ent_runner.proofs.Common.{Reservation, Shared, Reserver, IsReturned, Entry, Spawn}
use Rattle.ent_runner.proofs.Common.{spawned_in, Logs, request_of, requests_in, IsFilled}
use Rattle.ent_alloc.specs.declared.refused.Refused.TheVariants as refused
use Rattle.ent_log.specs.declared.entry.Entry.TheVariants as entry
use Rattle.ent_runner.proofs.Lists.{of_mapped}
use Rattle.ent_shared.proofs.Requested as requested
use Rattle.ent_shared.specs.Requests.{Gains, handles_in, stands_for}

-- a call for one handle
abbrev OfOne : ℕ × Result (List Handle) Space → Type 0
OfOne call = call.0 ≡ 1

pub log_gains_nothing : (C : Type 0) (r : Record) → Gains r (requests_in {C = C} []) r
log_gains_nothing C r = requested.gains_nothing r

module _ {C : Type 0} where
  abbrev pub LogGains : Record → List (Entry C) → Record → Type 0
  LogGains before log after = Gains before (requests_in log) after

  -- where one log follows another
  pub log_gains_then : (a b c : Record) (xs ys : List (Entry C)) → LogGains a xs b → LogGains b ys c
      → LogGains a (xs ++ ys) c
  log_gains_then a b c xs ys first second = rw (flat_map-append request_of xs ys)
      (requested.gains_then a b c (requests_in xs) (requests_in ys) first second)

  pub log_gains : (shared : Shared) (before after : Reserver) (log : List (Entry C))
      → IsFilled Logs [] (IsReturned shared) before log after → LogGains before.own log after.own
  log_gains shared before after log f = rw f.adds.log
      (requested.gains_served shared (requests_in f.adds.added) before after
      (rw f.adds.requests_are at f.served))

  -- the handles of the replies are those of the spawns
  pub spawned : (log : List (Entry C)) → flat_map handles_in (requests_in log) ≡ spawned_in log
  spawned [] = refl
  spawned (Spawn h ∷ log) = ap (λ hs. h ∷ hs) (spawned log)
  spawned (entry.Refused why ∷ log) = spawned log
  spawned (entry.Command command ∷ log) = spawned log

  each_one : (log : List (Entry C)) → All OfOne (flat_map stands_for (requests_in log))
  each_one [] = All-nil OfOne
  each_one (Spawn h ∷ log) = All-cons OfOne _ _ refl (each_one log)
  each_one (entry.Refused (refused.Space wanted left) ∷ log) =
      All-cons OfOne _ _ refl (each_one log)
  each_one (entry.Refused (refused.Quota left) ∷ log) = each_one log
  each_one (entry.Command command ∷ log) = each_one log

  -- each reservation was one of one handle
  pub one_each : (before after : Record) (log : List (Entry C)) (g : LogGains before log after)
      → All (λ (r : Reservation). r.requested ≡ 1) g.reservations
  one_each before after log g =
      of_mapped OfOne (λ (r : Reservation). (r.requested, r.reply)) g.reservations
      (rw g.calls (each_one log))
