-- Whole schedules: one event more, and one part after the other.
use Rattle.ent_replay.proofs.Common.{rules, ◌≡◌, refl, List, [], ◌∷◌, ◌++◌, Event, MachineState}
use Rattle.ent_replay.proofs.Common.{after_event, outcomes_of, after_events}

pub after_events-append : (s : MachineState) (xs ys : List Event)
    → after_events s (xs ++ ys) ≡ after_events (after_events s xs) ys
after_events-append s [] ys = refl
after_events-append s (e ∷ xs) ys = after_events-append (after_event s e) xs ys

pub outcomes_of-append : (s : MachineState) (xs ys : List Event)
    → outcomes_of s (xs ++ ys) ≡ outcomes_of s xs ++ outcomes_of (after_events s xs) ys
outcomes_of-append s [] ys = refl
outcomes_of-append s (e ∷ xs) ys = search (rules, outcomes_of-append (after_event s e) xs ys)
