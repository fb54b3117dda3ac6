use Rattle.spawnrun_lib.proofs.Common.{flat_map-append, rules, take_more, outcomes_of-append}
use Rattle.spawnrun_lib.proofs.Common.{append-nil, ◌≡◌, List, [], ◌∷◌, ◌++◌, Event, MachineState}
use Rattle.spawnrun_lib.proofs.Common.{after_event, after_events, after_events-append}
use Rattle.spawnrun_lib.proofs.replaying.outcome_text.Goals as goal

after-more : (s : MachineState) (before events : List Event) (event : Event)
    → events ≡ before ++ event ∷ []
    → after_events s events ≡ after_event (after_events s before) event
after-more s before events event is = search (rules, after_events-append)

pub loop-done-preserved : goal.loop-done-preserved
loop-done-preserved g c =
    search (rules, take_more, after-more, outcomes_of-append, flat_map-append, append-nil)
